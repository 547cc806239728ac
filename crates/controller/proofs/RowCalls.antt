-- Open and row: a call that hands a row to the extract, which moves on by the table or stays.
use Rattle.std.proofs.Common.{◌≡◌, ℕ, ◌+◌, Bool, true, false, List, [], ◌∷◌, ◌++◌, is_ok, Ok, Result, OnOk, OnErr, sym, refl, ap, ◌∙◌, subst}
use Rattle.std.proofs.lemmas.Bool.{true≢false}
use Rattle.cif.specs.declared.identity.Identity.{Identity}
use Rattle.cif.specs.declared.refusal.RowFault.{RowFault}
use Rattle.cif.specs.Refusals.{map_err, fault_of}
use Rattle.timetable.specs.Timetables.{Meaning}
use Rattle.board.specs.declared.display.Board.{Board}
use Rattle.board.specs.Boards.{slots_of}
use Rattle.extract.specs.declared.stage.Stage.{Stage}
use Rattle.extract.specs.Progress.{after_row}
use Rattle.extract.specs.Judging.{GoesBy}
use Rattle.controller.specs.declared.controller.Controller.{Controller}
use Rattle.controller.specs.declared.fault.ExtractFault.{ExtractFault}
use Rattle.controller.specs.declared.answer.Answer.TheVariants.{Done}
use Rattle.controller.specs.Faults.{in_extract}
use Rattle.controller.specs.Agreeing.{Agrees}
use Rattle.controller.specs.Calls.{Call, bytes_verdict, refusal_of}
use Rattle.controller.specs.Ledger.{Ledger, ledger_with, Accepts, answer_of}
use Rattle.controller.specs.Shown.{progress_in, standing_in, SameButExtract}
use Rattle.controller.specs.Keeping.{KeepsTo, is_confirm, state_in, Obeys}
use Rattle.controller.proofs.Heard.{heard_after}
use Rattle.controller.proofs.Kept.{obeys_done, keeps_extract}
use Rattle.controller.proofs.Agreed.{Places, agrees_more}
use Rattle.controller.proofs.Called.{told_ok, was_ok, same_ok, on_ok, on_err, at_err, transaction_lawful}

-- the row was heard, and a fault of it got the row's number
pub record RowHeard {S : Type 0} (meaning : S → Meaning) (misplaced : Stage → Identity → Bool) (old new : Controller S) (row : List ℕ) (r : Result (Unit {0}) RowFault) (out : Result (Unit {0}) ExtractFault) : Type 0 where
  pub numbered : out ≡ map_err (in_extract (old.extract.taken + 1)) r
  pub told : GoesBy (progress_in new) (bytes_verdict misplaced (standing_in meaning old) row) r
  pub unchanged : OnErr r (new ≡ old)
  pub rest : SameButExtract old new

module _ {S : Type 0} (meaning : S → Meaning) (misplaced : Stage → Identity → Bool) (old new : Controller S) (row : List ℕ) (r : Result (Unit {0}) RowFault) (out : Result (Unit {0}) ExtractFault) (heard : RowHeard meaning misplaced old new row r out) where
  by_rule : is_ok out ≡ true → bytes_verdict misplaced (standing_in meaning old) row ≡ Ok (progress_in new)
  by_rule ok = told_ok (progress_in new) _ r heard.told (was_ok (standing_in meaning old) row (progress_in new) r out heard.numbered ok)

  stays : is_ok out ≡ false → new ≡ old
  stays refused = at_err _ r heard.unchanged (sym (same_ok (standing_in meaning old) row (progress_in new) r out heard.numbered) ∙ refused)

  pub row_taken : OnOk out (progress_in new ≡ after_row (progress_in old) row)
  row_taken = on_ok _ out (λ ok. heard_after misplaced (standing_in meaning old) row (progress_in new) (by_rule ok))

  pub row_unchanged : OnErr out (new ≡ old)
  row_unchanged = on_err _ out stays

  pub row_obeys : Places misplaced → (call : Call)
      → ((slots : ℕ) → fault_of out ≡ refusal_of call (standing_in meaning old) slots)
      → ((ℓ : Ledger) → answer_of out ≡ Done → Accepts ℓ call (answer_of out))
      → ((ℓ : Ledger) → ledger_with ℓ call ≡ record ℓ { rows = ℓ.rows ++ row ∷ [] })
      → is_confirm call ≡ false
      → (b : Board) → Obeys (state_in meaning old b) (state_in meaning new b) call (answer_of out)
  row_obeys places call refused accepts more other b =
      let before = state_in meaning old b in
      let after = state_in meaning new b in
      let rest = heard.rest in
      let store = ap meaning rest.store in
      obeys_done before after call out (refused (slots_of b)) accepts
      (λ ok ℓ k. (
        subst (λ (m : Ledger). KeepsTo after m) (sym (more ℓ))
            (keeps_extract before after ℓ k (ℓ.rows ++ row ∷ [])
            (record { store = store; reference = rest.reference; tally = rest.tally; shown = refl; lines = refl })
            (subst (λ (t : Meaning). Agrees t (ℓ.rows ++ row ∷ []) (progress_in new)) (sym store)
            (agrees_more misplaced places (standing_in meaning old) row (progress_in new) ℓ.rows (transaction_lawful new.extract.draft) new.overlay.pending.lawful (by_rule ok) k.extract))),
        λ e. absurd (true≢false (sym e ∙ other)),
      ))
      (λ e. ap (λ v. state_in meaning v b) (stays e))
      (ap (λ (t : Meaning). t.capacity) store) refl
