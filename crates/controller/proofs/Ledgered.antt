-- The rows of a ledger were taken.
use Rattle.std.proofs.Common.{◌≡◌, ℕ, Bool, true, false, not, List, [], ◌∷◌, ◌++◌, length, Some, None, Option, MatchOption, fold, unwrap_or, sym, refl, ap, ◌∙◌, subst, arith}
use Rattle.std.proofs.lemmas.Bool.{true≢false, not-false}
use Rattle.std.proofs.lemmas.Bool.Decides.{nat_tests}
use Rattle.cif.specs.declared.content.Content.TheVariants.{Header}
use Rattle.cif.specs.declared.identity.Identity.{Identity}
use Rattle.cif.specs.declared.identity.Identity.TheVariants.{Header as IsHeader}
use Rattle.cif.specs.Refusals.{TableLine, uppermost, fault_at}
use Rattle.cif.specs.declared.refusal.Refusal.TheVariants.{OutOfPlace}
use Rattle.board.specs.Turning.{slot_lines}
use Rattle.cif.specs.declared.refusal.ColumnFault.{ColumnFault}
use Rattle.maps.proofs.Maps.{some_none}
use Rattle.timetable.specs.Timetables.{Meaning}
use Rattle.extract.specs.declared.stage.Stage.{Stage}
use Rattle.extract.specs.declared.stage.Stage.TheVariants.{Idle, Complete}
use Rattle.extract.specs.Stages.{is_idle, is_complete, next_stage, is_reading}
use Rattle.extract.specs.Progress.{Progress, identity_for, brief_in, idle, after_row, progress_of, transactions_of}
use Rattle.extract.specs.Judging.{Standing, is_misplaced, is_no_opening}
use Rattle.controller.specs.declared.fault.ExtractFault.{ExtractFault}
use Rattle.controller.specs.declared.answer.Answer.{Answer}
use Rattle.controller.specs.declared.answer.Answer.TheVariants.{Refused}
use Rattle.controller.specs.Calls.{Call, Open, Row, Confirm, Abandon, Turn, Page, Tell, Tally, refusal_of, refusals, told_with}
use Rattle.controller.specs.Ledger.{Ledger, ledger_after, ledger_with, store_for, standing_of, Accepts, AnswerOf, is_accepted}
use Rattle.controller.specs.ScheduleRows.{IsTaken, AreTaken, standing_after}
use Rattle.controller.specs.ExtractRows.{ComeTo, idle_over}
use Rattle.controller.specs.LedgerRows.{TakenFrom, RowsAreTaken, AreWhole, LedgerRowsAreTaken}
use Rattle.controller.proofs.Heard.{heard_read, row_moves}
use Rattle.controller.proofs.Taking.{none_mapped, taken_heard, opening_heard}
use Rattle.controller.proofs.Parting.{opened_by, extract_parted}
use Rattle.controller.proofs.Ending.{same_reference, each_counted, rows_end}

-- no row leads back to idle
moves_open : (st : Stage) (i : Identity) (brief : Bool) → is_idle st ≡ false → is_idle (unwrap_or (next_stage st i brief) st) ≡ false
moves_open st i true o = grind (arith, nat_tests)
moves_open st i false o = grind (arith, nat_tests)

-- once an extract is open, it is so after each row that is taken
row_open : (s : Standing) (row : List ℕ) → is_idle s.extract.stage ≡ false → IsTaken s row → is_idle (after_row s.extract row).stage ≡ false
row_open s row o t =
    let h = (taken_heard s row t).1 in
    ap (λ (p : Progress). is_idle p.stage) (row_moves s.extract row h.content (heard_read h)) ∙ moves_open s.extract.stage (identity_for h.content) (brief_in h.content) o

rows_open : (s : Standing) (rows : List (List ℕ)) → is_idle s.extract.stage ≡ false → AreTaken s rows → is_idle (fold after_row s.extract rows).stage ≡ false
rows_open s [] o t = o
rows_open s (row ∷ rows) o t = rows_open (standing_after s row) rows (row_open s row o t.0) t.1

-- only an HD is in place for open, and only when idle
opens_idle : (st : Stage) (i : Identity) → is_no_opening st i ≡ false → is_idle st ≡ true
opens_idle Idle i h = refl
opens_idle st i h = absurd (true≢false h)

was_idle : (s : Standing) (hd : List ℕ) → refusal_of (Open hd) s 0 ≡ None → is_idle s.extract.stage ≡ true
was_idle s hd taken = let h = (opening_heard s hd taken).1 in opens_idle s.extract.stage h.identity h.place

-- no row is in place for row when idle
idle_takes : (i : Identity) → is_misplaced Idle i ≡ true
idle_takes IsHeader = refl
idle_takes i = refl

row_not_idle : (s : Standing) (row : List ℕ) → IsTaken s row → s.extract.stage ≡ Idle → ⊥
row_not_idle s row t at =
    let h = (taken_heard s row t).1 in
    true≢false (sym (idle_takes h.identity) ∙ (ap (λ st. is_misplaced st h.identity) (sym at) ∙ h.place))

-- one row more that is taken
taken_more : (s : Standing) (rows : List (List ℕ)) (row : List ℕ) → AreTaken s rows → IsTaken (record s { extract = fold after_row s.extract rows }) row → AreTaken s (rows ++ row ∷ [])
taken_more s [] row t r = (r, tt)
taken_more s (x ∷ xs) row t r = (t.0, taken_more (standing_after s x) xs row t.1 r)

-- one row more, over a store and a reference
module _ (store : Meaning) (reference : List ℕ) where
  abbrev from : Standing
  from = idle_over store reference

  open_more : (rows : List (List ℕ)) (hd : List ℕ) → TakenFrom from rows → refusal_of (Open hd) (record from { extract = progress_of rows }) 0 ≡ None → TakenFrom from (rows ++ hd ∷ [])
  open_more [] hd t r = (r, tt)
  open_more (x ∷ xs) hd t r =
      let o = opened_by store reference x t.0 in
      let opens = ap (λ (p : Progress). is_idle p.stage) (row_moves idle x (Header o.0) o.1) in
      absurd (true≢false (sym (was_idle (record from { extract = progress_of (x ∷ xs) }) hd r) ∙ rows_open (standing_after from x) xs opens t.1))

  row_more : (rows : List (List ℕ)) (row : List ℕ) → TakenFrom from rows → IsTaken (record from { extract = progress_of rows }) row → TakenFrom from (rows ++ row ∷ [])
  row_more [] row t r = absurd (row_not_idle from row r refl)
  row_more (x ∷ xs) row t r = (t.0, taken_more (standing_after from x) xs row t.1 r)

-- an accepted call leaves the rows taken
accepted_keeps : (ℓ : Ledger) (capacity slots : ℕ) (call : Call) → refusal_of call (standing_of ℓ capacity) slots ≡ None → RowsAreTaken ℓ capacity → RowsAreTaken (ledger_with ℓ call) capacity
accepted_keeps ℓ capacity slots (Open row) r t = open_more (store_for ℓ capacity) ℓ.reference ℓ.rows row t r
accepted_keeps ℓ capacity slots (Row row) r t = row_more (store_for ℓ capacity) ℓ.reference ℓ.rows row t r
accepted_keeps ℓ capacity slots Confirm r t = tt
accepted_keeps ℓ capacity slots Abandon r t = tt
accepted_keeps ℓ capacity slots (Turn station day) r t = t
accepted_keeps ℓ capacity slots (Page name minute bytes) r t = t
accepted_keeps ℓ capacity slots (Tell place) r t = t
accepted_keeps ℓ capacity slots Tally r t = t

-- and a call that is answered as the ledger has it
answered_keeps : (ℓ : Ledger) (capacity slots : ℕ) (call : Call) (answer : Answer) → AnswerOf ℓ capacity slots call answer → RowsAreTaken ℓ capacity → RowsAreTaken (ledger_after ℓ call (is_accepted answer)) capacity
answered_keeps ℓ capacity slots call answer a t = of (refusal_of call (standing_of ℓ capacity) slots) refl a
  where
    either : (accepted : Bool) → RowsAreTaken (ledger_with ℓ call) capacity → RowsAreTaken (ledger_after ℓ call accepted) capacity
    either true k = k
    either false k = t

    of : (o : Option ExtractFault) → refusal_of call (standing_of ℓ capacity) slots ≡ o → MatchOption o (Accepts ℓ call answer) (λ f. answer ≡ Refused f) → RowsAreTaken (ledger_after ℓ call (is_accepted answer)) capacity
    of None e k = either (is_accepted answer) (accepted_keeps ℓ capacity slots call e t)
    of (Some f) e k = subst (λ (x : Bool). RowsAreTaken (ledger_after ℓ call x) capacity) (sym (ap is_accepted k)) t

-- where no line of a table holds, its first does not
first_free : (holds : Bool) (f : ColumnFault) (ls : List TableLine) → uppermost ((f, holds) ∷ ls) ≡ None → holds ≡ false
first_free true f ls h = absurd (some_none _ h)
first_free false f ls h = refl

-- a confirmation that is accepted finds the extract complete
complete_from : (s : Standing) (slots : ℕ) → refusal_of Confirm s slots ≡ None → is_complete s.extract.stage ≡ true
complete_from s slots r =
    let none = none_mapped (told_with Confirm s) (uppermost (refusals Confirm s slots)) r in
    not-false (is_complete s.extract.stage) (first_free (not (is_complete s.extract.stage)) (fault_at OutOfPlace 0) (slot_lines slots s.store.capacity) none)

complete_whole : (st : Stage) → is_complete st ≡ true → is_reading st ≡ false
complete_whole Complete h = refl
complete_whole st h = absurd (true≢false (sym h))

confirmed_whole : (ℓ : Ledger) (capacity slots : ℕ) → refusal_of Confirm (standing_of ℓ capacity) slots ≡ None → RowsAreTaken ℓ capacity → AreWhole ℓ
confirmed_whole ℓ capacity slots r t = of ℓ.rows refl t (complete_from (standing_of ℓ capacity) slots r)
  where
    of : (rows : List (List ℕ)) → ℓ.rows ≡ rows → TakenFrom (idle_over (store_for ℓ capacity) ℓ.reference) rows → is_complete (progress_of ℓ.rows).stage ≡ true → AreWhole ℓ
    of [] e t complete = absurd (true≢false (sym complete ∙ ap (λ rows. is_complete (progress_of rows).stage) e))
    of (hd ∷ rest) e t complete =
        let o = opened_by (store_for ℓ capacity) ℓ.reference hd t.0 in
        let at = row_moves idle hd (Header o.0) o.1 in
        let begun = standing_after (idle_over (store_for ℓ capacity) ℓ.reference) hd in
        let whole = sym (ap (λ rows. is_complete (progress_of rows).stage) e) ∙ complete in
        let come = subst (λ (rows : List (List ℕ)). ComeTo rest [] (transactions_of rows)) (sym e) (extract_parted (store_for ℓ capacity) ℓ.reference hd rest t.0 t.1 (complete_whole (progress_of (hd ∷ rest)).stage whole)) in
        let counted = each_counted begun rest t.1 in
        let first = ap (λ (p : Progress). p.taken) at in
        let all : (progress_of (hd ∷ rest)).taken ≡ length (hd ∷ rest) = omega arith in
        record {
          hd = hd;
          rest = rest;
          rows = e;
          header = o.0;
          opens = o.1;
          reference = ap (λ rows. (progress_of rows).current) e ∙ (same_reference begun rest t.1 ∙ ap (λ (p : Progress). p.current) at);
          taken = ap (λ rows. (progress_of rows).taken) e ∙ (all ∙ ap length (sym e));
          come = come;
          ends = rows_end begun rest come t.1 (ap (λ (p : Progress). p.stage) at) whole;
        }

pub ledgered : LedgerRowsAreTaken
ledgered = record { new = λ start capacity. tt; kept = answered_keeps; confirmed = confirmed_whole }
