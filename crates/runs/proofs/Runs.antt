-- A run, call by call.
use Rattle.std.proofs.Common.{Bool, refl, None, Option, MatchOption, nat_lt, true, slice_index_or, ◌≡◌, ℕ, zero, suc, ◌+◌, ◌<◌, List, [], ◌∷◌, ◌++◌, length, take, set, Some, sym, ap, ◌∙◌, subst, arith, slice_get}
use Rattle.std.proofs.lemmas.List.Sums.{fold_push}
use Rattle.std.proofs.lemmas.Bool.Decides.{nat_tests}
use Rattle.std.specs.Option.{option_map}
use Rattle.std.proofs.lemmas.Option.{get_or_from_slice_get, slice_get_within, slice_get-get_or, slice_get-map}
use Rattle.controller.specs.Keeping.{State, KeepsTo, Obeys, is_confirm}
use Rattle.controller.specs.declared.fault.ExtractFault.{ExtractFault}
use Rattle.controller.specs.declared.answer.Answer.TheVariants.{Refused}
use Rattle.controller.specs.Calls.{Call, Confirm, refusal_of}
use Rattle.controller.specs.LedgerRows.{RowsAreTaken, AreWhole}
use Rattle.controller.proofs.Ledgered.{ledgered}
use Rattle.std.proofs.lemmas.Bool.{false≢true}
use Rattle.controller.specs.declared.answer.Answer.{Answer}
use Rattle.controller.specs.Ledger.{Ledger, ledger_after, Entry, ledger_after_all, is_accepted, standing_of, Accepts, AnswerOf}
use Rattle.schedule.specs.declared.transaction.Change.{Change}
use Rattle.timetable.specs.Timetables.{Meaning, StoreEdit}
use Rattle.extract.specs.Progress.{Progress}
use Rattle.runs.specs.declared.call.Call.{Call as Asked}
use Rattle.runs.specs.declared.memory.Memory.{Memory}
use Rattle.runs.specs.declared.run.Run.{Run}
use Rattle.runs.specs.Runs.{ledger_of, installation_of, memory_of, room_in, store_in, state_of, capacity_of, GoesOn, MakesNext}
use Rattle.runs.specs.Calls.{call_meant, Room, Leaves, room_of, call_within, calls_within, edits_by, Does, DoesTo, Keeps, entries, ledger_at}

-- one call more
entries_more : (qs : List Call) (rs : List Answer) (i : ℕ) (q : Call) (a : Answer) → slice_get qs i ≡ Some q → i < length rs → take (suc i) (entries qs (set rs i a)) ≡ take i (entries qs rs) ++ (q, is_accepted a) ∷ []
entries_more [] rs i q a e l = absurd (let w = slice_get_within [] i q e in omega arith)
entries_more (x ∷ qs) [] i q a e l = absurd (omega arith)
entries_more (x ∷ qs) (r ∷ rs) zero q a e l = ap (λ (y : Call). (y, is_accepted a) ∷ []) (get_or_from_slice_get (x ∷ qs) zero q x e)
entries_more (x ∷ qs) (r ∷ rs) (suc i) q a e l = ap (λ (es : List Entry). (x, is_accepted r) ∷ es) (entries_more qs rs i q a e (omega arith))

-- a call stands at its place within a memory too
pub stands_within : (m : Room) (qs : List Asked) (i : ℕ) (q : Asked) → slice_get qs i ≡ Some q → slice_get (calls_within m qs) i ≡ Some (call_within m (call_meant q))
stands_within m qs i q e = let within = λ (x : Asked). call_within m (call_meant x) in slice_get-map within qs i ∙ ap (option_map within) e

-- what a call leaves of a memory is as much as before
pub room_stays : {ℓ : Ledger} {call : Call} {accepted : Bool} {before after : Memory} → Leaves ℓ call accepted before after → room_of after ≡ room_of before
room_stays l = ap (λ (n : ℕ). record { bytes = n }) l.bytes.room

-- an answer that accepts a call says that no line of the table of refusals holds
accepted_free : (ℓ : Ledger) (capacity slots : ℕ) (call : Call) (a : Answer) → AnswerOf ℓ capacity slots call a → is_accepted a ≡ true → refusal_of call (standing_of ℓ capacity) slots ≡ None
accepted_free ℓ capacity slots call a told h = of (refusal_of call (standing_of ℓ capacity) slots) told
  where
    of : (o : Option ExtractFault) → MatchOption o (Accepts ℓ call a) (λ f. a ≡ Refused f) → o ≡ None
    of None e = refl
    of (Some f) e = absurd (false≢true (ap is_accepted (sym e) ∙ h))

-- the rows of a confirmed extract are an HD and whole parts
confirmed_parts : (ℓ : Ledger) (capacity slots : ℕ) (call : Call) (a : Answer) → AnswerOf ℓ capacity slots call a → RowsAreTaken ℓ capacity → is_confirm call ≡ true → is_accepted a ≡ true → AreWhole ℓ
confirmed_parts ℓ capacity slots Confirm a told rows c h = ledgered.confirmed ℓ capacity slots (accepted_free ℓ capacity slots Confirm a told h) rows
confirmed_parts ℓ capacity slots call a told rows c h = absurd (false≢true c)

-- a call that obeys is kept to
keeps_after : (ℓ : Ledger) (s t : State) (call : Call) (a : Answer) → Obeys s t call a → Keeps s ℓ → Keeps t (ledger_after ℓ call (is_accepted a))
keeps_after ℓ s t call a o k =
    let obeyed = o.ledger ℓ k.ledger in
    record {
      ledger = obeyed.keeps;
      rows = subst (λ (n : ℕ). RowsAreTaken (ledger_after ℓ call (is_accepted a)) n) (sym o.capacity)
          (ledgered.kept ℓ s.standing.store.capacity s.slots call a obeyed.told k.rows);
    }

module _ (first : Ledger) (m n : Room) (qs : List Asked) (rs ss : List Answer) (i j : ℕ) (q d : Asked) (a : Answer) (places : length rs ≡ length qs) (there : true ≡ nat_lt i (length qs))
    (is : q ≡ slice_index_or qs i d) (room : n ≡ m) (answers : ss ≡ set rs i a) (made : j ≡ i + 1) where
  within : i < length qs
  within = grind (arith, nat_tests)

  -- the call stands at its place
  pub stands_at : slice_get qs i ≡ Some q
  stands_at = slice_get-get_or qs i d within ∙ ap Some (sym is)

  -- it is written down
  pub written : ledger_at first (calls_within n qs) ss j ≡ ledger_after (ledger_at first (calls_within m qs) rs i) (call_within m (call_meant q)) (is_accepted a)
  written =
      let calls = calls_within m qs in
      let call = call_within m (call_meant q) in
      ap (λ (r : Room). ledger_at first (calls_within r qs) ss j) room
      ∙ (ap (λ (ts : List Answer). ledger_at first calls ts j) answers
      ∙ (ap (ledger_at first calls (set rs i a)) (let z : j ≡ suc i = omega arith in z)
      ∙ (ap (ledger_after_all first) (entries_more calls rs i call a (stands_within m qs i q stands_at) (let w = within in omega arith))
      ∙ fold_push (λ (x : Ledger) (y : Entry). ledger_after x y.0 y.1) first (take i (entries calls rs)) (call, is_accepted a))))

  -- a call that obeys keeps to the ledger that has it
  pub keeps_on : (s t : State) → Obeys s t (call_within m (call_meant q)) a → Keeps s (ledger_at first (calls_within m qs) rs i) → Keeps t (ledger_at first (calls_within n qs) ss j)
  keeps_on s t o k = subst (λ (ℓ : Ledger). Keeps t ℓ) (sym written) (keeps_after (ledger_at first (calls_within m qs) rs i) s t (call_within m (call_meant q)) a o k)

-- a run whose installation obeys makes its next call
pub makes_next : {S : Type 0} {M : _} (meaning : S → Meaning) (becomes : S → List StoreEdit → S → Type 0) (first : Ledger) (before after : Run S M) (q d : Asked) (a : Answer)
    → true ≡ nat_lt before.made (length before.calls.now) → q ≡ slice_index_or before.calls.now before.made d → GoesOn before after a
    → Does meaning becomes (installation_of before) (installation_of after) (call_within (room_in before) (call_meant q)) a
    → DoesTo meaning (installation_of before) (memory_of before) (memory_of after) (call_within (room_in before) (call_meant q)) a → Keeps (state_of meaning before) (ledger_of first before) → MakesNext meaning becomes first before after a
makes_next meaning becomes first before after q d a there is on does memory k =
    let ℓ = ledger_of first before in
    let call = call_within (room_in before) (call_meant q) in
    let obeyed = does.obeys.ledger ℓ k.ledger in
    let leaves = memory.leaves ℓ k.ledger in
    let room = room_stays leaves in
    let at = stands_at first (room_in before) (room_in after) before.calls.now before.answers.now after.answers.now before.made after.made q d a before.places there is room on.answers on.made in
    let noted : ledger_of first after ≡ ledger_after ℓ call (is_accepted a) =
    ap (λ (c : _). ledger_at first (calls_within (room_in after) c.now) after.answers.now after.made) on.calls
    ∙ written first (room_in before) (room_in after) before.calls.now before.answers.now after.answers.now before.made after.made q d a before.places there is room on.answers on.made in
    record {
      call = q;
      next = at;
      goes_on = on;
      makes = record {
        told = obeyed.told;
        written = noted;
        keeps_before = k.ledger;
        keeps_after = subst (λ (m : Ledger). KeepsTo (state_of meaning after) m) (sym noted) obeyed.keeps;
        unchanged = does.unchanged;
        untouched = memory.untouched;
        asks = does.asks;
        behind = memory.behind;
        leaves = leaves;
        unnamed = obeyed.unnamed;
        parts = confirmed_parts ℓ (capacity_of meaning before) (state_of meaning before).slots call a obeyed.told k.rows;
        store = subst (λ (cs : List Change). becomes (store_in before) (edits_by call (is_accepted a) cs) (store_in after)) (ap (λ (p : Progress). p.changes) k.ledger.extract.progress) does.store;
        store_stays = does.store_stays;
        capacity = does.obeys.capacity;
        slots = does.obeys.slots;
        rest = does.rest;
      };
    }
