-- A whole run, call by call.
use Rattle.std.proofs.Common.{drop, ◌-◌, ◌≡◌, ℕ, zero, suc, ◌+◌, ◌<◌, ◌≤◌, Some, None, Option, Ok, Err, Result, IfOk, MatchResult, List, [], ◌∷◌, ◌++◌, length, take, set, get_or, sym, refl, ap, ◌∙◌, subst, ⊎_elim, arith, get_or-set_same, get_or-set_other, slice_get, ◌≢◌}
use Rattle.std.proofs.lemmas.List.{take_all, length-take-le, drop-drop, length-map, length-append, get_or_push, get_or_append_left}
use Rattle.std.proofs.lemmas.List.Sums.{fold_push}
use Rattle.std.specs.Borrow.{MutBor}
use Rattle.board.specs.Boards.{lines_of}
use Rattle.board.specs.declared.line.Line.{Line}
use Rattle.controller.specs.Calls.{Call}
use Rattle.std.proofs.lemmas.Option.{get_or_from_slice_get, slice_get-get_or}
use Rattle.std.proofs.lemmas.Bool.{cases_lt}
use Rattle.schedule.specs.declared.record.Record.{Record}
use Rattle.timetable.specs.Timetables.{Meaning, StoreEdit}
use Rattle.overlay.specs.Permitted.{EachMayBeDone}
use Rattle.controller.specs.declared.answer.Answer.{Answer}
use Rattle.controller.specs.Ledger.{Writes, Ledger, LinesOf, Entry, ledger_after_all, is_accepted}
use Rattle.controller.specs.Keeping.{State, KeepsTo}
use Rattle.runs.specs.declared.call.Call.{Call as Asked}
use Rattle.runs.specs.declared.plan.Plan.{Plan}
use Rattle.runs.specs.declared.run.Run.{Run}
use Rattle.runs.specs.Calls.{call_meant, Room, room_of, call_within, calls_within, entries, ledger_at, WritesWhere, written_over}
use Rattle.runs.specs.declared.memory.Memory.{Memory}
use Rattle.runs.specs.Runs.{ledger_of, calls_of, memory_of, room_in, state_of, capacity_of, Makes, Next, Begins, GoesOn, installation_of}
use Rattle.runs.specs.WholeRuns.{ByLedger, FirstCalls, ledger_of_all, PastKept, Overwritten, calls_planned, line_slots, MadeAll, RunsAll}
use Rattle.runs.proofs.Ledgers.{start_kept}
use Rattle.runs.proofs.Runs.{stands_within, room_stays}

-- the answer to a later call changes nothing of what was written down before it
entries_before : (qs : List Call) (rs : List Answer) (i k : ℕ) (a : Answer) → k ≤ i → take k (entries qs (set rs i a)) ≡ take k (entries qs rs)
entries_before qs rs i zero a l = refl
entries_before qs rs zero (suc k) a l = absurd (omega arith)
entries_before [] rs (suc i) (suc k) a l = refl
entries_before (q ∷ qs) [] (suc i) (suc k) a l = refl
entries_before (q ∷ qs) (r ∷ rs) (suc i) (suc k) a l = ap (λ (es : List Entry). (q, is_accepted r) ∷ es) (entries_before qs rs i k a (omega arith))

entries_length : (qs : List Call) (rs : List Answer) → length rs ≡ length qs → length (entries qs rs) ≡ length qs
entries_length [] rs e = refl
entries_length (q ∷ qs) [] e = absurd (omega arith)
entries_length (q ∷ qs) (r ∷ rs) e = ap suc (entries_length qs rs (omega arith))

-- when all calls are made, all are written down
ledger_all : (first : Ledger) (qs : List Call) (rs : List Answer) (i : ℕ) → length rs ≡ length qs → length qs ≤ i → ledger_at first qs rs i ≡ ledger_of_all first qs rs
ledger_all first qs rs i e l = ap (ledger_after_all first) (take_all i (entries qs rs) (let n = entries_length qs rs e in omega arith))

-- the k-th answer after one was written
answer_other : (rs : List Answer) (i k : ℕ) (a y : Answer) → k ≢ i → slice_get (set rs i a) k ≡ Some y → k < length rs → slice_get rs k ≡ Some y
answer_other rs i k a y n e l = slice_get-get_or rs k y l ∙ ap Some (sym (get_or-set_other rs i k a y n) ∙ get_or_from_slice_get (set rs i a) k y y e)

answer_same : (rs : List Answer) (i : ℕ) (a y : Answer) → slice_get (set rs i a) i ≡ Some y → i < length rs → a ≡ y
answer_same rs i a y e l = sym (get_or-set_same rs i a y l) ∙ get_or_from_slice_get (set rs i a) i y y e

same_call : (qs : List Call) (i : ℕ) (x y : Call) → slice_get qs i ≡ Some x → slice_get qs i ≡ Some y → x ≡ y
same_call qs i x y p q = sym (get_or_from_slice_get qs i x x p) ∙ get_or_from_slice_get qs i y x q

-- what holds of the first calls, and of one more, holds of both
each_more : (P : ℕ → Ledger → Call → Answer → Type 0) (first : Ledger) (qs : List Call) (rs : List Answer) (i : ℕ) (q : Call) (a : Answer) → slice_get qs i ≡ Some q → i < length rs
    → P i (ledger_at first qs rs i) q a → FirstCalls P first qs rs i → FirstCalls P first qs (set rs i a) (i + 1)
each_more P first qs rs i q a at within new old k x y l e f =
    subst (λ (es : List Entry). P k (ledger_after_all first es) x y) (sym (entries_before qs rs i k a (omega arith)))
    (⊎_elim
    (λ before. old k x y before e (answer_other rs i k a y (λ z. (let w = z in omega arith)) f (omega arith)))
    (λ late. last (let z : i ≡ k = omega arith in z))
    (cases_lt k i))
  where
    last : i ≡ k → P k (ledger_at first qs rs k) x y
    last z =
        subst (λ (n : ℕ). P n (ledger_at first qs rs n) x y) z
        (subst (λ (c : Call). P i (ledger_at first qs rs i) c y) (same_call qs i q x at (ap (slice_get qs) z ∙ e))
        (subst (λ (b : Answer). P i (ledger_at first qs rs i) q b) (answer_same rs i a y (ap (slice_get (set rs i a)) z ∙ f) within) new))

-- the ledger after the first calls, when one more is made
ledger_before : (first : Ledger) (qs : List Call) (rs ss : List Answer) (i k : ℕ) (a : Answer) → ss ≡ set rs i a → k ≤ i → ledger_at first qs ss k ≡ ledger_at first qs rs k
ledger_before first qs rs ss i k a e l = ap (λ (ts : List Answer). ledger_at first qs ts k) e ∙ ap (ledger_after_all first) (entries_before qs rs i k a l)

-- what is the same from some place on is the same from any later one on
drop_twice : {X : Type 0} (zs : List X) (m n : ℕ) → m ≤ n → drop n zs ≡ drop (n - m) (drop m zs)
drop_twice zs m n l = ap (λ (k : ℕ). drop k zs) (let z : n ≡ m + (n - m) = omega arith in z) ∙ sym (drop-drop (n - m) m zs)

drop_later : {X : Type 0} (xs ys : List X) (m n : ℕ) → m ≤ n → drop m xs ≡ drop m ys → drop n xs ≡ drop n ys
drop_later xs ys m n l e = drop_twice xs m n l ∙ (ap (drop (n - m)) e ∙ sym (drop_twice ys m n l))

module _ {S : Type 0} {M : _} (meaning : S → Meaning) (becomes : S → List StoreEdit → S → Type 0) (first : Ledger) (qs : List Call) (before after : Run S M) (call : Call) (a : Answer)
    (on : GoesOn before after a) (makes : Makes meaning becomes first before after call a) where
  -- one call more leaves the slots past the most lines
  past_more : (lent : MutBor (List Line)) → calls_of after ≡ qs
      → PastKept first qs before.answers.now before.made lent (installation_of before).board
      → PastKept first qs after.answers.now after.made lent (installation_of after).board
  past_more lent planned past = record {
    lender = makes.rest.lender ∙ past.lender;
    rest = λ n most.
        let b = (installation_of after).board in
        let shown = subst (λ (cs : List Call). LinesOf (ledger_at first cs after.answers.now after.made) (lines_of b)) planned makes.keeps_after.lines in
        let lines : length (lines_of b) ≤ n = most after.made (lines_of b) (omega arith) shown in
        let held : length (lines_of b) ≡ b.lines.elements.len = length-take-le b.lines.elements.len b.lines.elements.slots.now b.lines.elements.fits in
        drop_later (line_slots b).now (line_slots (installation_of before).board).now b.lines.elements.len n (omega arith) makes.rest.rest
        ∙ past.rest n (λ k xs l h. most k xs (let m = on.made in omega arith)
        (subst (λ (ℓ : Ledger). LinesOf ℓ xs) (sym (ledger_before first qs before.answers.now after.answers.now before.made k a on.answers l)) h));
  }

  -- what holds of the first calls and of this one
  each_on : (P : ℕ → Ledger → Call → Answer → Type 0) → slice_get qs before.made ≡ Some call → before.made < length before.answers.now
      → P before.made (ledger_at first qs before.answers.now before.made) call a
      → FirstCalls P first qs before.answers.now before.made → FirstCalls P first qs after.answers.now after.made
  each_on P at within new old =
      subst (λ (m : ℕ). FirstCalls P first qs after.answers.now m) (sym on.made)
      (subst (λ (rs : List Answer). FirstCalls P first qs rs (before.made + 1)) (sym on.answers)
      (each_more P first qs before.answers.now before.made call a at within new old))

  -- it writes over what the calls before it wrote
  written_more : (lent : Memory) → calls_of before ≡ qs → slice_get qs before.made ≡ Some call → before.made < length before.answers.now
      → Overwritten first qs before.answers.now before.made lent (memory_of before)
      → Overwritten first qs after.answers.now after.made lent (memory_of after)
  written_more lent planned at within old =
      let w = makes.leaves.bytes.written in
      let so_far = old.bytes.written in
      let more = so_far ++ w ∷ [] in
      let ledger = ap (λ (cs : List Call). ledger_at first cs before.answers.now before.made) planned in
      let place : get_or more before.made [] ≡ w = get_or_push so_far w [] before.made old.bytes.one_each in
      record {
        bytes = record {
          written = more;
          one_each = length-append so_far (w ∷ []) ∙ (ap (λ (n : ℕ). n + 1) old.bytes.one_each ∙ sym on.made);
          each = each_on (λ k ℓ c answer. WritesWhere (is_accepted answer) (Writes ℓ c) (get_or more k [])) at within
              (subst (λ (ws : List ℕ). WritesWhere (is_accepted a) (Writes (ledger_at first qs before.answers.now before.made) call) ws) (sym place)
              (subst (λ (ℓ : Ledger). WritesWhere (is_accepted a) (Writes ℓ call) w) ledger makes.leaves.bytes.wrote))
              (λ k c answer l e f. subst (λ (ws : List ℕ). WritesWhere (is_accepted answer) (Writes (ledger_at first qs before.answers.now k) c) ws)
              (sym (get_or_append_left so_far (w ∷ []) [] k (let n = old.bytes.one_each in omega arith))) (old.bytes.each k c answer l e f));
          over = makes.leaves.bytes.over ∙ (ap (λ (bs : List ℕ). written_over bs w) old.bytes.over ∙ sym (fold_push written_over lent.bytes.now so_far w));
        };
        room = room_stays makes.leaves ∙ old.room;
        lender = makes.leaves.lender ∙ old.lender;
      }

-- a run that has made so many of the calls of a plan
pub record SoFar {S : Type 0} {M : _} (meaning : S → Meaning) (first : Ledger) (p : Plan S) (run : Run S M) (n : ℕ) : Type 0 where
  pub calls : run.calls ≡ p.calls
  pub lender : run.answers.ghost_name ≡ p.answers.ghost_name
  pub made : run.made ≡ n
  pub each : FirstCalls (λ _. ByLedger (meaning p.store).capacity (length p.slots.now)) first (calls_planned p) run.answers.now run.made
  pub capacity : capacity_of meaning run ≡ (meaning p.store).capacity
  pub slots : (state_of meaning run).slots ≡ length p.slots.now
  pub past : PastKept first (calls_planned p) run.answers.now run.made p.slots (installation_of run).board
  pub memory : Overwritten first (calls_planned p) run.answers.now run.made p.memory (memory_of run)

-- its calls are those of the plan
planned : {S : Type 0} {M : _} (p : Plan S) (run : Run S M) → run.calls ≡ p.calls → room_of (memory_of run) ≡ room_of p.memory → calls_of run ≡ calls_planned p
planned p run e r = ap (λ (n : Room). calls_within n run.calls.now) r ∙ ap (λ (c : _). calls_within (room_of p.memory) c.now) e

pub none_made : {S : Type 0} {M : _} (meaning : S → Meaning) (first : Ledger) (p : Plan S) (run : Run S M) → Begins meaning p run → SoFar meaning first p run 0
none_made meaning first p run b = record {
  calls = b.calls;
  lender = ap (λ (a : _). a.ghost_name) b.answers;
  made = b.made;
  each = λ k call answer l e f. absurd (let m = b.made in omega arith);
  capacity = ap (λ (s : _). (meaning s).capacity) b.store;
  slots = ap length b.slots.kept;
  past = record { lender = b.slots.lender; rest = λ n most. ap (drop n) b.slots.kept };
  memory = record {
    bytes = record {
      written = [];
      one_each = sym b.made;
      each = λ k call answer l e f. absurd (let m = b.made in omega arith);
      over = ap (λ (m : Memory). m.bytes.now) b.memory;
    };
    room = ap room_of b.memory;
    lender = ap (λ (m : Memory). m.bytes.ghost_name) b.memory;
  };
}

-- what a call that is made says, by the ledger
by_ledger : {S : Type 0} {M : _} (meaning : S → Meaning) (becomes : S → List StoreEdit → S → Type 0) (first : Ledger) (before after : Run S M) (call : Call) (a : Answer) (capacity slots : ℕ) → capacity_of meaning before ≡ capacity → (state_of meaning before).slots ≡ slots
    → Makes meaning becomes first before after call a → ByLedger capacity slots (ledger_of first before) call a
by_ledger meaning becomes first before after call a capacity slots c n m =
    subst (λ (x : ℕ). ByLedger x slots (ledger_of first before) call a) c
    (subst (λ (y : ℕ). ByLedger (capacity_of meaning before) y (ledger_of first before) call a) n
    (record {
      told = m.told;
      before = (state_of meaning before).lines;
      shown_before = m.keeps_before.lines;
      after = (state_of meaning after).lines;
      shown_after = subst (λ (ℓ : Ledger). LinesOf ℓ (state_of meaning after).lines) m.written m.keeps_after.lines;
      unnamed = m.unnamed;
    }))

pub one_more : {S : Type 0} {M : _} (meaning : S → Meaning) (becomes : S → List StoreEdit → S → Type 0) (first : Ledger) (p : Plan S) (before after : Run S M) (answer : Option Answer) (n : ℕ)
    → n < length p.calls.now → SoFar meaning first p before n → Next meaning becomes first before after answer → SoFar meaning first p after (n + 1)
one_more meaning becomes first p before after None n l s next = absurd (let a = next.none_left in let b = s.made in let c : length before.calls.now ≡ length p.calls.now = ap (λ (c : _). length c.now) s.calls in omega arith)
one_more meaning becomes first p before after (Some a) n l s next =
    let capacity = (meaning p.store).capacity in
    let slots = length p.slots.now in
    let qs = calls_planned p in
    let call = call_within (room_in before) (call_meant next.call) in
    let calls = next.goes_on.calls ∙ s.calls in
    let same = planned p before s.calls s.memory.room in
    let at : slice_get qs before.made ≡ Some call = ap (λ (cs : List Call). slice_get cs before.made) (sym same) ∙ stands_within (room_in before) before.calls.now before.made next.call next.next in
    let within : before.made < length before.answers.now =
    (let b = s.made in let c : length before.calls.now ≡ length p.calls.now = ap (λ (c : _). length c.now) s.calls in let d = before.places in omega arith) in
    let new = subst (λ (cs : List Call). ByLedger capacity slots (ledger_at first cs before.answers.now before.made) call a) same
    (by_ledger meaning becomes first before after call a capacity slots s.capacity s.slots next.makes) in
    record {
      calls = calls;
      lender = next.goes_on.lender ∙ s.lender;
      made = next.goes_on.made ∙ ap (λ (m : ℕ). m + 1) s.made;
      each = each_on meaning becomes first qs before after call a next.goes_on next.makes (λ _. ByLedger capacity slots) at within new s.each;
      capacity = next.makes.capacity ∙ s.capacity;
      slots = next.makes.slots ∙ s.slots;
      past = past_more meaning becomes first qs before after call a next.goes_on next.makes p.slots (planned p after calls (room_stays next.makes.leaves ∙ s.memory.room)) s.past;
      memory = written_more meaning becomes first qs before after call a next.goes_on next.makes p.memory same at within s.memory;
    }

-- each transaction that was confirmed could be done, over a store of a capacity that had the map of the start
all_confirmed : (s : State) (first : Ledger) (es : List Entry) (capacity : ℕ) → s.standing.store.capacity ≡ capacity → KeepsTo s (ledger_after_all first es)
    → EachMayBeDone (record { map = first.start; capacity = capacity }) (ledger_after_all first es).confirmed
all_confirmed s first es capacity e k =
    let ℓ = ledger_after_all first es in
    subst (λ (n : ℕ). EachMayBeDone (record { map = first.start; capacity = n }) ℓ.confirmed) e
    (subst (λ (m : List Record). EachMayBeDone (record { map = m; capacity = s.standing.store.capacity }) ℓ.confirmed) (start_kept first es) k.confirmed)

pub all_made : {S : Type 0} {M : _} (meaning : S → Meaning) (first : Ledger) (p : Plan S) (run : Run S M) (n : ℕ) → length p.calls.now ≤ n → SoFar meaning first p run n
    → KeepsTo (state_of meaning run) (ledger_of first run) → RunsAll first (meaning p.store).capacity (length p.slots.now) (calls_planned p) run.answers.now (state_of meaning run)
all_made meaning first p run n l s k =
    let qs = calls_planned p in
    let within = λ (q : Asked). call_within (room_of p.memory) (call_meant q) in
    let many : length qs ≡ length p.calls.now = length-map p.calls.now within in
    let places : length run.answers.now ≡ length qs = run.places ∙ (ap (λ (c : _). length c.now) s.calls ∙ sym many) in
    let same : ledger_of first run ≡ ledger_at first qs run.answers.now run.made = ap (λ (cs : List Call). ledger_at first cs run.answers.now run.made) (planned p run s.calls s.memory.room) in
    let all : ledger_of first run ≡ ledger_of_all first qs run.answers.now = same ∙ ledger_all first qs run.answers.now run.made places (let m = s.made in omega arith) in
    let keeps : KeepsTo (state_of meaning run) (ledger_of_all first qs run.answers.now) = subst (λ (ℓ : Ledger). KeepsTo (state_of meaning run) ℓ) all k in
    record {
      places = places;
      each = λ i call answer w e f. s.each i call answer (let m = s.made in omega arith) e f;
      keeps = keeps;
      confirmed = all_confirmed (state_of meaning run) first (entries qs run.answers.now) (meaning p.store).capacity s.capacity keeps;
      capacity_stays = s.capacity;
      slots_stay = s.slots;
    }

pub made_all : {S : Type 0} {M : _} (meaning : S → Meaning) (first : Ledger) (p : Plan S) (run : Run S M) (n : ℕ) → length p.calls.now ≤ n → n ≤ length p.calls.now
    → SoFar meaning first p run n → MadeAll first p run
made_all meaning first p run n l m s = record { calls = s.calls; made = (let e = s.made in omega arith); lender = s.lender; slots = s.past; memory = s.memory }

-- where both were run
pub both_ok : {X Y Z W : Type 0} (r : Result X Y) (t : Result Z W) (P : X → Type 0) (Q : Y → Type 0) (R : Z → Type 0) (V : W → Type 0) (G : X → Z → Type 0)
    → ((x : X) (z : Z) → P x → R z → G x z) → MatchResult r P Q → MatchResult t R V → IfOk r (λ x. IfOk t (λ z. G x z))
both_ok (Ok x) (Ok z) P Q R V G f p q = f x z p q
both_ok (Ok x) (Err w) P Q R V G f p q = tt
both_ok (Err y) t P Q R V G f p q = tt
