-- What a call leaves in a memory.
use Rattle.std.proofs.Common.{◌≡◌, ℕ, ◌≤◌, Bool, true, false, List, [], ◌++◌, length, take, drop, take-append-drop, Ok, Err, Result, OnOk, OnErr, refl, sym, ap, ◌∙◌, subst, arith}
use Rattle.std.proofs.lemmas.List.{length-append, length-drop}
use Rattle.std.specs.Bool.{OnFalse}
use Rattle.timetable.specs.Timetables.{Meaning}
use Rattle.controller.specs.declared.answer.Answer.{Answer}
use Rattle.controller.specs.declared.fault.ExtractFault.{ExtractFault}
use Rattle.controller.specs.Calls.{Call, Page}
use Rattle.controller.specs.Keeping.{State, KeepsTo, WritesByLedger}
use Rattle.controller.specs.Ledger.{Ledger, Writes, is_accepted, answer_of}
use Rattle.runs.specs.Calls.{call_meant, call_within, room_of, Leaves, LeavesIn, DoesTo}
use Rattle.runs.specs.declared.call.Call.{Call as Asked}
use Rattle.runs.specs.declared.installation.Installation.{Installation}
use Rattle.runs.specs.declared.memory.Memory.{Memory}

-- a call that writes nothing leaves it as it was
pub leaves_alone : (ℓ : Ledger) (call : Call) (accepted : Bool) (m : Memory) → Writes ℓ call [] → Leaves ℓ call accepted m m
leaves_alone ℓ call true m w = record { bytes = record { written = []; wrote = w; over = refl; room = refl }; lender = refl }
leaves_alone ℓ call false m w = record { bytes = record { written = []; wrote = refl; over = refl; room = refl }; lender = refl }

pub untouched : {X : Type 0} (accepted : Bool) (x : X) → OnFalse accepted (x ≡ x)
untouched true x = tt
untouched false x = refl

-- whatever it answers
pub nothing_written : {S : Type 0} (meaning : S → Meaning) (before : Installation S) (m : Memory) (q asked : Asked) (a : Answer) → q ≡ asked
    → ((ℓ : Ledger) → Writes ℓ (call_within (room_of m) (call_meant asked)) []) → DoesTo meaning before m m (call_within (room_of m) (call_meant q)) a
nothing_written meaning before m q asked a e w =
    subst (λ (x : Asked). DoesTo meaning before m m (call_within (room_of m) (call_meant x)) a) (sym e)
    (record {
      leaves = λ ℓ k. leaves_alone ℓ (call_within (room_of m) (call_meant asked)) (is_accepted a) m (w ℓ);
      untouched = untouched (is_accepted a) m;
      behind = refl;
    })

-- a page that is written into the first bytes of a memory, or refused and left as it was
pub page_leaves : (before : State) (ℓ : Ledger) (name : List ℕ) (minute m n h : ℕ) (old new : List ℕ) (r : Result (Unit {0}) ExtractFault) → KeepsTo before ℓ → h ≤ length old → length new ≡ h
    → OnOk r (WritesByLedger before (Page name minute m) new) → OnErr r (new ≡ take h old)
    → LeavesIn (Writes ℓ (Page name minute n)) (is_accepted (answer_of r)) old (new ++ drop h old)
page_leaves before ℓ name minute m n h old new (Ok u) k l e w same = record {
  written = new;
  wrote = w ℓ k;
  over = ap (λ (i : ℕ). new ++ drop i old) (sym e);
  room = length-append new (drop h old) ∙ (let d = length-drop h old in omega arith);
}
page_leaves before ℓ name minute m n h old new (Err f) k l e w same =
    let whole = ap (λ (xs : List ℕ). xs ++ drop h old) same ∙ take-append-drop h old in
    record { written = []; wrote = refl; over = whole; room = ap length whole }

-- a page that is refused leaves the memory the value that it was
pub untouched_page : (r : Result (Unit {0}) ExtractFault) (a : Answer) (m : Memory) (new : List ℕ) → a ≡ answer_of r → OnErr r (new ≡ m.bytes.now)
    → OnFalse (is_accepted a) (◌≡◌ {A = Memory} (record { bytes = record m.bytes { now = new } }) m)
untouched_page (Ok u) a m new e same = subst (λ (x : Answer). OnFalse (is_accepted x) (◌≡◌ {A = Memory} (record { bytes = record m.bytes { now = new } }) m)) (sym e) tt
untouched_page (Err f) a m new e same =
    subst (λ (x : Answer). OnFalse (is_accepted x) (◌≡◌ {A = Memory} (record { bytes = record m.bytes { now = new } }) m)) (sym e)
    (ap (λ (bs : List ℕ). record { bytes = record m.bytes { now = bs } }) same)
