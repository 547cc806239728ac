-- What is in force in a map that is written out, by a test that computes.
use Rattle.std.proofs.Common.{◌≡◌, ℕ, Bool, true, false, not, ◌&&◌, ◌||◌, eqb, List, [], ◌∷◌, Some, sym, refl, ap, ◌∙◌, ⊎_elim}
use Rattle.std.proofs.lemmas.Option.{none-some, same_Some}
use Rattle.std.proofs.lemmas.Bool.{and_parts, cases_Bool, both_ways, cond-true, cond-false, eq-eqb, and_from}
use Rattle.maps.specs.Orders.{same}
use Rattle.schedule.specs.declared.key.Key.{Key}
use Rattle.schedule.specs.declared.record.Record.{Record}
use Rattle.schedule.specs.Keys.{key_before}
use Rattle.schedule.specs.Records.{key_of}
use Rattle.timetable.specs.Timetables.{schedule_of}
use Rattle.running.specs.Running.{Holds, Candidate, InForce, covering}
use Rattle.running.specs.Walking.{outranking}
use Rattle.running.specs.Worked.{Worked}
use Rattle.running.proofs.Walks.{outranking_true}

-- every schedule of the train that covers the day passes a test
passing : (Record → Bool) → ℕ → ℕ → List Record → Bool
passing test uid day [] = true
passing test uid day (s ∷ ss) = (not (eqb s.key.uid uid && covering s day) || test s) && passing test uid day ss

passes : (test : Record → Bool) (uid day : ℕ) (m : List Record) (k : Key) (s : Record) → passing test uid day m ≡ true → schedule_of m k ≡ Some s → (eqb s.key.uid uid && covering s day) ≡ true → test s ≡ true
unfolding passing
passes test uid day [] k s p h c = absurd (none-some s h)
passes test uid day (y ∷ ys) k s p h c =
    let q = and_parts (not (eqb y.key.uid uid && covering y day) || test y) (passing test uid day ys) p in
    ⊎_elim
    (λ t.
    let e : s ≡ y = same_Some s y (sym h ∙ cond-true (same key_before (key_of y) k) (Some y) (schedule_of ys k) t) in
    ap test e ∙ (sym (ap (λ (b : Bool). not b || test y) (sym (ap (λ (r : Record). eqb r.key.uid uid && covering r day) e) ∙ c)) ∙ q.0))
    (λ f. passes test uid day ys k s q.1 (sym (cond-false (same key_before (key_of y) k) (Some y) (schedule_of ys k) f) ∙ h) c)
    (cases_Bool (same key_before (key_of y) k))

counts : (m : List Record) (uid day : ℕ) (s : Record) → Candidate m uid day s → (eqb s.key.uid uid && covering s day) ≡ true
counts m uid day s c = and_from (eqb s.key.uid uid) (covering s day) (eq-eqb s.key.uid uid c.train) c.on

by_test : (m : List Record) (uid day : ℕ) (r : Record) → Holds m r → r.key.uid ≡ uid → covering r day ≡ true → passing (outranking r) uid day m ≡ true → InForce m uid day r
by_test m uid day r held train c p = record {
  candidate = record { there = held; train = train; on = c };
  first = λ s d. outranking_true r s (passes (outranking r) uid day m (key_of s) s p d.there (counts m uid day s d));
}

none_by_test : (m : List Record) (uid day : ℕ) → passing (λ _. false) uid day m ≡ true → (s : Record) → Candidate m uid day s → ⊥
none_by_test m uid day p s d = both_ways false refl (passes (λ _. false) uid day m (key_of s) s p d.there (counts m uid day s d))

pub worked : Worked
unfolding passing
worked = record {
  fields = record { dates = refl; ends = refl; uids = refl; times = refl };
  rows = record { numbers = refl; ends = refl; starts = refl; changes = refl; unread = refl; origins = refl; arrivals = refl; departures = refl; termini = refl };
  days = refl;
  monday = by_test _ _ _ _ refl refl refl refl;
  wednesday = by_test _ _ _ _ refl refl refl refl;
  saturday = none_by_test _ _ _ refl;
  next_monday = by_test _ _ _ _ refl refl refl refl;
  later_start = by_test _ _ _ _ refl refl refl refl;
  no_end = by_test _ _ _ _ refl refl refl refl;
  first_day = by_test _ _ _ _ refl refl refl refl;
  ended_overlay = by_test _ _ _ _ refl refl refl refl;
  last_first_day = by_test _ _ _ _ refl refl refl refl;
  unended_overlay = by_test _ _ _ _ refl refl refl refl;
  overlay_alone = by_test _ _ _ _ refl refl refl refl;
  short_term = by_test _ _ _ _ refl refl refl refl;
}
