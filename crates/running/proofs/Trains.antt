-- A walk over one train, from its first key to the first key of the next.
use Rattle.std.proofs.Common.{◌≡◌, ℕ, ◌+◌, ◌<◌, ◌≤◌, true, false, cond, List, [], ◌∷◌, length, Some, None, Option, sym, ap, ◌∙◌, ⊎_elim, arith}
use Rattle.std.proofs.lemmas.Option.{none-some, same_Some}
use Rattle.std.proofs.lemmas.Bool.{cases_Bool, both_ways}
use Rattle.std.proofs.lemmas.Bool.Decides.{nat_tests}
use Rattle.schedule.specs.declared.key.Key.{Key}
use Rattle.schedule.specs.declared.record.Record.{Record}
use Rattle.schedule.specs.Keys.{key_before}
use Rattle.schedule.specs.Records.{key_of}
use Rattle.schedule.specs.Orders.{key_irreflexive, key_transitive, key_total}
use Rattle.timetable.specs.Timetables.{not_before, IsMap}
use Rattle.timetable.specs.Laws.{Has, has_key}
use Rattle.timetable.proofs.Nexts.{Next, next, left, walk_falls}
use Rattle.running.specs.Running.{Candidate}
use Rattle.running.specs.Walking.{first_of, IsFirst}
use Rattle.running.proofs.Walks.{Walked, begin, held_has}

-- a key of the map is the next one from itself on
pub own : (m : List Record) (key : Key) → Has m key → Next m key key
own m key h = record { there = h; past = key_irreflexive key; least = λ k _ f. f }

-- no more keys are left than there are
pub left_all : (m : List Record) (probe : Key) → left m probe ≤ length m
unfolding left
left_all [] probe = omega arith
left_all (r ∷ rs) probe =
    let rest = left_all rs probe in
    ⊎_elim (λ (t : key_before (key_of r) probe ≡ true). rw t (omega arith)) (λ (f : key_before (key_of r) probe ≡ false). rw f (omega arith)) (cases_Bool (key_before (key_of r) probe))

-- the measure: how many keys of the map are not before a key of it; from any other key on, more than there are
abbrev pub turns : List Record → Key → ℕ
turns m key = cond (has_key m key) (left m key) (length m + 1)

pub turns_fall : (m : List Record) (key nxt : Key) → IsMap m → Has m nxt → (Has m key → key_before key nxt ≡ true) → turns m nxt < turns m key
turns_fall m key nxt is there later =
    let all = left_all m nxt in
    ⊎_elim
    (λ (h : has_key m key ≡ true). let falls = walk_falls m is key key (own m key h) nxt (later h) in rw (there, h) falls)
    (λ (h : has_key m key ≡ false). rw (there, h) (omega arith))
    (cases_Bool (has_key m key))

-- what comes after a probe comes after all that is before it
pub passes : (key probe nxt : Key) → key_before key probe ≡ true → key_before nxt probe ≡ false → key_before key nxt ≡ true
passes key probe nxt b p =
    ⊎_elim (λ t. t)
    (λ f. ⊎_elim
    (λ t. absurd (both_ways (key_before nxt probe) p (key_transitive nxt key probe t b)))
    (λ g. absurd (both_ways (key_before nxt probe) p (ap (λ (k : Key). key_before k probe) (sym (key_total key nxt f g)) ∙ b)))
    (cases_Bool (key_before nxt key)))
    (cases_Bool (key_before key nxt))

-- no key lies between a probe and the next key
pub further : (m : List Record) (uid day : ℕ) (probe key : Key) (best : Option Record) → Next m probe key → Walked m uid day probe best → Walked m uid day key best
further m uid day probe key best n w = record {
  has = w.has;
  first = λ b e s c k. w.first b e s c (lower s c k);
  none = λ e s c k. w.none e s c (lower s c k);
}
  where
    lower : (s : Record) → Candidate m uid day s → key_before (key_of s) key ≡ true → key_before (key_of s) probe ≡ true
    lower s c k = ⊎_elim (λ t. t) (λ f. absurd (both_ways (key_before (key_of s) key) (n.least (key_of s) (held_has m s c.there) f) k)) (cases_Bool (key_before (key_of s) probe))

pub begins : (m : List Record) (day : ℕ) (first : Key) → IsMap m → IsFirst m first → Walked m first.uid day first None
begins m day first is f = further m first.uid day (first_of first.uid) first None (next m (first_of first.uid) first is f) (begin m first.uid day)

pub first_there : (m : List Record) (first : Key) → IsMap m → IsFirst m first → Has m first
first_there m first is f = (next m (first_of first.uid) first is f).there

-- the next key from a probe on is the next one from each later probe on that it is not before
module _ (p q : Key) (on : (k : Key) → key_before k p ≡ true → key_before k q ≡ true) where
  pub still_next : (m : List Record) (key : Key) → not_before m p ≡ Some key → key_before key q ≡ false → not_before m q ≡ Some key
  still_next [] key h g = absurd (none-some key h)
  still_next (r ∷ rs) key h g =
      ⊎_elim
      (λ (t : key_before (key_of r) p ≡ true). let u : key_before (key_of r) q ≡ true = on (key_of r) t in rw u (still_next rs key (rw t at h) g))
      (λ (f : key_before (key_of r) p ≡ false).
      let e : key_of r ≡ key = same_Some (key_of r) key (rw f at h) in
      let u : key_before (key_of r) q ≡ false = ap (λ (k : Key). key_before k q) e ∙ g in
      rw u (ap Some e))
      (cases_Bool (key_before (key_of r) p))

  pub still_none : (m : List Record) → not_before m p ≡ None → not_before m q ≡ None
  still_none [] h = h
  still_none (r ∷ rs) h =
      ⊎_elim
      (λ (t : key_before (key_of r) p ≡ true). let u : key_before (key_of r) q ≡ true = on (key_of r) t in rw u (still_none rs (rw t at h)))
      (λ (f : key_before (key_of r) p ≡ false). absurd (none-some (key_of r) (sym (rw f at h))))
      (cases_Bool (key_before (key_of r) p))

-- what is before a key of a train is before the next train
pub under_next : (probe k : Key) (uid : ℕ) → probe.uid ≡ uid → key_before k probe ≡ true → key_before k (first_of (uid + 1)) ≡ true
under_next probe k uid e h = grind (arith, nat_tests)

pub over_next : (probe k : Key) (uid : ℕ) → probe.uid ≡ uid → (k.uid ≡ uid → ⊥) → key_before k probe ≡ false → key_before k (first_of (uid + 1)) ≡ false
over_next probe k uid e ne h = grind (arith, nat_tests)

pub train_passed : (m : List Record) (probe key : Key) (uid : ℕ) → IsMap m → probe.uid ≡ uid → (key.uid ≡ uid → ⊥) → not_before m probe ≡ Some key → Some key ≡ not_before m (first_of (uid + 1))
train_passed m probe key uid is e ne h = sym (still_next probe (first_of (uid + 1)) (λ k b. under_next probe k uid e b) m key h (over_next probe key uid e ne (next m probe key is h).past))

pub all_passed : (m : List Record) (probe : Key) (uid : ℕ) → probe.uid ≡ uid → not_before m probe ≡ None → None ≡ not_before m (first_of (uid + 1))
all_passed m probe uid e h = sym (still_none probe (first_of (uid + 1)) (λ k b. under_next probe k uid e b) m h)
