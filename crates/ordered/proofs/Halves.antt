-- The two steps of a search by halves over rising keys.
use Rattle.std.proofs.Common.{◌≡◌, ℕ, ◌+◌, ◌<◌, ◌≤◌, Bool, true, false, List, length, get_or, sym, ap, ◌∙◌, subst, ⊎_elim, arith}
use Rattle.std.proofs.lemmas.List.{get_or_default, get_or-take}
use Rattle.std.proofs.lemmas.Bool.{cases_eq, cases_Bool, both_ways}
use Rattle.maps.specs.Orders.{Lawful}
use Rattle.maps.specs.Maps.{ascending}
use Rattle.maps.specs.Places.{Ascends, AllBelow, NoneBelow}
use Rattle.maps.proofs.Sorted.{ascends_front}
use Rattle.ordered.specs.declared.slots.Slots.{Slots}
use Rattle.ordered.specs.Bounds.{IsLowerBound}
use Rattle.ordered.specs.Tables.{items, room}

module _ {E K : Type 0} (before : K → K → Bool) (key : E → K) (lawful : Lawful before)
    (xs : List E) (n : ℕ) (fits : n ≤ length xs) (rising : Ascends before key xs n) (k : K) (m : ℕ) (within : m < n) (e : E) where
  at_any : (b : Bool) → before (key (get_or xs m e)) k ≡ b → (d : E) → before (key (get_or xs m d)) k ≡ b
  at_any b h d = let l : m < length xs = omega arith in ap (λ x. before (key x) k) (get_or_default xs m d e l) ∙ h

  pub under_more : before (key (get_or xs m e)) k ≡ true → AllBelow before key xs k (m + 1)
  under_more h i d l =
      ⊎_elim
      (λ same. subst (λ (j : ℕ). before (key (get_or xs j d)) k ≡ true) (sym same) (at_any true h d))
      (λ other. lawful.transitive (key (get_or xs i d)) (key (get_or xs m d)) k (rising i m d (omega arith) within) (at_any true h d))
      (cases_eq i m)

  pub over_less : before (key (get_or xs m e)) k ≡ false → NoneBelow before key xs k m n
  over_less h i d l u =
      ⊎_elim
      (λ same. subst (λ (j : ℕ). before (key (get_or xs j d)) k ≡ false) (sym same) (at_any false h d))
      (λ other. ⊎_elim
      (λ t. absurd (both_ways (before (key (get_or xs m d)) k) (at_any false h d) (lawful.transitive (key (get_or xs m d)) (key (get_or xs i d)) k (rising m i d (omega arith) u) t)))
      (λ f. f)
      (cases_Bool (before (key (get_or xs i d)) k)))
      (cases_eq i m)

-- What a search of the slots says of the elements in them.
pub found_front : {E K : Type 0} (before : K → K → Bool) (key : E → K) {k : K} (s : Slots E) → ascending before key (items s) ≡ true → (r : ℕ) → r ≤ s.len
    → (s.len ≤ room s → Ascends before key s.slots.now s.len → IsLowerBound before key s.slots.now s.len k r)
    → IsLowerBound before key (items s) s.len k r
found_front before key {k} s up r le h =
    let found = h s.fits (ascends_front before key s.slots.now s.len s.fits up) in
    record {
      under = λ i d l. ap (λ x. before (key x) k) (get_or-take s.len s.slots.now i d (omega arith)) ∙ found.under i d l;
      over = λ i d l u. ap (λ x. before (key x) k) (get_or-take s.len s.slots.now i d u) ∙ found.over i d l u;
    }
