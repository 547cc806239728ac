-- How many entries a map has after an edit of a key that is there.
use Rattle.std.proofs.Common.{◌≡◌, suc, Bool, true, List, [], ◌∷◌, length, is_some, Some, sym, refl, ap, ◌∙◌}
use Rattle.std.proofs.lemmas.Bool.{both_ways, and_parts, true≢false, cond-false}
use Rattle.maps.specs.Orders.{Lawful, same}
use Rattle.maps.specs.Maps.{after, ascending, lookup, with_element, without_element}
use Rattle.maps.proofs.Maps.{first, last, level, stand, same_first, lookup_after, after_head}

module _ {E K : Type 0} (before : K → K → Bool) (key : E → K) (lawful : Lawful before) where
  later : (y : E) (ys : List E) (k : K) → before (key y) k ≡ true → is_some (lookup before key (y ∷ ys) k) ≡ true → is_some (lookup before key ys k) ≡ true
  later y ys k p h = sym (ap is_some (cond-false (same before (key y) k) (Some y) (lookup before key ys k) (same_first before key lawful (key y) k p))) ∙ h

  nowhere : (y : E) (ys : List E) (k : K) → ascending before key (y ∷ ys) ≡ true → before k (key y) ≡ true → is_some (lookup before key (y ∷ ys) k) ≡ true → ⊥
  nowhere y ys k a r h = both_ways (is_some (lookup before key (y ∷ ys) k)) (ap is_some (lookup_after before key lawful k (y ∷ ys) (after_head before key lawful k y ys r a))) h

  -- an entry in the place of one of its key
  pub length_again : (m : List E) (x : E) → ascending before key m ≡ true → is_some (lookup before key m (key x)) ≡ true → length (with_element before key m x) ≡ length m
  length_again [] x a h = absurd (true≢false (sym h))
  length_again (y ∷ ys) x a h =
      let parts = and_parts (after before key (key y) ys) (ascending before key ys) a in
      elim (stand before key lawful (key y) (key x)) [
        | first p r ↦ rw p (ap suc (length_again ys x parts.1 (later y ys (key x) p h)))
        | last p r ↦ absurd (nowhere y ys (key x) a r h)
        | level p r e ↦ rw (p, r) refl
      ]

  -- a key that is taken out
  pub length_without : (m : List E) (k : K) → ascending before key m ≡ true → is_some (lookup before key m k) ≡ true → suc (length (without_element before key m k)) ≡ length m
  length_without [] k a h = absurd (true≢false (sym h))
  length_without (y ∷ ys) k a h =
      let parts = and_parts (after before key (key y) ys) (ascending before key ys) a in
      elim (stand before key lawful (key y) k) [
        | first p r ↦ rw p (ap suc (length_without ys k parts.1 (later y ys k p h)))
        | last p r ↦ absurd (nowhere y ys k a r h)
        | level p r e ↦ rw (p, r) refl
      ]
