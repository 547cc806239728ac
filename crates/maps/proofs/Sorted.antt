-- A map that stands in the order of its keys: what the place of a key says of the map.
use Rattle.std.proofs.Common.{◌≡◌, ℕ, zero, suc, ◌<◌, ◌≤◌, Bool, true, false, List, [], ◌∷◌, length, get_or, take, set, Some, None, refl, ap, arith}
use Rattle.std.specs.List.{insert, remove}
use Rattle.std.proofs.lemmas.List.{get_or-take, length-take-le}
use Rattle.std.proofs.lemmas.Bool.{and_parts}
use Rattle.maps.specs.Orders.{Lawful}
use Rattle.maps.specs.Places.{Ascends, AllBelow, StandsAt, BelongsAt}
use Rattle.maps.specs.Maps.{after, ascending, lookup, with_element, without_element, ceiling}
use Rattle.maps.proofs.Maps.{same_first, same_level, lookup_after}

get_d_after : {E K : Type 0} (before : K → K → Bool) (key : E → K) (k : K) (xs : List E) → after before key k xs ≡ true → (j : ℕ) (d : E) → j < length xs → before k (key (get_or xs j d)) ≡ true
get_d_after before key k [] a j d l = absurd (let z : ⊥ = omega arith in z)
get_d_after before key k (y ∷ ys) a zero d l = (and_parts (before k (key y)) (after before key k ys) a).0
get_d_after before key k (y ∷ ys) a (suc j) d l = get_d_after before key k ys (and_parts (before k (key y)) (after before key k ys) a).1 j d (omega arith)

pub ascends_whole : {E K : Type 0} (before : K → K → Bool) (key : E → K) (xs : List E) → ascending before key xs ≡ true → Ascends before key xs (length xs)
ascends_whole before key [] a i j d l m = absurd (let z : ⊥ = omega arith in z)
ascends_whole before key (y ∷ ys) a zero zero d l m = absurd (let z : ⊥ = omega arith in z)
ascends_whole before key (y ∷ ys) a zero (suc j) d l m = get_d_after before key (key y) ys (and_parts (after before key (key y) ys) (ascending before key ys) a).0 j d (omega arith)
ascends_whole before key (y ∷ ys) a (suc i) zero d l m = absurd (let z : ⊥ = omega arith in z)
ascends_whole before key (y ∷ ys) a (suc i) (suc j) d l m = ascends_whole before key ys (and_parts (after before key (key y) ys) (ascending before key ys) a).1 i j d (omega arith) (omega arith)

-- What a search over the first n slots requires.
pub ascends_front : {E K : Type 0} (before : K → K → Bool) (key : E → K) (xs : List E) (n : ℕ) → n ≤ length xs → ascending before key (take n xs) ≡ true → Ascends before key xs n
ascends_front before key xs n fits a i j d l m =
    let long = length-take-le n xs fits in
    let e = get_or-take n xs i d (omega arith) in
    let f = get_or-take n xs j d (omega arith) in
    let h = ascends_whole before key (take n xs) a i j d l (omega arith) in
    rw (← e, ← f) h

module _ {E K : Type 0} (before : K → K → Bool) (key : E → K) where
  under_tail : (y : E) (ys : List E) (k : K) (i : ℕ) → AllBelow before key (y ∷ ys) k (suc i) → AllBelow before key ys k i
  under_tail y ys k i u j d l = u (suc j) d (omega arith)

  hit_tail : (y : E) (ys : List E) (k : K) (i : ℕ) → StandsAt before key (y ∷ ys) k (suc i) → StandsAt before key ys k i
  hit_tail y ys k i h = let w = h.within in record { within = omega arith; under = under_tail y ys k i h.under; is = h.is }

  miss_tail : (y : E) (ys : List E) (k : K) (i : ℕ) → BelongsAt before key (y ∷ ys) k (suc i) → BelongsAt before key ys k i
  miss_tail y ys k i h = let w = h.within in record { within = omega arith; under = under_tail y ys k i h.under; past = λ d l. h.past d (omega arith) }

module _ {E K : Type 0} (before : K → K → Bool) (key : E → K) (lawful : Lawful before) where
  pub hit_including : (xs : List E) (i : ℕ) (x : E) → StandsAt before key xs (key x) i → with_element before key xs x ≡ set xs i x
  hit_including [] i x h = let w = h.within in absurd (let z : ⊥ = omega arith in z)
  hit_including (y ∷ ys) zero x h =
      let e = h.is y in
      let p : before (key y) (key x) ≡ false = rw e (lawful.irreflexive (key x)) in
      let q : before (key x) (key y) ≡ false = rw e (lawful.irreflexive (key x)) in
      rw (p, q) refl
  hit_including (y ∷ ys) (suc i) x h = let p = h.under 0 y (omega arith) in rw p (ap (λ t. y ∷ t) (hit_including ys i x (hit_tail before key y ys (key x) i h)))

  pub miss_including : (xs : List E) (i : ℕ) (x : E) → BelongsAt before key xs (key x) i → with_element before key xs x ≡ insert xs i x
  miss_including [] zero x h = refl
  miss_including [] (suc i) x h = let w = h.within in absurd (let z : ⊥ = omega arith in z)
  miss_including (y ∷ ys) zero x h =
      let q : before (key x) (key y) ≡ true = h.past y (omega arith) in
      let p : before (key y) (key x) ≡ false = Rattle.maps.proofs.Maps.asymmetric before key lawful (key x) (key y) q in
      rw (p, q) refl
  miss_including (y ∷ ys) (suc i) x h = let p = h.under 0 y (omega arith) in rw p (ap (λ t. y ∷ t) (miss_including ys i x (miss_tail before key y ys (key x) i h)))

  pub hit_excluding : (xs : List E) (i : ℕ) (k : K) → StandsAt before key xs k i → without_element before key xs k ≡ remove xs i
  hit_excluding [] i k h = let w = h.within in absurd (let z : ⊥ = omega arith in z)
  hit_excluding (y ∷ ys) zero k h =
      let e = h.is y in
      let p : before (key y) k ≡ false = rw e (lawful.irreflexive k) in
      let q : before k (key y) ≡ false = rw e (lawful.irreflexive k) in
      rw (p, q) refl
  hit_excluding (y ∷ ys) (suc i) k h = let p = h.under 0 y (omega arith) in rw p (ap (λ t. y ∷ t) (hit_excluding ys i k (hit_tail before key y ys k i h)))

  pub miss_excluding : (xs : List E) (i : ℕ) (k : K) → BelongsAt before key xs k i → without_element before key xs k ≡ xs
  miss_excluding [] i k h = refl
  miss_excluding (y ∷ ys) zero k h =
      let q : before k (key y) ≡ true = h.past y (omega arith) in
      let p : before (key y) k ≡ false = Rattle.maps.proofs.Maps.asymmetric before key lawful k (key y) q in
      rw (p, q) refl
  miss_excluding (y ∷ ys) (suc i) k h = let p = h.under 0 y (omega arith) in rw p (ap (λ t. y ∷ t) (miss_excluding ys i k (miss_tail before key y ys k i h)))

  pub hit_lookup : (xs : List E) (i : ℕ) (k : K) (d : E) → StandsAt before key xs k i → lookup before key xs k ≡ Some (get_or xs i d)
  hit_lookup [] i k d h = let w = h.within in absurd (let z : ⊥ = omega arith in z)
  hit_lookup (y ∷ ys) zero k d h = let p = same_level before key lawful (key y) k (h.is y) in rw p refl
  hit_lookup (y ∷ ys) (suc i) k d h = let p = same_first before key lawful (key y) k (h.under 0 y (omega arith)) in rw p (hit_lookup ys i k d (hit_tail before key y ys k i h))

  pub miss_lookup : (xs : List E) (i : ℕ) (k : K) → ascending before key xs ≡ true → BelongsAt before key xs k i → lookup before key xs k ≡ None
  miss_lookup [] i k a h = refl
  miss_lookup (y ∷ ys) zero k a h = lookup_after before key lawful k (y ∷ ys) (Rattle.maps.proofs.Maps.after_head before key lawful k y ys (h.past y (omega arith)) a)
  miss_lookup (y ∷ ys) (suc i) k a h = let p = same_first before key lawful (key y) k (h.under 0 y (omega arith)) in rw p (miss_lookup ys i k (and_parts (after before key (key y) ys) (ascending before key ys) a).1 (miss_tail before key y ys k i h))

  pub ceiling_here : (xs : List E) (i : ℕ) (k : K) (d : E) → i < length xs → AllBelow before key xs k i → before (key (get_or xs i d)) k ≡ false → ceiling before key xs k ≡ Some (key (get_or xs i d))
  ceiling_here [] i k d l u o = absurd (let z : ⊥ = omega arith in z)
  ceiling_here (y ∷ ys) zero k d l u o = rw o refl
  ceiling_here (y ∷ ys) (suc i) k d l u o = let p = u 0 y (omega arith) in rw p (ceiling_here ys i k d (omega arith) (under_tail before key y ys k i u) o)

  pub ceiling_none : (xs : List E) (i : ℕ) (k : K) → length xs ≤ i → AllBelow before key xs k i → ceiling before key xs k ≡ None
  ceiling_none [] i k l u = refl
  ceiling_none (y ∷ ys) zero k l u = absurd (let z : ⊥ = omega arith in z)
  ceiling_none (y ∷ ys) (suc i) k l u = let p = u 0 y (omega arith) in rw p (ceiling_none ys i k (omega arith) (under_tail before key y ys k i u))
