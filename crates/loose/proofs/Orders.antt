-- The order of the elements after a search and a change at the place that it found.
use Rattle.std.proofs.Common.{◌≡◌, ℕ, zero, suc, ◌-◌, Bool, true, false, cond, List, [], ◌∷◌, ◌++◌, ◌||◌, length, get_or, is_some, nat_lt, take, set, is_ok, Ok, Err, Result, OnOk, OnErr, refl, ap, ◌∙◌, subst, arith}
use Rattle.std.proofs.lemmas.List.{get_or_default}
use Rattle.maps.specs.Orders.{Lawful, same}
use Rattle.maps.specs.Maps.{lookup, map_from, has_distinct_keys}
use Rattle.maps.specs.Places.{NoneOfKey, StandsFirstAt}
use Rattle.maps.proofs.Maps.{same_level, lookup_gathered}
use Rattle.maps.proofs.Heaped.{length_gathered}
use Rattle.loose.specs.Order.{in_place_or_last, last_in_its_place}

module _ {E K : Type 0} (before : K → K → Bool) (key : E → K) (lawful : Lawful before) where
  -- the first element of the list is of the key, or is passed
  here : (y : E) (ys : List E) (k : K) → StandsFirstAt before key (y ∷ ys) k 0 → same before (key y) k ≡ true
  here y ys k h = same_level before key lawful (key y) k (h.is y)

  later : (y : E) (ys : List E) (k : K) (i : ℕ) → StandsFirstAt before key (y ∷ ys) k (suc i) → same before (key y) k ≡ false
  later y ys k i h = h.passed 0 y (omega arith)

  rest : (y : E) (ys : List E) (k : K) (i : ℕ) → StandsFirstAt before key (y ∷ ys) k (suc i) → StandsFirstAt before key ys k i
  rest y ys k i h = let w = h.within in record { within = omega arith; passed = λ j d l. h.passed (suc j) d (omega arith); is = h.is }

  -- an element in the place of the one of its key
  in_place : (xs : List E) (x : E) (i : ℕ) → StandsFirstAt before key xs (key x) i → set xs i x ≡ in_place_or_last before key xs x
  in_place [] x i h = let w = h.within in absurd (let z : ⊥ = omega arith in z)
  in_place (y ∷ ys) x zero h = let t = here y ys (key x) h in rw t refl
  in_place (y ∷ ys) x (suc i) h = let f = later y ys (key x) i h in rw f (ap (λ zs. y ∷ zs) (in_place ys x i (rest y ys (key x) i h)))

  pub stands_in_place : (xs ys : List E) (x : E) (k : K) (i : ℕ) → k ≡ key x → StandsFirstAt before key xs k i → ys ≡ set xs i x → ys ≡ in_place_or_last before key xs x
  stands_in_place xs ys x k i of h e = e ∙ in_place xs x i (subst (λ (c : K). StandsFirstAt before key xs c i) of h)

  -- an element after the others, where there is room
  last : (xs : List E) (x : E) → NoneOfKey before key xs (key x) (length xs) → xs ++ x ∷ [] ≡ in_place_or_last before key xs x
  last [] x h = refl
  last (y ∷ ys) x h = let f = h 0 y (omega arith) in rw f (ap (λ zs. y ∷ zs) (last ys x (λ j d l. h (suc j) d (omega arith))))

  pub stands_last : {T F : Type 0} (xs ys : List E) (x : E) (k : K) (r : Result T F) → k ≡ key x → NoneOfKey before key xs k (length xs) → OnOk r (ys ≡ xs ++ x ∷ []) → OnErr r (ys ≡ xs) → ys ≡ cond (is_ok r) (in_place_or_last before key xs x) xs
  stands_last xs ys x k (Ok t) of h added kept = added ∙ last xs x (subst (λ (c : K). NoneOfKey before key xs c (length xs)) of h)
  stands_last xs ys x k (Err e) of h added kept = kept

  -- the last element in the place of the one that goes
  last_of : (y : E) (ys : List E) (k : K) (i : ℕ) (d : E) → StandsFirstAt before key (y ∷ ys) k i → set (take (length ys) (y ∷ ys)) i (get_or (y ∷ ys) (length ys) d) ≡ last_in_its_place before key (y ∷ ys) k
  last_of y [] k zero d h = let t = here y [] k h in rw t refl
  last_of y (z ∷ zs) k zero d h = let t = here y (z ∷ zs) k h in rw t (ap (λ l. l ∷ take (length zs) (z ∷ zs)) (get_or_default (z ∷ zs) (length zs) d z (omega arith)))
  last_of y [] k (suc i) d h = let w = h.within in absurd (let z : ⊥ = omega arith in z)
  last_of y (z ∷ zs) k (suc i) d h = let f = later y (z ∷ zs) k i h in rw f (ap (λ ws. y ∷ ws) (last_of z zs k i d (rest y (z ∷ zs) k i h)))

  pub last_stands : (xs ys : List E) (k : K) (i : ℕ) → StandsFirstAt before key xs k i → ((d : E) → ys ≡ set (take (length xs - 1) xs) i (get_or xs (length xs - 1) d)) → ys ≡ last_in_its_place before key xs k
  last_stands [] ys k i h e = let w = h.within in absurd (let z : ⊥ = omega arith in z)
  last_stands (x ∷ xs) ys k i h e =
      let n : length (x ∷ xs) - 1 ≡ length xs = omega arith in
      e x ∙ ap (λ j. set (take j (x ∷ xs)) i (get_or (x ∷ xs) j x)) n ∙ last_of x xs k i x h

  -- no element is of the key
  pub all_stand : (xs : List E) (k : K) → NoneOfKey before key xs k (length xs) → xs ≡ last_in_its_place before key xs k
  all_stand [] k h = refl
  all_stand (y ∷ ys) k h = let f = h 0 y (omega arith) in rw f (ap (λ zs. y ∷ zs) (all_stand ys k (λ j d l. h (suc j) d (omega arith))))

  -- the map has a key and has room where the elements do
  pub placed : (xs : List E) (k : K) (n : ℕ) → has_distinct_keys before key xs ≡ true → (is_some (lookup before key (map_from before key xs) k) || nat_lt (length (map_from before key xs)) n) ≡ (is_some (lookup before key xs k) || nat_lt (length xs) n)
  placed xs k n a =
      ap (λ o. is_some o || nat_lt (length (map_from before key xs)) n) (lookup_gathered before key lawful xs k)
      ∙ ap (λ m. is_some (lookup before key xs k) || nat_lt m n) (length_gathered before key lawful xs a)
