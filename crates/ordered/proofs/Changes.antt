-- What became of the elements after a search and a change at the place that it found.
use Rattle.std.proofs.Common.{◌≡◌, ℕ, ◌≤◌, Bool, true, false, cond, ◌||◌, nat_lt, List, [], ◌∷◌, length, set, slice_get, is_some, is_ok, Some, Ok, Err, Option, Result, OnOk, OnErr, inl, inr, sym, ap, ◌∙◌, subst, arith}
use Rattle.std.specs.List.{insert, remove}
use Rattle.std.specs.Option.{option_map}
use Rattle.std.proofs.lemmas.Option.{slice_get-get_or, slice_get_cases}
use Rattle.maps.specs.Orders.{Lawful}
use Rattle.maps.specs.Maps.{ascending, lookup, ceiling, with_element}
use Rattle.maps.specs.Places.{AllBelow, NoneBelow, StandsAt, BelongsAt}
use Rattle.maps.proofs.Maps.{ascending_including, ascending_excluding}
use Rattle.maps.proofs.Sorted.{hit_lookup, miss_lookup, hit_including, miss_including, hit_excluding, miss_excluding, ceiling_here, ceiling_none}
use Rattle.ordered.specs.Tables.{Put, Removed}

-- the key at the place that a search found
pub key_there : {E K : Type 0} (before : K → K → Bool) (key : E → K) → Lawful before → (xs : List E) (n i : ℕ) (k : K) (o : Option E) → length xs ≡ n → i ≤ n → AllBelow before key xs k i → NoneBelow before key xs k i n → o ≡ slice_get xs i → option_map key o ≡ ceiling before key xs k
key_there before key lawful xs n i k o long le u v e = ap (option_map key) e ∙ elim (slice_get_cases xs i).1 [
  | inl (x, l, at, there) ↦ ap (option_map key) at ∙ sym (ceiling_here before key lawful xs i k x l u (v i x (omega arith) (omega arith)) ∙ ap (λ y. Some (key y)) there)
  | inr (past, at) ↦ ap (option_map key) at ∙ sym (ceiling_none before key lawful xs i k past u)
]

module _ {E K : Type 0} {before : K → K → Bool} {key : E → K} (lawful : Lawful before) where
  -- the element at the place that a search found
  pub hit_get : (xs : List E) (i : ℕ) (k : K) → StandsAt before key xs k i → slice_get xs i ≡ lookup before key xs k
  hit_get [] i k h = let w = h.within in absurd (let z : ⊥ = omega arith in z)
  hit_get (y ∷ ys) i k h = slice_get-get_or (y ∷ ys) i y h.within ∙ sym (hit_lookup before key lawful (y ∷ ys) i k y h)

  hit_some : (xs : List E) (i : ℕ) (k : K) → StandsAt before key xs k i → is_some (lookup before key xs k) ≡ true
  hit_some [] i k h = let w = h.within in absurd (let z : ⊥ = omega arith in z)
  hit_some (y ∷ ys) i k h = ap is_some (hit_lookup before key lawful (y ∷ ys) i k y h)

  -- an element in the place of the one of its key
  pub put_hit : (xs ys : List E) (x : E) (k : K) (i n : ℕ) → k ≡ key x → StandsAt before key xs k i → ys ≡ set xs i x → Put before key xs ys n x true
  put_hit xs ys x k i n of h e =
      let there = subst (λ (c : K). StandsAt before key xs c i) of h in
      record {
        done = sym (ap (λ b. b || nat_lt (length xs) n) (hit_some xs i (key x) there));
        gives = e ∙ sym (hit_including before key lawful xs i x there);
      }

  -- an element at its place, where there is room
  pub put_miss : {T F : Type 0} (xs ys : List E) (x : E) (k : K) (i n : ℕ) (r : Result T F) → ascending before key xs ≡ true → k ≡ key x → BelongsAt before key xs k i → is_ok r ≡ nat_lt (length xs) n → OnOk r (ys ≡ insert xs i x) → OnErr r (ys ≡ xs) → Put before key xs ys n x (is_ok r)
  put_miss {T} {F} xs ys x k i n r up of h d added kept = record {
    done = d ∙ sym (ap (λ o. is_some o || nat_lt (length xs) n) (miss_lookup before key lawful xs i (key x) up absent));
    gives = either r added kept;
  }
    where
      absent : BelongsAt before key xs (key x) i
      absent = subst (λ (c : K). BelongsAt before key xs c i) of h

      either : (s : Result T F) → OnOk s (ys ≡ insert xs i x) → OnErr s (ys ≡ xs) → ys ≡ cond (is_ok s) (with_element before key xs x) xs
      either (Ok t) p q = p ∙ sym (miss_including before key lawful xs i x absent)
      either (Err e) p q = q

  pub removed_hit : (xs ys : List E) (k : K) (i : ℕ) → StandsAt before key xs k i → ys ≡ remove xs i → Removed before key xs ys k true
  removed_hit xs ys k i h e = record { done = sym (hit_some xs i k h); gives = e ∙ sym (hit_excluding before key lawful xs i k h) }

  pub removed_miss : (xs ys : List E) (k : K) (i : ℕ) → ascending before key xs ≡ true → BelongsAt before key xs k i → ys ≡ xs → Removed before key xs ys k false
  removed_miss xs ys k i up h e = record {
    done = sym (ap is_some (miss_lookup before key lawful xs i k up h));
    gives = e ∙ sym (miss_excluding before key lawful xs i k h);
  }

  -- what was put or taken out leaves the elements in order
  pub put_rises : (xs ys : List E) (n : ℕ) (x : E) (r : Bool) → Put before key xs ys n x r → ascending before key xs ≡ true → ascending before key ys ≡ true
  put_rises xs ys n x r h up = ap (ascending before key) h.gives ∙ either r
    where
      either : (b : Bool) → ascending before key (cond b (with_element before key xs x) xs) ≡ true
      either true = ascending_including before key lawful xs x up
      either false = up

  pub removal_rises : (xs ys : List E) (k : K) (r : Bool) → Removed before key xs ys k r → ascending before key xs ≡ true → ascending before key ys ≡ true
  removal_rises xs ys k r h up = ap (ascending before key) h.gives ∙ ascending_excluding before key lawful xs k up

  pub hit_rises : (xs ys : List E) (x : E) (k : K) (i : ℕ) → k ≡ key x → StandsAt before key xs k i → ys ≡ set xs i x → ascending before key xs ≡ true → ascending before key ys ≡ true
  hit_rises xs ys x k i of h e up = put_rises xs ys 0 x true (put_hit xs ys x k i 0 of h e) up

  pub miss_rises : {T F : Type 0} (xs ys : List E) (x : E) (k : K) (i n : ℕ) (r : Result T F) → ascending before key xs ≡ true → k ≡ key x → BelongsAt before key xs k i → is_ok r ≡ nat_lt (length xs) n → OnOk r (ys ≡ insert xs i x) → OnErr r (ys ≡ xs) → ascending before key ys ≡ true
  miss_rises xs ys x k i n r up of h d added kept = put_rises xs ys n x (is_ok r) (put_miss xs ys x k i n r up of h d added kept) up

  pub without_rises : (xs ys : List E) (k : K) (i : ℕ) → StandsAt before key xs k i → ys ≡ remove xs i → ascending before key xs ≡ true → ascending before key ys ≡ true
  without_rises xs ys k i h e up = removal_rises xs ys k true (removed_hit xs ys k i h e) up
