-- What became of elements in any order after a search and a change at the place that it found.
use Rattle.std.proofs.Common.{◌≡◌, ℕ, ◌+◌, ◌-◌, ◌<◌, Bool, true, false, cond, ◌||◌, nat_lt, List, [], ◌∷◌, ◌++◌, length, get_or, slice_get, take, set, is_some, is_ok, None, Ok, Err, Result, OnOk, OnErr, sym, ap, ◌∙◌, subst, arith}
use Rattle.std.proofs.lemmas.List.{take_more, take_all}
use Rattle.std.proofs.lemmas.Option.{slice_get-get_or}
use Rattle.maps.specs.Orders.{Lawful}
use Rattle.maps.specs.Maps.{lookup, map_from, has_distinct_keys, with_element, without_element}
use Rattle.maps.specs.Places.{NoneOfKey, StandsFirstAt}
use Rattle.maps.proofs.Maps.{lookup_gathered, ascending_gathered, excluding_absent}
use Rattle.maps.proofs.Heaped.{passed_lookup, found_lookup, length_gathered, gathered_push, apart_push, gathered_set, apart_set, gathered_swap, apart_swap}
use Rattle.ordered.specs.Tables.{Put, Removed}

module _ {E K : Type 0} (before : K → K → Bool) (key : E → K) (lawful : Lawful before) where
  -- the element at the place that a search found
  pub found_get : (xs : List E) (i : ℕ) (k : K) → StandsFirstAt before key xs k i → slice_get xs i ≡ lookup before key xs k
  found_get [] i k h = let w = h.within in absurd (let z : ⊥ = omega arith in z)
  found_get (y ∷ ys) i k h = slice_get-get_or (y ∷ ys) i y h.within ∙ sym (found_lookup before key lawful (y ∷ ys) k i y h.within h.passed (h.is y))

  some_there : (xs : List E) (k : K) (i : ℕ) → StandsFirstAt before key xs k i → is_some (lookup before key xs k) ≡ true
  some_there [] k i h = let w = h.within in absurd (let z : ⊥ = omega arith in z)
  some_there (y ∷ ys) k i h = ap is_some (found_lookup before key lawful (y ∷ ys) k i y h.within h.passed (h.is y))

  -- an element in the place of the one of its key
  pub put_found : (xs ys : List E) (x : E) (k : K) (i n : ℕ) → k ≡ key x → StandsFirstAt before key xs k i → ys ≡ set xs i x → Put before key (map_from before key xs) (map_from before key ys) n x true
  put_found xs ys x k i n of h e = record {
    done = sym (ap (λ b. b || nat_lt (length (map_from before key xs)) n) (ap is_some (lookup_gathered before key lawful xs (key x) ∙ ap (lookup before key xs) (sym of)) ∙ some_there xs k i h));
    gives = ap (map_from before key) e ∙ gathered_set before key lawful xs i x x h.within (subst (λ (c : K). NoneOfKey before key xs c i) of h.passed) (h.is x ∙ of);
  }

  pub found_apart : (xs ys : List E) (x : E) (k : K) (i : ℕ) → k ≡ key x → StandsFirstAt before key xs k i → ys ≡ set xs i x → has_distinct_keys before key xs ≡ true → has_distinct_keys before key ys ≡ true
  found_apart xs ys x k i of h e a = ap (has_distinct_keys before key) e ∙ apart_set before key lawful xs i x x h.within (subst (λ (c : K). NoneOfKey before key xs c i) of h.passed) (h.is x ∙ of) a

  absent : (xs : List E) (x : E) (k : K) → k ≡ key x → NoneOfKey before key xs k (length xs) → lookup before key xs (key x) ≡ None
  absent xs x k of h = ap (lookup before key xs) (sym of) ∙ passed_lookup before key lawful xs k h

  -- an element after the others, where there is room
  pub put_passed : {T F : Type 0} (xs ys : List E) (x : E) (k : K) (n : ℕ) (r : Result T F) → has_distinct_keys before key xs ≡ true → k ≡ key x → NoneOfKey before key xs k (length xs) → is_ok r ≡ nat_lt (length xs) n → OnOk r (ys ≡ xs ++ x ∷ []) → OnErr r (ys ≡ xs) → Put before key (map_from before key xs) (map_from before key ys) n x (is_ok r)
  put_passed {T} {F} xs ys x k n r a of h d added kept = record {
    done =
        d
        ∙ ap (λ m. nat_lt m n) (sym (length_gathered before key lawful xs a))
        ∙ sym (ap (λ o. is_some o || nat_lt (length (map_from before key xs)) n) (lookup_gathered before key lawful xs (key x) ∙ absent xs x k of h));
    gives = either r added kept;
  }
    where
      either : (s : Result T F) → OnOk s (ys ≡ xs ++ x ∷ []) → OnErr s (ys ≡ xs) → map_from before key ys ≡ cond (is_ok s) (with_element before key (map_from before key xs) x) (map_from before key xs)
      either (Ok t) p q = ap (map_from before key) p ∙ gathered_push before key lawful xs x (absent xs x k of h)
      either (Err e) p q = ap (map_from before key) q

  pub passed_apart : {T F : Type 0} (xs ys : List E) (x : E) (k : K) (r : Result T F) → has_distinct_keys before key xs ≡ true → k ≡ key x → NoneOfKey before key xs k (length xs) → OnOk r (ys ≡ xs ++ x ∷ []) → OnErr r (ys ≡ xs) → has_distinct_keys before key ys ≡ true
  passed_apart xs ys x k (Ok t) a of h added kept = ap (has_distinct_keys before key) added ∙ apart_push before key lawful xs x (absent xs x k of h) a
  passed_apart xs ys x k (Err e) a of h added kept = ap (has_distinct_keys before key) kept ∙ a

  pub removed_passed : (xs ys : List E) (k : K) → NoneOfKey before key xs k (length xs) → ys ≡ xs → Removed before key (map_from before key xs) (map_from before key ys) k false
  removed_passed xs ys k h e =
      let none = lookup_gathered before key lawful xs k ∙ passed_lookup before key lawful xs k h in
      record {
        done = sym (ap is_some none);
        gives = ap (map_from before key) e ∙ sym (excluding_absent before key lawful (map_from before key xs) k (ascending_gathered before key lawful xs) none);
      }

  -- the last element in the place of the one that goes
  module _ (xs ys : List E) (k : K) (i : ℕ) (h : StandsFirstAt before key xs k i) (swapped : (d : E) → ys ≡ set (take (length xs - 1) xs) i (get_or xs (length xs - 1) d)) (a : has_distinct_keys before key xs ≡ true) where
    abbrev front : List E
    front = take (length xs - 1) xs

    split : (d : E) → xs ≡ front ++ get_or xs (length xs - 1) d ∷ []
    split d =
        let w = h.within in
        let o : length xs ≡ (length xs - 1) + 1 = omega arith in
        sym (take_all (length xs) xs (omega arith)) ∙ ap (λ j. take j xs) o ∙ take_more xs (length xs - 1) d (omega arith)

    within : (d : E) → i < length (front ++ get_or xs (length xs - 1) d ∷ [])
    within d = subst (λ (zs : List E). i < length zs) (split d) h.within

    kept : (d : E) → has_distinct_keys before key (front ++ get_or xs (length xs - 1) d ∷ []) ≡ true
    kept d = ap (has_distinct_keys before key) (sym (split d)) ∙ a

    some_of : (P : Type 0) (zs : List E) → 0 < length zs → ((d : E) → P) → P
    some_of P [] l f = absurd (let z : ⊥ = omega arith in z)
    some_of P (y ∷ zs) l f = f y

    pub removed_found : Removed before key (map_from before key xs) (map_from before key ys) k true
    removed_found = record {
      done = sym (ap is_some (lookup_gathered before key lawful xs k) ∙ some_there xs k i h);
      gives = some_of _ xs (let w = h.within in omega arith) (λ d.
          ap (map_from before key) (swapped d)
          ∙ gathered_swap before key lawful front (get_or xs (length xs - 1) d) i d k (kept d) (within d) (ap (λ zs. key (get_or zs i d)) (sym (split d)) ∙ h.is d)
          ∙ ap (λ zs. without_element before key (map_from before key zs) k) (sym (split d)));
    }

    pub swap_apart : has_distinct_keys before key ys ≡ true
    swap_apart = some_of _ xs (let w = h.within in omega arith) (λ d. ap (has_distinct_keys before key) (swapped d) ∙ apart_swap before key lawful front (get_or xs (length xs - 1) d) i (kept d) (within d))
