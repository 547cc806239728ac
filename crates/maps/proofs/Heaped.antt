-- A map whose entries stand in any order.
use Rattle.std.proofs.Common.{◌≡◌, ℕ, zero, suc, ◌<◌, Bool, true, false, cond, not, List, [], ◌∷◌, ◌++◌, length, get_or, set, is_some, Some, None, Option, sym, refl, ap, ◌∙◌, subst, inl, inr, arith}
use Rattle.std.proofs.lemmas.Bool.{cases_Bool, both_ways, and_parts, and_from, not-true, true≢false}
use Rattle.maps.specs.Orders.{Lawful, same}
use Rattle.maps.specs.Places.{NoneOfKey}
use Rattle.maps.specs.Maps.{lookup, with_element, without_element, map_from, has_distinct_keys}
use Rattle.maps.proofs.Maps.{Stand, first, last, level, swap_cond, stand, same_first, same_last, same_level, same_is, some_none, lookup_including, lookup_excluding, same_maps, ascending_including, ascending_excluding, ascending_gathered, lookup_gathered}

none_from : {X : Type 0} (o : Option X) → is_some o ≡ false → o ≡ None
none_from None h = refl
none_from (Some x) h = absurd (true≢false h)

module _ {E K : Type 0} (before : K → K → Bool) (key : E → K) (lawful : Lawful before) where
  pub passed_lookup : (xs : List E) (k : K) → NoneOfKey before key xs k (length xs) → lookup before key xs k ≡ None
  passed_lookup [] k h = refl
  passed_lookup (y ∷ ys) k h = let p = h 0 y (omega arith) in rw p (passed_lookup ys k (λ j d l. h (suc j) d (omega arith)))

  pub found_lookup : (xs : List E) (k : K) (i : ℕ) (d : E) → i < length xs → NoneOfKey before key xs k i → key (get_or xs i d) ≡ k → lookup before key xs k ≡ Some (get_or xs i d)
  found_lookup [] k i d l h e = absurd (let z : ⊥ = omega arith in z)
  found_lookup (y ∷ ys) k zero d l h e = let p = same_level before key lawful (key y) k e in rw p refl
  found_lookup (y ∷ ys) k (suc i) d l h e = let p = h 0 y (omega arith) in rw p (found_lookup ys k i d (omega arith) (λ j c m. h (suc j) c (omega arith)) e)

  none_head : (y : E) (ys : List E) (k : K) → lookup before key (y ∷ ys) k ≡ None → same before (key y) k ≡ false
  none_head y ys k h = elim (cases_Bool (same before (key y) k)) [ inl t ↦ absurd (some_none y (rw t at h)) | inr f ↦ f ]

  none_rest : (y : E) (ys : List E) (k : K) → lookup before key (y ∷ ys) k ≡ None → lookup before key ys k ≡ None
  none_rest y ys k h = let f = none_head y ys k h in rw f at h

  -- A look-up that finds nothing passes each entry.
  pub none_passed : (xs : List E) (k : K) → lookup before key xs k ≡ None → (j : ℕ) (d : E) → j < length xs → same before (key (get_or xs j d)) k ≡ false
  none_passed [] k h j d l = absurd (let z : ⊥ = omega arith in z)
  none_passed (y ∷ ys) k h zero d l = none_head y ys k h
  none_passed (y ∷ ys) k h (suc j) d l = none_passed ys k (none_rest y ys k h) j d (omega arith)

  pub length_including : (m : List E) (x : E) → lookup before key m (key x) ≡ None → length (with_element before key m x) ≡ suc (length m)
  length_including [] x h = refl
  length_including (y ∷ ys) x h = elim (stand before key lawful (key y) (key x)) [
    | first p r ↦ rw p (ap suc (length_including ys x (let s = same_first before key lawful (key y) (key x) p in rw s at h)))
    | last p r ↦ rw (p, r) refl
    | level p r e ↦ absurd (some_none y (let s = same_level before key lawful (key y) (key x) e in rw s at h))
  ]

  pub length_gathered : (xs : List E) → has_distinct_keys before key xs ≡ true → length (map_from before key xs) ≡ length xs
  length_gathered [] a = refl
  length_gathered (x ∷ xs) a =
      let p = and_parts (not (is_some (lookup before key xs (key x)))) (has_distinct_keys before key xs) a in
      length_including (map_from before key xs) x (lookup_gathered before key lawful xs (key x) ∙ none_from (lookup before key xs (key x)) (not-true (is_some (lookup before key xs (key x))) p.0))
      ∙ ap suc (length_gathered xs p.1)

  -- One more entry at the end.
  lookup_push : (xs : List E) (x : E) (q : K) → lookup before key xs (key x) ≡ None → lookup before key (xs ++ x ∷ []) q ≡ cond (same before (key x) q) (Some x) (lookup before key xs q)
  lookup_push [] x q h = refl
  lookup_push (y ∷ ys) x q h =
      let f = none_passed (y ∷ ys) (key x) h 0 y (omega arith) in
      let rest : lookup before key ys (key x) ≡ None = rw f at h in
      ap (λ t. cond (same before (key y) q) (Some y) t) (lookup_push ys x q rest)
      ∙ swap_cond (same before (key y) q) (same before (key x) q) (Some y) (Some x) (lookup before key ys q)
      (λ s t. both_ways (same before (key y) (key x)) f (same_level before key lawful (key y) (key x) (same_is before key lawful (key y) q s ∙ sym (same_is before key lawful (key x) q t))))

  pub gathered_push : (xs : List E) (x : E) → lookup before key xs (key x) ≡ None → map_from before key (xs ++ x ∷ []) ≡ with_element before key (map_from before key xs) x
  gathered_push xs x h =
      same_maps before key lawful (map_from before key (xs ++ x ∷ [])) (with_element before key (map_from before key xs) x)
      (ascending_gathered before key lawful (xs ++ x ∷ []))
      (ascending_including before key lawful (map_from before key xs) x (ascending_gathered before key lawful xs))
      (λ q.
      lookup_gathered before key lawful (xs ++ x ∷ []) q
      ∙ lookup_push xs x q h
      ∙ sym (lookup_including before key lawful (map_from before key xs) x q ∙ ap (λ t. cond (same before (key x) q) (Some x) t) (lookup_gathered before key lawful xs q)))

  apart_from : (x : E) (xs : List E) → lookup before key xs (key x) ≡ None → has_distinct_keys before key xs ≡ true → has_distinct_keys before key (x ∷ xs) ≡ true
  apart_from x xs n a = and_from (not (is_some (lookup before key xs (key x)))) (has_distinct_keys before key xs) (ap (λ o. not (is_some o)) n) a

  apart_none : (x : E) (xs : List E) → has_distinct_keys before key (x ∷ xs) ≡ true → lookup before key xs (key x) ≡ None
  apart_none x xs a = none_from (lookup before key xs (key x)) (not-true (is_some (lookup before key xs (key x))) (and_parts (not (is_some (lookup before key xs (key x)))) (has_distinct_keys before key xs) a).0)

  apart_rest : (x : E) (xs : List E) → has_distinct_keys before key (x ∷ xs) ≡ true → has_distinct_keys before key xs ≡ true
  apart_rest x xs a = (and_parts (not (is_some (lookup before key xs (key x)))) (has_distinct_keys before key xs) a).1

  same_flip : (a b : K) → same before a b ≡ false → same before b a ≡ false
  same_flip a b h = elim (cases_Bool (same before b a)) [ inl t ↦ absurd (both_ways (same before a b) h (same_level before key lawful a b (sym (same_is before key lawful b a t)))) | inr f ↦ f ]

  pub apart_push : (xs : List E) (x : E) → lookup before key xs (key x) ≡ None → has_distinct_keys before key xs ≡ true → has_distinct_keys before key (xs ++ x ∷ []) ≡ true
  apart_push [] x h a = refl
  apart_push (y ∷ ys) x h a =
      let f = none_passed (y ∷ ys) (key x) h 0 y (omega arith) in
      let rest : lookup before key ys (key x) ≡ None = rw f at h in
      let g = same_flip (key y) (key x) f in
      apart_from y (ys ++ x ∷ []) (lookup_push ys x (key y) rest ∙ ap (λ t. cond t (Some x) (lookup before key ys (key y))) g ∙ apart_none y ys a) (apart_push ys x rest (apart_rest y ys a))

  -- An entry in the place of the first of its key.
  lookup_set : (xs : List E) (i : ℕ) (d x : E) (q : K) → i < length xs → NoneOfKey before key xs (key x) i → key (get_or xs i d) ≡ key x → lookup before key (set xs i x) q ≡ cond (same before (key x) q) (Some x) (lookup before key xs q)
  lookup_set [] i d x q l h e = absurd (let z : ⊥ = omega arith in z)
  lookup_set (y ∷ ys) zero d x q l h e = Rattle.maps.proofs.Maps.shadow_cond (same before (key x) q) (same before (key y) q) (Some x) (Some y) (lookup before key ys q) (ap (λ c. same before c q) (sym e))
  lookup_set (y ∷ ys) (suc i) d x q l h e =
      let f = h 0 y (omega arith) in
      ap (λ t. cond (same before (key y) q) (Some y) t) (lookup_set ys i d x q (omega arith) (λ j c m. h (suc j) c (omega arith)) e)
      ∙ swap_cond (same before (key y) q) (same before (key x) q) (Some y) (Some x) (lookup before key ys q)
      (λ s t. both_ways (same before (key y) (key x)) f (same_level before key lawful (key y) (key x) (same_is before key lawful (key y) q s ∙ sym (same_is before key lawful (key x) q t))))

  pub gathered_set : (xs : List E) (i : ℕ) (d x : E) → i < length xs → NoneOfKey before key xs (key x) i → key (get_or xs i d) ≡ key x → map_from before key (set xs i x) ≡ with_element before key (map_from before key xs) x
  gathered_set xs i d x l h e =
      same_maps before key lawful (map_from before key (set xs i x)) (with_element before key (map_from before key xs) x)
      (ascending_gathered before key lawful (set xs i x))
      (ascending_including before key lawful (map_from before key xs) x (ascending_gathered before key lawful xs))
      (λ q.
      lookup_gathered before key lawful (set xs i x) q
      ∙ lookup_set xs i d x q l h e
      ∙ sym (lookup_including before key lawful (map_from before key xs) x q ∙ ap (λ t. cond (same before (key x) q) (Some x) t) (lookup_gathered before key lawful xs q)))

  pub apart_set : (xs : List E) (i : ℕ) (d x : E) → i < length xs → NoneOfKey before key xs (key x) i → key (get_or xs i d) ≡ key x → has_distinct_keys before key xs ≡ true → has_distinct_keys before key (set xs i x) ≡ true
  apart_set [] i d x l h e a = refl
  apart_set (y ∷ ys) zero d x l h e a = apart_from x ys (subst (λ (c : K). lookup before key ys c ≡ None) e (apart_none y ys a)) (apart_rest y ys a)
  apart_set (y ∷ ys) (suc i) d x l h e a =
      let g = same_flip (key y) (key x) (h 0 y (omega arith)) in
      apart_from y (set ys i x)
      (lookup_set ys i d x (key y) (omega arith) (λ j c m. h (suc j) c (omega arith)) e ∙ ap (λ t. cond t (Some x) (lookup before key ys (key y))) g ∙ apart_none y ys a)
      (apart_set ys i d x (omega arith) (λ j c m. h (suc j) c (omega arith)) e (apart_rest y ys a))

  last_other : (zs : List E) (l : E) (q : K) → lookup before key (zs ++ l ∷ []) q ≡ None → same before (key l) q ≡ false
  last_other [] l q h = none_head l [] q h
  last_other (z ∷ zs) l q h = last_other zs l q (none_rest z (zs ++ l ∷ []) q h)

  front_none : (zs : List E) (l : E) (q : K) → lookup before key (zs ++ l ∷ []) q ≡ None → lookup before key zs q ≡ None
  front_none [] l q h = refl
  front_none (z ∷ zs) l q h = let f = none_head z (zs ++ l ∷ []) q h in rw f (front_none zs l q (none_rest z (zs ++ l ∷ []) q h))

  -- Of distinct entries, the last may come first.
  apart_last : (zs : List E) (l : E) → has_distinct_keys before key (zs ++ l ∷ []) ≡ true → lookup before key zs (key l) ≡ None
  apart_last [] l a = refl
  apart_last (z ∷ zs) l a =
      let f : same before (key z) (key l) ≡ false = same_flip (key l) (key z) (last_other zs l (key z) (apart_none z (zs ++ l ∷ []) a)) in
      rw f (apart_last zs l (apart_rest z (zs ++ l ∷ []) a))

  apart_front : (zs : List E) (l : E) → has_distinct_keys before key (zs ++ l ∷ []) ≡ true → has_distinct_keys before key zs ≡ true
  apart_front [] l a = refl
  apart_front (z ∷ zs) l a = apart_from z zs (front_none zs l (key z) (apart_none z (zs ++ l ∷ []) a)) (apart_front zs l (apart_rest z (zs ++ l ∷ []) a))

  -- The last entry in the place of the one at i, which goes.
  lookup_swap : (zs : List E) (l : E) (i : ℕ) (d : E) (k q : K) → has_distinct_keys before key (zs ++ l ∷ []) ≡ true → i < length (zs ++ l ∷ []) → key (get_or (zs ++ l ∷ []) i d) ≡ k → lookup before key (set zs i l) q ≡ cond (same before k q) None (lookup before key (zs ++ l ∷ []) q)
  lookup_swap [] l zero d k q a m e = elim (cases_Bool (same before k q)) [
    | inl t ↦ rw t refl
    | inr f ↦ rw f (let g : same before (key l) q ≡ false = ap (λ c. same before c q) e ∙ f in rw g refl)
  ]
  lookup_swap [] l (suc i) d k q a m e = absurd (let z : ⊥ = omega arith in z)
  lookup_swap (z ∷ zs) l zero d k q a m e =
      let whole = lookup_push zs l q (apart_last zs l (apart_rest z (zs ++ l ∷ []) a)) in
      sym whole
      ∙ elim (cases_Bool (same before k q)) [
        | inl t ↦ rw t (subst (λ (c : K). lookup before key (zs ++ l ∷ []) c ≡ None) (e ∙ same_is before key lawful k q t) (apart_none z (zs ++ l ∷ []) a))
        | inr f ↦ rw f (let g : same before (key z) q ≡ false = ap (λ c. same before c q) e ∙ f in rw g refl)
      ]
  lookup_swap (z ∷ zs) l (suc i) d k q a m e =
      ap (λ t. cond (same before (key z) q) (Some z) t) (lookup_swap zs l i d k q (apart_rest z (zs ++ l ∷ []) a) (omega arith) e)
      ∙ swap_cond (same before (key z) q) (same before k q) (Some z) None (lookup before key (zs ++ l ∷ []) q)
      (λ s t. both_ways (same before (key (get_or (zs ++ l ∷ []) i d)) (key z)) (none_passed (zs ++ l ∷ []) (key z) (apart_none z (zs ++ l ∷ []) a) i d (omega arith))
      (same_level before key lawful (key (get_or (zs ++ l ∷ []) i d)) (key z) (e ∙ same_is before key lawful k q t ∙ sym (same_is before key lawful (key z) q s))))

  pub gathered_swap : (zs : List E) (l : E) (i : ℕ) (d : E) (k : K) → has_distinct_keys before key (zs ++ l ∷ []) ≡ true → i < length (zs ++ l ∷ []) → key (get_or (zs ++ l ∷ []) i d) ≡ k → map_from before key (set zs i l) ≡ without_element before key (map_from before key (zs ++ l ∷ [])) k
  gathered_swap zs l i d k a m e =
      same_maps before key lawful (map_from before key (set zs i l)) (without_element before key (map_from before key (zs ++ l ∷ [])) k)
      (ascending_gathered before key lawful (set zs i l))
      (ascending_excluding before key lawful (map_from before key (zs ++ l ∷ [])) k (ascending_gathered before key lawful (zs ++ l ∷ [])))
      (λ q.
      lookup_gathered before key lawful (set zs i l) q
      ∙ lookup_swap zs l i d k q a m e
      ∙ sym (lookup_excluding before key lawful (map_from before key (zs ++ l ∷ [])) k q (ascending_gathered before key lawful (zs ++ l ∷ [])) ∙ ap (λ t. cond (same before k q) None t) (lookup_gathered before key lawful (zs ++ l ∷ []) q)))

  pub apart_swap : (zs : List E) (l : E) (i : ℕ) → has_distinct_keys before key (zs ++ l ∷ []) ≡ true → i < length (zs ++ l ∷ []) → has_distinct_keys before key (set zs i l) ≡ true
  apart_swap [] l i a m = refl
  apart_swap (z ∷ zs) l zero a m = apart_from l zs (apart_last zs l (apart_rest z (zs ++ l ∷ []) a)) (apart_front zs l (apart_rest z (zs ++ l ∷ []) a))
  apart_swap (z ∷ zs) l (suc i) a m =
      apart_from z (set zs i l)
      (lookup_swap zs l i l (key (get_or (zs ++ l ∷ []) i l)) (key z) (apart_rest z (zs ++ l ∷ []) a) (omega arith) refl
      ∙ ap (λ t. cond t None (lookup before key (zs ++ l ∷ []) (key z))) (none_passed (zs ++ l ∷ []) (key z) (apart_none z (zs ++ l ∷ []) a) i l (omega arith))
      ∙ apart_none z (zs ++ l ∷ []) a)
      (apart_swap zs l i (apart_rest z (zs ++ l ∷ []) a) (omega arith))
