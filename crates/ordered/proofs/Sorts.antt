-- Elements of different keys that were sorted stand as the map that they are.
use Rattle.std.proofs.Common.{◌≡◌, ℕ, suc, ◌<◌, ◌≤◌, Bool, true, false, cond, not, List, [], ◌∷◌, length, get_or, is_some, Some, None, Option, inl, inr, sym, refl, ap, ◌∙◌, arith}
use Rattle.std.specs.Cmp.{IsStrictWeakOrder}
use Rattle.std.specs.List.{Contains, sum_by}
use Rattle.std.specs.List.Sorted.{IsPermutation, IsSortedBy}
use Rattle.std.proofs.lemmas.Bool.{cases_Bool, both_ways, and_parts, and_from, not-true}
use Rattle.std.proofs.lemmas.List.{get_or_default}
use Rattle.std.proofs.lemmas.List.Sums.{sum_by-cons}
use Rattle.std.proofs.lemmas.List.Sorted.{IsPermutation-sym, Contains-permutation, sum_by-IsPermutation, sorted_far}
use Rattle.maps.specs.Orders.{Lawful, same}
use Rattle.maps.specs.Maps.{after, ascending, lookup, map_from, has_distinct_keys}
use Rattle.maps.proofs.Maps.{some_none, some_is, same_level, same_is, same_maps, asymmetric, ascending_gathered, lookup_gathered}
use Rattle.maps.proofs.Heaped.{none_passed}
use Rattle.maps.proofs.Sorted.{ascends_whole, hit_lookup}

none_from : {X : Type 0} (o : Option X) → is_some o ≡ false → o ≡ None
none_from None h = refl
none_from (Some x) h = absurd (both_ways true h refl)

module _ {E K : Type 0} (before : K → K → Bool) (key : E → K) (lawful : Lawful before) where
  pub weak_order : IsStrictWeakOrder (λ (x y : E). before (key x) (key y))
  weak_order = record {
    one_way = λ x y h. asymmetric before key lawful (key x) (key y) h;
    chain = λ x y z p q. elim (cases_Bool (before (key x) (key z))) [
      | inl t ↦ elim (cases_Bool (before (key y) (key x))) [
        | inl u ↦ absurd (both_ways (before (key y) (key z)) q (lawful.transitive (key y) (key x) (key z) u t))
        | inr u ↦ absurd (both_ways (before (key y) (key z)) q (ap (λ k. before k (key z)) (sym (lawful.total (key x) (key y) p u)) ∙ t))
      ]
      | inr f ↦ f
    ];
  }

  -- how many elements have the key k
  abbrev one : K → E → ℕ
  one k x = cond (same before (key x) k) 1 0

  none_of : (k : K) (xs : List E) → lookup before key xs k ≡ None → sum_by (one k) xs ≡ 0
  none_of k [] h = refl
  none_of k (x ∷ xs) h = elim (cases_Bool (same before (key x) k)) [
    | inl t ↦ absurd (some_none x (rw t at h))
    | inr f ↦ sum_by-cons (one k) x xs ∙ rw f (let rest : lookup before key xs k ≡ None = rw f at h in let z = none_of k xs rest in omega arith)
  ]

  one_of : (k : K) (xs : List E) → has_distinct_keys before key xs ≡ true → sum_by (one k) xs ≤ 1
  one_of k [] a = omega arith
  one_of k (x ∷ xs) a =
      let p = and_parts (not (is_some (lookup before key xs (key x)))) (has_distinct_keys before key xs) a in
      let e = sum_by-cons (one k) x xs in
      elim (cases_Bool (same before (key x) k)) [
        | inl t ↦
            let none : lookup before key xs (key x) ≡ None = none_from (lookup before key xs (key x)) (not-true (is_some (lookup before key xs (key x))) p.0) in
            let z : sum_by (one k) xs ≡ 0 = none_of k xs (ap (lookup before key xs) (sym (same_is before key lawful (key x) k t)) ∙ none) in
            let o : one k x ≡ 1 = rw t refl in
            omega arith
        | inr f ↦
            let rest = one_of k xs p.1 in
            let o : one k x ≡ 0 = rw f refl in
            omega arith
      ]

  after_all : (k : K) (zs : List E) → ((j : ℕ) (d : E) → j < length zs → before (key (get_or zs j d)) k ≡ false) → sum_by (one k) zs ≡ 0 → after before key k zs ≡ true
  after_all k [] h s = refl
  after_all k (z ∷ zs) h s =
      let e = sum_by-cons (one k) z zs in
      let rest : sum_by (one k) zs ≡ 0 = omega arith in
      let here : one k z ≡ 0 = omega arith in
      and_from (before k (key z)) (after before key k zs)
      (elim (cases_Bool (before k (key z))) [
        | inl t ↦ t
        | inr f ↦ let level : one k z ≡ 1 = ap (λ b. cond b 1 0) (same_level before key lawful (key z) k (lawful.total (key z) k (h 0 z (omega arith)) f)) in absurd (omega arith)
      ])
      (after_all k zs (λ j d l. h (suc j) d (omega arith)) rest)

  rises : (ys : List E) → ((k : K) → sum_by (one k) ys ≤ 1) → ((i j : ℕ) (d : E) → i ≤ j → j < length ys → before (key (get_or ys j d)) (key (get_or ys i d)) ≡ false) → ascending before key ys ≡ true
  rises [] s h = refl
  rises (y ∷ ys) s h =
      let level : one (key y) y ≡ 1 = ap (λ b. cond b 1 0) (same_level before key lawful (key y) (key y) refl) in
      let e = sum_by-cons (one (key y)) y ys in
      let m = s (key y) in
      let none : sum_by (one (key y)) ys ≡ 0 = omega arith in
      and_from (after before key (key y) ys) (ascending before key ys)
      (after_all (key y) ys (λ j d l. h 0 (suc j) d (omega arith) (omega arith)) none)
      (rises ys (λ k. let f = s k in let g = sum_by-cons (one k) y ys in omega arith) (λ i j d l m. h (suc i) (suc j) d (omega arith) (omega arith)))

  -- what a look-up finds is there, under its key
  found : (xs : List E) (k : K) (x : E) → lookup before key xs k ≡ Some x → Contains xs x × (key x ≡ k)
  found [] k x h = absurd (some_none x (sym h))
  found (y ∷ ys) k x h = elim (cases_Bool (same before (key y) k)) [
    | inl t ↦ let e : y ≡ x = some_is y x (rw t at h) in ((0, omega arith, e), ap key (sym e) ∙ same_is before key lawful (key y) k t)
    | inr f ↦ let r = found ys k x (rw f at h) in let l = r.0.1 in ((suc r.0.0, omega arith, r.0.2), r.1)
  ]

  -- what is there is found, where the keys rise
  finds : (ys : List E) (y : E) → ascending before key ys ≡ true → Contains ys y → lookup before key ys (key y) ≡ Some y
  finds ys y up c =
      hit_lookup before key lawful ys c.0 (key y) y
      (record {
        within = c.1;
        under = λ j d l. ap (λ (e : E). before (key (get_or ys j d)) (key e)) (sym (get_or_default ys c.0 d y c.1 ∙ c.2)) ∙ ascends_whole before key ys up j c.0 d l c.1;
        is = λ d. ap key (get_or_default ys c.0 d y c.1 ∙ c.2);
      })
      ∙ ap Some c.2

  is_there : (xs : List E) (y : E) → Contains xs y → lookup before key xs (key y) ≡ None → ⊥
  is_there xs y c n = both_ways (same before (key (get_or xs c.0 y)) (key y)) (none_passed before key lawful xs (key y) n c.0 y c.1) (same_level before key lawful (key (get_or xs c.0 y)) (key y) (ap key c.2))

  same_found : (xs ys : List E) → IsPermutation xs ys → ascending before key ys ≡ true → (k : K) → lookup before key ys k ≡ lookup before key xs k
  same_found xs ys p up k = by (lookup before key xs k) (lookup before key ys k) refl refl
    where
      by : (a b : Option E) → lookup before key xs k ≡ a → lookup before key ys k ≡ b → lookup before key ys k ≡ lookup before key xs k
      by (Some x) b e f =
          let r = found xs k x e in
          ap (lookup before key ys) (sym r.1) ∙ finds ys x up (Contains-permutation xs ys x p r.0) ∙ sym e
      by None (Some y) e f =
          let r = found ys k y f in
          absurd (is_there xs y (Contains-permutation ys xs y (IsPermutation-sym xs ys p) r.0) (ap (lookup before key xs) r.1 ∙ e))
      by None None e f = f ∙ sym e

  pub sorted_gathered : (xs ys : List E) → has_distinct_keys before key xs ≡ true → IsPermutation xs ys → IsSortedBy (λ x y. before (key x) (key y)) ys → ys ≡ map_from before key xs
  sorted_gathered xs ys a p s =
      let up : ascending before key ys ≡ true = rises ys (λ k. let o = one_of k xs a in let e = sum_by-IsPermutation (one k) xs ys p in omega arith) (sorted_far (λ x y. before (key x) (key y)) weak_order ys s) in
      same_maps before key lawful ys (map_from before key xs) up (ascending_gathered before key lawful xs)
      (λ k. same_found xs ys p up k ∙ sym (lookup_gathered before key lawful xs k))
