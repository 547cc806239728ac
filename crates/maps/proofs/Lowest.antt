-- The lowest key that is not before another, of a map with one entry more.
use Rattle.std.proofs.Common.{◌≡◌, Bool, true, false, cond, List, [], ◌∷◌, ◌++◌, Some, None, Option, sym, refl, ap, ◌∙◌, inl, inr}
use Rattle.std.proofs.lemmas.Bool.{cases_Bool, both_ways, and_parts}
use Rattle.maps.specs.Orders.{Lawful}
use Rattle.maps.specs.Maps.{after, ascending, with_element, ceiling, map_from, lower}
use Rattle.maps.proofs.Maps.{first, last, level, stand, asymmetric, after_head, ascending_gathered}

module _ {E K : Type 0} (before : K → K → Bool) (key : E → K) (lawful : Lawful before) where
  lower_after : (a : K) (m : List E) (k : K) → after before key a m ≡ true → lower before a (ceiling before key m k) ≡ Some a
  lower_after a [] k h = refl
  lower_after a (y ∷ ys) k h =
      let p = and_parts (before a (key y)) (after before key a ys) h in
      elim (cases_Bool (before (key y) k)) [
        | inl t ↦ rw t (lower_after a ys k p.1)
        | inr f ↦ rw f (let q = asymmetric before key lawful a (key y) p.0 in rw q refl)
      ]

  pub ceiling_including : (m : List E) (x : E) (k : K) → ascending before key m ≡ true → ceiling before key (with_element before key m x) k ≡ cond (before (key x) k) (ceiling before key m k) (lower before (key x) (ceiling before key m k))
  ceiling_including [] x k a = refl
  ceiling_including (y ∷ ys) x k a =
      let parts = and_parts (after before key (key y) ys) (ascending before key ys) a in
      elim (stand before key lawful (key y) (key x)) [
        | first p r ↦ rw p (elim (cases_Bool (before (key y) k)) [
          | inl t ↦ rw t (ceiling_including ys x k parts.1)
          | inr f ↦ rw f (elim (cases_Bool (before (key x) k)) [
            | inl u ↦ absurd (both_ways (before (key y) k) f (lawful.transitive (key y) (key x) k p u))
            | inr u ↦ rw (u, p) refl
          ])
        ])
        | last p r ↦ rw (p, r) (let low = lower_after (key x) (y ∷ ys) k (after_head before key lawful (key x) y ys r a) in
            elim (cases_Bool (before (key x) k)) [
              | inl t ↦ rw t refl
              | inr f ↦ rw f (sym low)
            ])
        | level p r e ↦ rw (p, r) (let low : lower before (key x) (Some (key y)) ≡ Some (key x) = rw p refl in
            elim (cases_Bool (before (key x) k)) [
              | inl t ↦ (let s : before (key y) k ≡ true = ap (λ c. before c k) e ∙ t in rw (t, s) refl)
              | inr f ↦ (let s : before (key y) k ≡ false = ap (λ c. before c k) e ∙ f in rw (f, s) (sym low))
            ])
      ]

  -- One entry more in front of a pile.
  pub ceiling_gathered : (xs : List E) (x : E) (k : K) → ceiling before key (map_from before key (x ∷ xs)) k ≡ cond (before (key x) k) (ceiling before key (map_from before key xs) k) (lower before (key x) (ceiling before key (map_from before key xs) k))
  ceiling_gathered xs x k = ceiling_including (map_from before key xs) x k (ascending_gathered before key lawful xs)

  -- what is not after c is before all that c is before
  before_more : (x y c : K) → before c x ≡ false → before c y ≡ true → before x y ≡ true
  before_more x y c n h = elim (stand before key lawful x c) [
    | first p r ↦ lawful.transitive x c y p h
    | last p r ↦ absurd (both_ways (before c x) n r)
    | level p r e ↦ ap (λ w. before w y) e ∙ h
  ]

  -- of two keys, whichever is asked first
  lower_two : (a b : K) → lower before a (Some b) ≡ lower before b (Some a)
  lower_two a b = elim (stand before key lawful a b) [
    | first p r ↦ rw (p, r) refl
    | last p r ↦ rw (p, r) refl
    | level p r e ↦ rw (p, r) (ap (λ x. Some x) e)
  ]

  lower_either : (a b : K) (o : Option K) → lower before a (lower before b o) ≡ lower before b (lower before a o)
  lower_either a b None = lower_two a b
  lower_either a b (Some c) = elim (cases_Bool (before c b)) [
    | inl t ↦ rw t (elim (cases_Bool (before c a)) [
      | inl u ↦ rw (u, t) refl
      | inr u ↦ rw u (let q = before_more a b c u t in rw q refl)
    ])
    | inr t ↦ rw t (elim (cases_Bool (before c a)) [
      | inl u ↦ rw u (let q = before_more b a c t u in rw (t, q) refl)
      | inr u ↦ rw u (lower_two a b)
    ])
  ]

  swap_either : (a b : Bool) (x y : K) (o : Option K) → cond a (cond b o (lower before y o)) (lower before x (cond b o (lower before y o))) ≡ cond b (cond a o (lower before x o)) (lower before y (cond a o (lower before x o)))
  swap_either true true x y o = refl
  swap_either true false x y o = refl
  swap_either false true x y o = refl
  swap_either false false x y o = lower_either x y o

  -- One entry more at the end of a pile.
  pub ceiling_push : (xs : List E) (x : E) (k : K) → ceiling before key (map_from before key (xs ++ x ∷ [])) k ≡ cond (before (key x) k) (ceiling before key (map_from before key xs) k) (lower before (key x) (ceiling before key (map_from before key xs) k))
  ceiling_push [] x k = refl
  ceiling_push (y ∷ ys) x k =
      ceiling_gathered (ys ++ x ∷ []) y k
      ∙ ap (λ o. cond (before (key y) k) o (lower before (key y) o)) (ceiling_push ys x k)
      ∙ swap_either (before (key y) k) (before (key x) k) (key y) (key x) (ceiling before key (map_from before key ys) k)
      ∙ sym (ap (λ o. cond (before (key x) k) o (lower before (key x) o)) (ceiling_gathered ys y k))
