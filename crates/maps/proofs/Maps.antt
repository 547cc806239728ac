-- Finite maps as lists with rising keys: what each edit does to each look-up, and that look-ups decide a map.
use Rattle.std.proofs.Common.{◌≡◌, ℕ, Bool, true, false, cond, not, List, [], ◌∷◌, Some, None, sym, refl, ap, ◌∙◌, subst, inl, inr, ⊎_elim, arith}
use Rattle.std.proofs.lemmas.Bool.{cases_Bool, both_ways, and_parts, and_from, and_left, and_right, not-true, not_from_true, not_from_false, false≢true}
use Rattle.maps.specs.Orders.{Lawful, same}
use Rattle.maps.specs.Maps.{after, ascending, lookup, with_element, without_element, map_from}

-- How two keys stand.
pub data Stand {K : Type 0} (before : K → K → Bool) (a b : K) : Type 0 where
  first : before a b ≡ true → before b a ≡ false → Stand before a b
  last : before a b ≡ false → before b a ≡ true → Stand before a b
  level : before a b ≡ false → before b a ≡ false → a ≡ b → Stand before a b

pub swap_cond : {X : Type 0} (a b : Bool) (x y z : X) → (a ≡ true → b ≡ true → ⊥) → cond a x (cond b y z) ≡ cond b y (cond a x z)
swap_cond true true x y z h = absurd (h refl refl)
swap_cond true false x y z h = refl
swap_cond false true x y z h = refl
swap_cond false false x y z h = refl

pub shadow_cond : {X : Type 0} (a b : Bool) (x y z : X) → a ≡ b → cond a x z ≡ cond a x (cond b y z)
shadow_cond true b x y z h = refl
shadow_cond false true x y z h = absurd (false≢true h)
shadow_cond false false x y z h = refl

pub some_none : {X : Type 0} (x : X) → Some x ≡ None → ⊥
some_none x h = let z : ◌≡◌ {A = ℕ} 0 1 = cc in omega arith

pub some_is : {X : Type 0} (x y : X) → Some x ≡ Some y → x ≡ y
some_is x y h = cc

module _ {E K : Type 0} (before : K → K → Bool) (key : E → K) (lawful : Lawful before) where
  pub asymmetric : (a b : K) → before a b ≡ true → before b a ≡ false
  asymmetric a b h = ⊎_elim (λ t. absurd (both_ways (before a a) (lawful.irreflexive a) (lawful.transitive a b a h t))) (λ f. f) (cases_Bool (before b a))

  pub stand : (a b : K) → Stand before a b
  stand a b = ⊎_elim (λ t. first t (asymmetric a b t)) (λ f. ⊎_elim (λ t. last f t) (λ g. level f g (lawful.total a b f g)) (cases_Bool (before b a))) (cases_Bool (before a b))

  pub same_first : (a b : K) → before a b ≡ true → same before a b ≡ false
  same_first a b h = and_left (not (before a b)) (not (before b a)) (not_from_true (before a b) h)

  pub same_last : (a b : K) → before b a ≡ true → same before a b ≡ false
  same_last a b h = and_right (not (before a b)) (not (before b a)) (not_from_true (before b a) h)

  pub same_level : (a b : K) → a ≡ b → same before a b ≡ true
  same_level a b e = subst (λ (c : K). same before a c ≡ true) e (and_from (not (before a a)) (not (before a a)) (not_from_false (before a a) (lawful.irreflexive a)) (not_from_false (before a a) (lawful.irreflexive a)))

  pub same_is : (a b : K) → same before a b ≡ true → a ≡ b
  same_is a b h = let p = and_parts (not (before a b)) (not (before b a)) h in lawful.total a b (not-true (before a b) p.0) (not-true (before b a) p.1)

  same_clash : (a b q : K) → before a b ≡ true → same before a q ≡ true → same before b q ≡ true → ⊥
  same_clash a b q h p r = both_ways (before a b) (let e : a ≡ b = same_is a q p ∙ sym (same_is b q r) in subst (λ (c : K). before a c ≡ false) e (lawful.irreflexive a)) h

  after_below : (j k : K) (xs : List E) → before j k ≡ true → after before key k xs ≡ true → after before key j xs ≡ true
  after_below j k [] h a = refl
  after_below j k (y ∷ ys) h a = let p = and_parts (before k (key y)) (after before key k ys) a in and_from (before j (key y)) (after before key j ys) (lawful.transitive j k (key y) h p.0) (after_below j k ys h p.1)

  pub lookup_after : (q : K) (xs : List E) → after before key q xs ≡ true → lookup before key xs q ≡ None
  lookup_after q [] a = refl
  lookup_after q (y ∷ ys) a = let p = and_parts (before q (key y)) (after before key q ys) a in let s = same_last (key y) q p.0 in rw s (lookup_after q ys p.1)

  pub after_head : (q : K) (y : E) (ys : List E) → before q (key y) ≡ true → ascending before key (y ∷ ys) ≡ true → after before key q (y ∷ ys) ≡ true
  after_head q y ys h a = let p = and_parts (after before key (key y) ys) (ascending before key ys) a in and_from (before q (key y)) (after before key q ys) h (after_below q (key y) ys h p.0)

  pub lookup_including : (m : List E) (x : E) (q : K) → lookup before key (with_element before key m x) q ≡ cond (same before (key x) q) (Some x) (lookup before key m q)
  lookup_including [] x q = refl
  lookup_including (y ∷ ys) x q = elim (stand (key y) (key x)) [
    | first p r ↦ rw p (ap (λ t. cond (same before (key y) q) (Some y) t) (lookup_including ys x q) ∙ swap_cond (same before (key y) q) (same before (key x) q) (Some y) (Some x) (lookup before key ys q) (same_clash (key y) (key x) q p))
    | last p r ↦ rw (p, r) refl
    | level p r e ↦ rw (p, r) (shadow_cond (same before (key x) q) (same before (key y) q) (Some x) (Some y) (lookup before key ys q) (ap (λ c. same before c q) (sym e)))
  ]

  pub lookup_excluding : (m : List E) (k q : K) → ascending before key m ≡ true → lookup before key (without_element before key m k) q ≡ cond (same before k q) None (lookup before key m q)
  lookup_excluding [] k q a = elim (cases_Bool (same before k q)) [ inl t ↦ rw t refl | inr f ↦ rw f refl ]
  lookup_excluding (y ∷ ys) k q a =
      let parts = and_parts (after before key (key y) ys) (ascending before key ys) a in
      elim (stand (key y) k) [
        | first p r ↦ rw p (ap (λ t. cond (same before (key y) q) (Some y) t) (lookup_excluding ys k q parts.1) ∙ swap_cond (same before (key y) q) (same before k q) (Some y) None (lookup before key ys q) (same_clash (key y) k q p))
        | last p r ↦ rw (p, r) (elim (cases_Bool (same before k q)) [
          | inl t ↦ rw t (subst (λ (c : K). lookup before key (y ∷ ys) c ≡ None) (same_is k q t) (lookup_after k (y ∷ ys) (after_head k y ys r a)))
          | inr f ↦ rw f refl
        ])
        | level p r e ↦ rw (p, r) (elim (cases_Bool (same before k q)) [
          | inl t ↦ rw t (subst (λ (c : K). lookup before key ys c ≡ None) (e ∙ same_is k q t) (lookup_after (key y) ys parts.0))
          | inr f ↦ rw f (let s : same before (key y) q ≡ false = ap (λ c. same before c q) e ∙ f in rw s refl)
        ])
      ]

  -- Maps with equal look-ups are equal.
  pub same_maps : (a b : List E) → ascending before key a ≡ true → ascending before key b ≡ true → ((q : K) → lookup before key a q ≡ lookup before key b q) → a ≡ b
  same_maps [] [] u v h = refl
  same_maps [] (y ∷ ys) u v h = absurd (some_none y (let s = same_level (key y) (key y) refl in let e : None ≡ Some y = rw s at (h (key y)) in sym e))
  same_maps (x ∷ xs) [] u v h = absurd (some_none x (let s = same_level (key x) (key x) refl in rw s at (h (key x))))
  same_maps (x ∷ xs) (y ∷ ys) u v h =
      let here = same_level (key x) (key x) refl in
      let there = same_level (key y) (key y) refl in
      let us = and_parts (after before key (key x) xs) (ascending before key xs) u in
      let vs = and_parts (after before key (key y) ys) (ascending before key ys) v in
      elim (stand (key x) (key y)) [
        | first p r ↦ absurd (some_none x (sym (ap (λ t. cond t (Some x) (lookup before key xs (key x))) here) ∙ h (key x) ∙ lookup_after (key x) (y ∷ ys) (after_head (key x) y ys p v)))
        | last p r ↦ absurd (some_none y (sym (ap (λ t. cond t (Some y) (lookup before key ys (key y))) there) ∙ sym (h (key y)) ∙ lookup_after (key y) (x ∷ xs) (after_head (key y) x xs r u)))
        | level p r e ↦
            let heads : x ≡ y = some_is x y (sym (ap (λ t. cond t (Some x) (lookup before key xs (key x))) here) ∙ h (key x) ∙ ap (λ t. cond t (Some y) (lookup before key ys (key x))) (same_level (key y) (key x) (sym e))) in
            let tails : xs ≡ ys = same_maps xs ys us.1 vs.1 (λ q. elim (cases_Bool (same before (key x) q)) [
              | inl t ↦
                  subst (λ (c : K). lookup before key xs c ≡ None) (same_is (key x) q t) (lookup_after (key x) xs us.0)
                  ∙ sym (subst (λ (c : K). lookup before key ys c ≡ None) (sym e ∙ same_is (key x) q t) (lookup_after (key y) ys vs.0))
              | inr f ↦
                  sym (ap (λ t. cond t (Some x) (lookup before key xs q)) f)
                  ∙ h q
                  ∙ ap (λ t. cond t (Some y) (lookup before key ys q)) (ap (λ c. same before c q) (sym e) ∙ f)
            ]) in
            cc
      ]

  after_including : (k : K) (m : List E) (x : E) → before k (key x) ≡ true → after before key k m ≡ true → after before key k (with_element before key m x) ≡ true
  after_including k [] x h a = and_from (before k (key x)) true h refl
  after_including k (y ∷ ys) x h a =
      let p = and_parts (before k (key y)) (after before key k ys) a in
      elim (stand (key y) (key x)) [
        | first q r ↦ rw q (and_from (before k (key y)) (after before key k (with_element before key ys x)) p.0 (after_including k ys x h p.1))
        | last q r ↦ rw (q, r) (and_from (before k (key x)) (after before key k (y ∷ ys)) h a)
        | level q r e ↦ rw (q, r) (and_from (before k (key x)) (after before key k ys) h p.1)
      ]

  pub ascending_including : (m : List E) (x : E) → ascending before key m ≡ true → ascending before key (with_element before key m x) ≡ true
  ascending_including [] x a = refl
  ascending_including (y ∷ ys) x a =
      let p = and_parts (after before key (key y) ys) (ascending before key ys) a in
      elim (stand (key y) (key x)) [
        | first q r ↦ rw q (and_from (after before key (key y) (with_element before key ys x)) (ascending before key (with_element before key ys x)) (after_including (key y) ys x q p.0) (ascending_including ys x p.1))
        | last q r ↦ rw (q, r) (and_from (after before key (key x) (y ∷ ys)) (ascending before key (y ∷ ys)) (after_head (key x) y ys r a) a)
        | level q r e ↦ rw (q, r) (and_from (after before key (key x) ys) (ascending before key ys) (subst (λ (c : K). after before key c ys ≡ true) e p.0) p.1)
      ]

  after_excluding : (j : K) (m : List E) (k : K) → after before key j m ≡ true → after before key j (without_element before key m k) ≡ true
  after_excluding j [] k a = refl
  after_excluding j (y ∷ ys) k a =
      let p = and_parts (before j (key y)) (after before key j ys) a in
      elim (stand (key y) k) [
        | first q r ↦ rw q (and_from (before j (key y)) (after before key j (without_element before key ys k)) p.0 (after_excluding j ys k p.1))
        | last q r ↦ rw (q, r) a
        | level q r e ↦ rw (q, r) p.1
      ]

  pub ascending_excluding : (m : List E) (k : K) → ascending before key m ≡ true → ascending before key (without_element before key m k) ≡ true
  ascending_excluding [] k a = refl
  ascending_excluding (y ∷ ys) k a =
      let p = and_parts (after before key (key y) ys) (ascending before key ys) a in
      elim (stand (key y) k) [
        | first q r ↦ rw q (and_from (after before key (key y) (without_element before key ys k)) (ascending before key (without_element before key ys k)) (after_excluding (key y) ys k p.0) (ascending_excluding ys k p.1))
        | last q r ↦ rw (q, r) a
        | level q r e ↦ rw (q, r) p.1
      ]

  pub ascending_gathered : (xs : List E) → ascending before key (map_from before key xs) ≡ true
  ascending_gathered [] = refl
  ascending_gathered (x ∷ xs) = ascending_including (map_from before key xs) x (ascending_gathered xs)

  pub lookup_gathered : (xs : List E) (q : K) → lookup before key (map_from before key xs) q ≡ lookup before key xs q
  lookup_gathered [] q = refl
  lookup_gathered (x ∷ xs) q = lookup_including (map_from before key xs) x q ∙ ap (λ t. cond (same before (key x) q) (Some x) t) (lookup_gathered xs q)

  -- Without a key that is not there, a map is as it was.
  pub excluding_absent : (m : List E) (k : K) → ascending before key m ≡ true → lookup before key m k ≡ None → without_element before key m k ≡ m
  excluding_absent m k a h =
      same_maps (without_element before key m k) m (ascending_excluding m k a) a
      (λ q. lookup_excluding m k q a ∙ elim (cases_Bool (same before k q)) [
        | inl t ↦ rw t (sym (subst (λ (c : K). lookup before key m c ≡ None) (same_is k q t) h))
        | inr f ↦ rw f refl
      ])
