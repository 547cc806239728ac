-- What lies in slots after one put or one removal.
use Rattle.std.proofs.Common.{◌≡◌, ◌≤◌, Bool, true, false, cond, ◌||◌, nat_lt, List, [], ◌∷◌, ◌++◌, length, drop, is_some, inl, inr, refl, sym, ap, ◌∙◌, arith}
use Rattle.std.proofs.lemmas.Bool.{cases_Bool, lt-ltb, le-ltb, ltb-true, ltb-false}
use Rattle.std.proofs.lemmas.List.{take-append-drop, length-take-le, length-drop}
use Rattle.maps.specs.Maps.{lookup}
use Rattle.ordered.specs.declared.slots.Slots.{Slots}
use Rattle.ordered.specs.Tables.{items, room, RestKept}
use Rattle.ordered.specs.Edits.{ToPut, ToRemove, contents_of, now_holding, has_place, after_edit, Edited}

long : {E : Type 0} (s : Slots E) → length (items s) ≡ s.len
long s = length-take-le s.len s.slots.now s.fits

holds : {E : Type 0} (s t : Slots E) (ys : List E) → items t ≡ ys → RestKept s t → contents_of t ≡ now_holding (contents_of s) ys
holds s t ys e rest =
    let past : drop t.len t.slots.now ≡ drop (length ys) (items s ++ drop s.len s.slots.now) =
    rest.rest ∙ ap (λ n. drop n s.slots.now) (sym (long t) ∙ ap length e) ∙ ap (drop (length ys)) (sym (take-append-drop s.len s.slots.now)) in
    λ i. record { held = e i; past = past i }

pub kept_itself : {E : Type 0} (s : Slots E) → RestKept s s
kept_itself s = record { rest = refl; slots = refl; lender = refl }

-- a slot is free where there is room for one element more
free : {E : Type 0} (s : Slots E) → nat_lt 0 (length (drop s.len s.slots.now)) ≡ nat_lt (length (items s)) (room s)
free s =
    let n = long s in
    let m = length-drop s.len s.slots.now in
    let f : s.len ≤ room s = s.fits in
    elim (cases_Bool (nat_lt (length (items s)) (room s))) [
      | inl t ↦ let l = ltb-true (length (items s)) (room s) t in lt-ltb 0 (length (drop s.len s.slots.now)) (omega arith) ∙ sym t
      | inr e ↦ let l = ltb-false (length (items s)) (room s) e in le-ltb 0 (length (drop s.len s.slots.now)) (omega arith) ∙ sym e
    ]

module _ {E K : Type 0} (before : K → K → Bool) (key : E → K) (put : List E → E → List E) (removal : List E → K → List E) (s t : Slots E) (rest : RestKept s t) where
  pub put_edited : (x : E) (r : Bool) → r ≡ (is_some (lookup before key (items s) (key x)) || nat_lt (length (items s)) (room s)) → items t ≡ cond r (put (items s) x) (items s) → Edited before key put removal s (ToPut x ∷ []) t
  put_edited x r done gives = record { lender = rest.lender; contents = either r done gives }
    where
      placed : (b : Bool) → b ≡ (is_some (lookup before key (items s) (key x)) || nat_lt (length (items s)) (room s)) → has_place before key put removal (contents_of s) x ≡ b
      placed b d = ap (λ n. is_some (lookup before key (items s) (key x)) || n) (free s) ∙ sym d

      either : (b : Bool) → b ≡ (is_some (lookup before key (items s) (key x)) || nat_lt (length (items s)) (room s)) → items t ≡ cond b (put (items s) x) (items s) → contents_of t ≡ after_edit before key put removal (contents_of s) (ToPut x)
      either true d g = holds s t (put (items s) x) g rest ∙ ap (λ b. cond b (now_holding (contents_of s) (put (items s) x)) (contents_of s)) (sym (placed true d))
      either false d g =
          holds s t (items s) g rest
          ∙ sym (holds s s (items s) refl (kept_itself s))
          ∙ ap (λ b. cond b (now_holding (contents_of s) (put (items s) x)) (contents_of s)) (sym (placed false d))

  pub removal_edited : (k : K) → items t ≡ removal (items s) k → Edited before key put removal s (ToRemove k ∷ []) t
  removal_edited k gives = record { lender = rest.lender; contents = holds s t (removal (items s) k) gives rest }
