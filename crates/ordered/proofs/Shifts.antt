-- What a shift by one place leaves of a list's first n elements.
use Rattle.std.proofs.Common.{◌≡◌, ℕ, zero, suc, ◌+◌, ◌-◌, ◌<◌, ◌≤◌, List, [], ◌∷◌, ◌++◌, length, get_or, take, drop, set, sym, refl, ap, ◌∙◌, add-one, arith}
use lib.Seq.{paste}
use Rattle.std.specs.List.{insert, remove}
use Rattle.std.proofs.lemmas.List.{take_more, append_assoc, set_at, length-take-le, take-take, drop-take, length-drop, drop-set-lt}
use Rattle.std.proofs.lemmas.List.Edits.{take-paste, drop-paste}

pub take_set_in : {X : Type 0} (n : ℕ) (xs : List X) (i : ℕ) (x : X) → take n (set xs i x) ≡ set (take n xs) i x
take_set_in zero xs i x = refl
take_set_in (suc n) [] i x = refl
take_set_in (suc n) (y ∷ ys) zero x = refl
take_set_in (suc n) (y ∷ ys) (suc i) x = ap (λ t. y ∷ t) (take_set_in n ys i x)

drop_front : {X : Type 0} (p n : ℕ) (xs : List X) → p ≤ n → drop p (take n xs) ≡ take (n - p) (drop p xs)
drop_front p n xs h = let e : p + (n - p) ≡ n = omega arith in ap (λ m. drop p (take m xs)) (sym e) ∙ drop-take p (n - p) xs

pub shifted_in : {X : Type 0} (xs : List X) (n p : ℕ) (e : X) → p ≤ n → n < length xs → take (n + 1) (set (paste xs (p + 1) (drop p xs) (n - p)) p e) ≡ insert (take n xs) p e
shifted_in xs n p e h l =
    let total : (p + 1) + (n - p) ≡ n + 1 = omega arith in
    let front : length (take p xs) ≡ p = length-take-le p xs (omega arith) in
    take_set_in (n + 1) (paste xs (p + 1) (drop p xs) (n - p)) p e
    ∙ ap (λ m. set (take m (paste xs (p + 1) (drop p xs) (n - p))) p e) (sym total)
    ∙ ap (λ t. set t p e) (take-paste xs (p + 1) (drop p xs) (n - p) (omega arith) (simp length-drop (omega arith)) ∙ ap (λ t. t ++ take (n - p) (drop p xs)) (take_more xs p e (omega arith)) ∙ append_assoc (take p xs) (get_or xs p e ∷ []) (take (n - p) (drop p xs)))
    ∙ set_at (take p xs) (get_or xs p e) (take (n - p) (drop p xs)) e p front
    ∙ ap (λ t. t ++ e ∷ take (n - p) (drop p xs)) (sym (take-take p n xs h))
    ∙ ap (λ t. take p (take n xs) ++ e ∷ t) (sym (drop_front p n xs h))

pub shifted_out : {X : Type 0} (xs : List X) (n p : ℕ) → p < n → n ≤ length xs → take (n - 1) (paste xs p (drop (p + 1) xs) (n - (p + 1))) ≡ remove (take n xs) p
shifted_out xs n p h l =
    let total : p + (n - (p + 1)) ≡ n - 1 = omega arith in
    ap (λ m. take m (paste xs p (drop (p + 1) xs) (n - (p + 1)))) (sym total)
    ∙ take-paste xs p (drop (p + 1) xs) (n - (p + 1)) (omega arith) (simp length-drop (omega arith))
    ∙ ap (λ t. t ++ take (n - (p + 1)) (drop (p + 1) xs)) (sym (take-take p n xs (omega arith)))
    ∙ ap (λ t. take p (take n xs) ++ t) (sym (drop_front (p + 1) n xs (omega arith)) ∙ ap (λ m. drop m (take n xs)) (add-one p))

-- What lies past the elements stays.
pub rest_in : {X : Type 0} (xs : List X) (n p : ℕ) (e : X) → p ≤ n → n < length xs → drop (n + 1) (set (paste xs (p + 1) (drop p xs) (n - p)) p e) ≡ drop (n + 1) xs
rest_in xs n p e h l =
    let total : (p + 1) + (n - p) ≡ n + 1 = omega arith in
    drop-set-lt (n + 1) (paste xs (p + 1) (drop p xs) (n - p)) p e (omega arith)
    ∙ ap (λ m. drop m (paste xs (p + 1) (drop p xs) (n - p))) (sym total)
    ∙ drop-paste xs (p + 1) (drop p xs) (n - p) (omega arith) (simp length-drop (omega arith))
    ∙ ap (λ m. drop m xs) total

pub rest_out : {X : Type 0} (xs : List X) (n p : ℕ) → p < n → n ≤ length xs → drop (n - 1) (paste xs p (drop (p + 1) xs) (n - (p + 1))) ≡ drop (n - 1) xs
rest_out xs n p h l =
    let total : p + (n - (p + 1)) ≡ n - 1 = omega arith in
    ap (λ m. drop m (paste xs p (drop (p + 1) xs) (n - (p + 1)))) (sym total)
    ∙ drop-paste xs p (drop (p + 1) xs) (n - (p + 1)) (omega arith) (simp length-drop (omega arith))
    ∙ ap (λ m. drop m xs) total
