-- A result has one case and one value.
use Rattle.std.proofs.Common.{◌≡◌, ℕ, Ok, Err, Result, arith}

pub ok_is : {X E : Type 0} (r : Result X E) (x y : X) → r ≡ Ok x → r ≡ Ok y → x ≡ y
ok_is r x y p q = cc

pub err_ok : {X E : Type 0} {P : Type 0} (r : Result X E) (x : X) (e : E) → r ≡ Err e → r ≡ Ok x → P
err_ok r x e p q = let z : ◌≡◌ {A = ℕ} 0 1 = cc in absurd (let w : ⊥ = omega arith in w)
