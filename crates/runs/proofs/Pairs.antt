-- Two runs beside one another.
use Rattle.std.proofs.Common.{◌≡◌, sym, subst}
use Rattle.std.proofs.Math.Logic.{∥∥₁_elim, ∥∥₁_map, ∥∥₁_prop}
use Rattle.runs.specs.Pairs.{OnSide}
use Rattle.runs.specs.declared.pair.Side.{Side}
use Rattle.runs.specs.declared.pair.Side.TheVariants.{Left, Right}

pub on_left : {left : Type 0} (right : Type 0) (side : Side) → side ≡ Left → left → OnSide side left right
on_left {left = left} right side e p = subst (λ (s : Side). OnSide s left right) (sym e) p

pub on_right : (left : Type 0) {right : Type 0} (side : Side) → side ≡ Right → right → OnSide side left right
on_right left {right = right} side e p = subst (λ (s : Side). OnSide s left right) (sym e) p

-- what follows from three facts that hold
pub from_three : {A B C D : Type 0} → ∥ A ∥₁ → ∥ B ∥₁ → ∥ C ∥₁ → (A → B → C → D) → ∥ D ∥₁
from_three a b c f = ∥∥₁_elim a ∥∥₁_prop (λ x. ∥∥₁_elim b ∥∥₁_prop (λ y. ∥∥₁_map c (λ z. f x y z)))
