-- The slots of a new store.
use Rattle.std.proofs.Common.{◌≡◌, ℕ, List, length, min, take, ap, ◌∙◌}
use Rattle.std.proofs.lemmas.List.{take_min}
use Rattle.std.proofs.Math.Nat.{min_comm}

-- at most 65,535 slots are those up to the 65,535th
pub first_slots : {X : Type 0} (lent kept : List X) (n : ℕ) → kept ≡ take n lent → n ≡ min (length lent) 65535 → kept ≡ take 65535 lent
first_slots lent kept n e m = e ∙ (ap (λ k. take k lent) (m ∙ min_comm (length lent) 65535) ∙ take_min 65535 lent)
