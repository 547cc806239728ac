-- A field's reading as its form has it.
use Rattle.std.proofs.Common.{◌≡◌, ℕ, Some, None, Option, refl}
use Rattle.std.specs.Option.{ok_or}
use Rattle.cif.specs.declared.refusal.Refusal.TheVariants.{BadForm}
use Rattle.cif.specs.Refusals.{fault_at, field_at}

pub formed_or : {X : Type 0} (column : ℕ) (o : Option X) → ok_or o (fault_at BadForm column) ≡ field_at column o
formed_or column (Some x) = refl
formed_or column None = refl
