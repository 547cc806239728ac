-- A fault with the number of its row.
use Rattle.std.specs.Prelude.{ℕ}
use Rattle.cif.specs.declared.refusal.RowFault.{RowFault}
use Rattle.controller.specs.declared.fault.ExtractFault.{ExtractFault}

-- a row fault, with the row's number
abbrev pub in_extract : ℕ → RowFault → ExtractFault
in_extract row fault = record { fault = fault; row = row }
