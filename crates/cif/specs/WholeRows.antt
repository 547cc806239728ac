-- A row that was found whole.
use Rattle.std.specs.Prelude.{ℕ, List}
use Rattle.cif.specs.declared.identity.Identity.{Identity}
use Rattle.cif.specs.declared.row.Row.{Row}

-- the 80 bytes of a row
abbrev pub row_bytes : Row → List ℕ
row_bytes row = row.bytes

-- the identity of a row
abbrev pub row_identity : Row → Identity
row_identity row = row.identity
