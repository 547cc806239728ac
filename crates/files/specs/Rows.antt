-- The rows of a file that are still to come.
use Rattle.std.specs.Prelude.{ℕ, List}
use Rattle.files.specs.declared.Rows.{Rows}

-- the bytes of a file from its next row on
abbrev pub rest_of : Rows → List ℕ
rest_of rows = rows.rest.now
