-- Which file an error names.
use Rattle.std.specs.Prelude.{◌≡◌, ⊤, ℕ, List, string_bytes}
use Rattle.list_tasks.specs.declared.error.TaskError.{TaskError}
use Rattle.list_tasks.specs.declared.error.TaskError.TheVariants.{File, Unwritten, Line, Other}

-- the error is of no file
abbrev pub IsOther : TaskError → Type 0
IsOther (Other error) = ⊤
IsOther _ = ⊥

-- the error says that the file of this name cannot be read, or is of no file
abbrev pub NamesFile : List ℕ → TaskError → Type 0
NamesFile name (File given reason) = string_bytes given ≡ name
NamesFile name (Other error) = ⊤
NamesFile name _ = ⊥

-- the error says that the file of this name cannot be written, or is of no file
abbrev pub NamesWritten : List ℕ → TaskError → Type 0
NamesWritten name (Unwritten given reason) = string_bytes given ≡ name
NamesWritten name (Other error) = ⊤
NamesWritten name _ = ⊥

-- the error names a line of the script of this name, of whose number P holds, or is of no script
abbrev pub NamesLine : List ℕ → (ℕ → Type 0) → TaskError → Type 0
NamesLine name P (Line script number) = (string_bytes script ≡ name) × P number
NamesLine name P (Other error) = ⊤
NamesLine name P _ = ⊥
