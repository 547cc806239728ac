-- A file of rows: a row ends at a line feed, or at the end of the file.
use Rattle.std.specs.Prelude.{ℕ, if◌then◌else◌, List, [], ◌∷◌, ◌==◌}

-- the bytes before the first line feed
abbrev pub first_row : List ℕ → List ℕ
first_row [] = []
first_row (c ∷ cs) = if c == 10 then [] else c ∷ first_row cs

-- the bytes after it
abbrev pub other_rows : List ℕ → List ℕ
other_rows [] = []
other_rows (c ∷ cs) = if c == 10 then cs else other_rows cs
