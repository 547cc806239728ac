-- The heading of a page.
use Rattle.std.specs.Prelude.{ℕ, if◌then◌else◌, List, [], ◌∷◌, reverse}
use Rattle.forms.specs.Bytes.{is_blank}

-- a text without the blanks that it begins with
abbrev pub without_first_blanks : List ℕ → List ℕ
without_first_blanks [] = []
without_first_blanks (b ∷ rest) = if is_blank b then without_first_blanks rest else b ∷ rest

-- a text without the blanks that it ends with
abbrev pub without_last_blanks : List ℕ → List ℕ
without_last_blanks text = reverse (without_first_blanks (reverse text))

-- a text trimmed of blanks at both ends
abbrev pub trimmed : List ℕ → List ℕ
trimmed text = without_last_blanks (without_first_blanks text)

-- the first text, or the second where the first has no byte
abbrev pub unless_empty : List ℕ → List ℕ → List ℕ
unless_empty [] other = other
unless_empty text other = text

-- the heading: the trimmed local name, or the trimmed TIPLOC where the name has only blanks or no byte
abbrev pub heading_of : List ℕ → List ℕ → List ℕ
heading_of name tiploc = unless_empty (trimmed name) (trimmed tiploc)
