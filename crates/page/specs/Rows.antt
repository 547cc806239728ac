-- The rows of a page.
use Rattle.std.specs.Prelude.{ℕ, ◌+◌, ◌-◌, ◌/◌, ◌%◌, Bool, if◌then◌else◌, ◌&&◌, List, [], ◌∷◌, ◌++◌, map, nat_le, get_or}
use Rattle.std.specs.List.{range_with_len}
use Rattle.board.specs.declared.line.Line.{Line}

-- columns of a row, which count from 1, with what stands there
pub record Field : Type 0 where
  pub first : ℕ
  pub last : ℕ
  pub text : List ℕ

-- the columns first to last with a text
abbrev pub columns : ℕ → ℕ → List ℕ → Field
columns first last text = record { first = first; last = last; text = text }

-- whether a column is one of a field's
abbrev pub has_column : Field → ℕ → Bool
has_column f column = nat_le f.first column && nat_le column f.last

-- the byte that a field has at a column: that of its text, or a blank past it
abbrev pub byte_in : Field → ℕ → ℕ
byte_in f column = get_or f.text (column - f.first) 32

-- the byte of a row at a column: that of the field that has the column; every other byte is a blank
abbrev pub byte_of : List Field → ℕ → ℕ
byte_of [] column = 32
byte_of (f ∷ fs) column = if has_column f column then byte_in f column else byte_of fs column

-- a row: its 24 bytes, from column 1 on
abbrev pub row_of : List Field → List ℕ
row_of fields = map (byte_of fields) (range_with_len 1 24)

-- two digits
abbrev pub two_digits : ℕ → List ℕ
two_digits n = (48 + n / 10) ∷ (48 + n % 10) ∷ []

-- the hour and the minute of a minute of the day
abbrev pub hour_minute : ℕ → List ℕ
hour_minute minute = two_digits (minute / 60) ++ two_digits (minute % 60)

-- what stands in the row of a line
abbrev pub line_fields : Line → List Field
line_fields l =
    columns 1 4 (hour_minute l.key.minute)
    ∷ columns 6 12 l.destination
    ∷ columns 14 16 l.platform
    ∷ columns 18 19 l.operator
    ∷ columns 21 24 l.train
    ∷ []

-- what stands in the row of a heading, which is cut at 24
abbrev pub heading_fields : List ℕ → List Field
heading_fields heading = columns 1 24 heading ∷ []
