-- Bytes, and the alphabets that the fields of a row are written in.
use Rattle.std.specs.Prelude.{ℕ, ◌-◌, Bool, if◌then◌else◌, ◌&&◌, ◌||◌, List, take, drop, Some, None, Option, ◌==◌, nat_le, slice_index}
use Rattle.forms.specs.declared.text.Alphabet.{Alphabet}
use Rattle.forms.specs.declared.text.Alphabet.TheVariants.{Letters, Digits, Flags, Names, Labels, Blanks}

-- the bytes at the columns first to last, which count from 1
abbrev pub columns : ℕ → ℕ → List ℕ → List ℕ
columns first last row = take (last - (first - 1)) (drop (first - 1) row)

-- the byte at a column
abbrev pub byte_at : ℕ → List ℕ → ℕ
byte_at column row = slice_index row (column - 1)

-- 0 to 9
abbrev pub is_digit : ℕ → Bool
is_digit c = nat_le 48 c && nat_le c 57

-- A to Z
abbrev pub is_letter : ℕ → Bool
is_letter c = nat_le 65 c && nat_le c 90

-- A to Z or 0 to 9
abbrev pub is_name : ℕ → Bool
is_name c = is_letter c || is_digit c

-- a blank
abbrev pub is_blank : ℕ → Bool
is_blank c = c == 32

-- what an alphabet allows
abbrev pub allows : Alphabet → ℕ → Bool
allows Letters c = is_letter c
allows Digits c = is_digit c
allows Flags c = c == 48 || c == 49
allows Names c = is_name c
allows Labels c = is_name c || is_blank c
allows Blanks c = is_blank c

-- the reading that a second step makes of the first one's value
abbrev pub and_then : {X Y : Type 0} → Option X → (X → Option Y) → Option Y
and_then (Some x) f = f x
and_then None f = None

-- a value, where a test is passed
abbrev pub provided : {X : Type 0} → Bool → X → Option X
provided b x = if b then Some x else None
