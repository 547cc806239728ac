-- What texts and digits of a script stand for.
use Rattle.std.specs.Prelude.{ℕ, ◌+◌, ◌-◌, ◌*◌, ◌&&◌, Bool, if◌then◌else◌, List, [], ◌∷◌, Some, None, Option, ◌==◌, nat_le}
use Rattle.std.specs.Option.{option_map}
use Rattle.forms.specs.Bytes.{and_then, provided}
use Rattle.forms.specs.Forms.{number_in}

-- whether a number lies between two others, both included
abbrev pub between : ℕ → ℕ → ℕ → Bool
between least most n = nat_le least n && nat_le n most

-- the value of a hexadecimal digit of either case
abbrev pub hex_value : ℕ → Option ℕ
hex_value c =
    if between 48 57 c then Some (c - 48)
    else (if between 97 102 c then Some (c - 87)
    else (if between 65 70 c then Some (c - 55)
    else None))

-- the byte that two hexadecimal digits write
abbrev pub hex_byte : ℕ → ℕ → Option ℕ
hex_byte high low = and_then (hex_value high) (λ x. option_map (λ y. 16 * x + y) (hex_value low))

-- the byte that two hexadecimal digits write, and the text behind them
abbrev pub escaped : List ℕ → Option (ℕ × List ℕ)
escaped [] = None
escaped (high ∷ []) = None
escaped (high ∷ low ∷ rest) = option_map (λ b. (b, rest)) (hex_byte high low)

-- the byte that a text begins with, and the text behind it: a `\` begins an escaped byte, every
-- other byte stands for itself
abbrev pub first_byte_of : List ℕ → Option (ℕ × List ℕ)
first_byte_of [] = None
first_byte_of (b ∷ rest) = if b == 92 then escaped rest else Some (b, rest)

abbrev mutual
  -- the bytes that a text stands for, one after another
  pub bytes_of : List ℕ → Option (List ℕ)
  bytes_of [] = Some []
  bytes_of (b ∷ rest) =
      if b == 92 then escaped_bytes_of rest else option_map (λ bs. b ∷ bs) (bytes_of rest)

  -- those of a text that stands behind a `\`
  pub escaped_bytes_of : List ℕ → Option (List ℕ)
  escaped_bytes_of [] = None
  escaped_bytes_of (high ∷ []) = None
  escaped_bytes_of (high ∷ low ∷ rest) =
      and_then (hex_byte high low) (λ b. option_map (λ bs. b ∷ bs) (bytes_of rest))

-- a number where it is not above a limit
abbrev pub at_most : ℕ → Option ℕ → Option ℕ
at_most most number = and_then number (λ n. provided (nat_le n most) n)

-- the number that digits write, one at least and nothing else, where it is not above a limit
abbrev pub number_up_to : ℕ → List ℕ → Option ℕ
number_up_to most [] = None
number_up_to most (c ∷ cs) = at_most most (number_in (c ∷ cs))
