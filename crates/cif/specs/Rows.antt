-- A row: 80 printable bytes, of which the first two are one of twelve identities.
use denote.Enum.Bare.{sameb}
use Rattle.std.specs.Prelude.{◌≡◌, ℕ, ◌+◌, ◌*◌, ◌/◌, ◌%◌, Bool, if◌then◌else◌, not, ◌&&◌, List, [], ◌∷◌, length, Some, None, Ok, Err, Option, Result, MatchResult, ◌==◌, nat_le, slice_index}
use Rattle.forms.specs.Bytes.{byte_at}
use Rattle.forms.specs.Letters.{case_of, number_beside}
use Rattle.cif.specs.declared.refusal.Refusal.TheVariants.{RowLength, BadByte, UnknownIdentity}
use Rattle.cif.specs.declared.refusal.ColumnFault.{ColumnFault}
use Rattle.std.specs.List.{position_from}
use Rattle.std.specs.Option.{option_map}
use Rattle.cif.specs.declared.identity.UnknownIdentity.{UnknownIdentity as NoIdentity}
use Rattle.cif.specs.declared.identity.Identity.{Identity}
use Rattle.cif.specs.declared.identity.TheConstants.Identity.{LETTERS as identity_letters}
use Rattle.cif.specs.contracts.identity.Identity.{the_type as identity_type}
use Rattle.cif.specs.Refusals.{TableLine, line, is_missing, fault_at}

-- the two letters of an identity, which the enum gives it as a number: the first letter's byte before the second's
abbrev pub letters_of : Identity → List ℕ
letters_of i =
    let number = number_beside (sameb identity_type) identity_letters i in
    number / 256 ∷ number % 256 ∷ []

-- the identity of two letters, if they are those of one
abbrev pub identity_of : ℕ → ℕ → Option Identity
identity_of a b = case_of identity_letters (a * 256 + b)

-- the result is the identity that two letters name, or the letters that name none
abbrev pub Names : List ℕ → Result Identity NoIdentity → Type 0
Names letters r =
    MatchResult r
    (λ i. identity_of (slice_index letters 0) (slice_index letters 1) ≡ Some i)
    (λ e. (identity_of (slice_index letters 0) (slice_index letters 1) ≡ None) × (e.0 ≡ letters))

-- an identity has its two letters, which are read as that identity again
abbrev pub HasLetters : Identity → List ℕ → Type 0
HasLetters identity letters =
    (letters ≡ letters_of identity) × (identity_of (slice_index letters 0) (slice_index letters 1) ≡ Some identity)

-- the identity at columns 1 and 2
abbrev pub identity_in : List ℕ → Option Identity
identity_in row = identity_of (byte_at 1 row) (byte_at 2 row)

-- a printable byte
abbrev pub is_printable : ℕ → Bool
is_printable c = nat_le 32 c && nat_le c 126

-- the column of the first byte that is not printable
abbrev pub first_bad : List ℕ → Option ℕ
first_bad row = option_map (λ i. i + 1) (position_from (λ c. not (is_printable c)) 0 row)

-- a column, or 0 where there is none
abbrev pub column_or0 : Option ℕ → ℕ
column_or0 (Some column) = column
column_or0 None = 0

-- the lines of the table that ask nothing but the row
abbrev pub row_lines : List ℕ → List TableLine
row_lines row =
    line RowLength 0 (not (length row == 80))
    ∷ line BadByte (column_or0 (first_bad row)) (not (is_missing (first_bad row)))
    ∷ line UnknownIdentity 1 (is_missing (identity_in row))
    ∷ []

-- the identity of a row that is whole, or the uppermost of these refusals
abbrev pub whole_in : List ℕ → Result Identity ColumnFault
whole_in row =
    if length row == 80
    then (elim (first_bad row) [
      | Some column ↦ Err (fault_at BadByte column)
      | None ↦ elim (identity_in row) [ Some i ↦ Ok i | None ↦ Err (fault_at UnknownIdentity 1) ]
    ])
    else Err (fault_at RowLength 0)
