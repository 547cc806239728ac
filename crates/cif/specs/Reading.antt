-- A row by itself: what it holds, or the uppermost refusal, told with its identity.
use Rattle.std.specs.Prelude.{◌≡◌, ℕ, cond, List, [], ◌∷◌, ◌++◌, Some, None, Ok, Option, Result, nat_le}
use Rattle.std.specs.Option.{option_map}
use Rattle.forms.specs.Bytes.{byte_at}
use Rattle.cif.specs.declared.refusal.ColumnFault.{ColumnFault}
use Rattle.cif.specs.declared.refusal.RowFault.{RowFault}
use Rattle.cif.specs.declared.identity.Identity.{Identity}
use Rattle.cif.specs.declared.identity.Identity.TheVariants.{Header, BasicSchedule, BasicExtra, Origin, Intermediate, Terminus}
use Rattle.cif.specs.declared.content.Content.{Content}
use Rattle.cif.specs.declared.content.Content.TheVariants.{Header as OfHeader, Schedule as OfSchedule, Operator as OfOperator, Origin as OfOrigin, Intermediate as OfIntermediate, Terminus as OfTerminus, Unread}
use Rattle.cif.specs.Refusals.{number_of, in_row, TableLine, uppermost, then, map_err, fault_of}
use Rattle.cif.specs.Rows.{identity_in, row_lines, whole_in}
use Rattle.cif.specs.Fields.{header_in, header_lines, schedule_in, schedule_lines, operator_in, operator_lines, origin_in, end_lines, intermediate_in, intermediate_lines, terminus_in}

-- the row's own bytes at columns 1 and 2
abbrev pub letters_in : List ℕ → List ℕ
letters_in row = byte_at 1 row ∷ byte_at 2 row ∷ []

-- two blanks, where no identity is told
abbrev pub blanks : List ℕ
blanks = 32 ∷ 32 ∷ []

-- what a row of an identity holds
abbrev pub content_in : Identity → List ℕ → Result Content ColumnFault
content_in Header row = then (header_in row) (λ h. Ok (OfHeader h))
content_in BasicSchedule row = then (schedule_in row) (λ s. Ok (OfSchedule s))
content_in BasicExtra row = then (operator_in row) (λ o. Ok (OfOperator o))
content_in Origin row = then (origin_in row) (λ l. Ok (OfOrigin l))
content_in Intermediate row = then (intermediate_in row) (λ l. Ok (OfIntermediate l))
content_in Terminus row = then (terminus_in row) (λ l. Ok (OfTerminus l))
content_in other row = Ok (Unread other)

-- what any bytes hold as a row, or the fault
abbrev pub read_in : List ℕ → Result Content RowFault
read_in row =
    then (map_err (in_row blanks) (whole_in row)) (λ i.
    map_err (in_row (letters_in row)) (content_in i row))

-- the lines of the fields that a row of an identity has read
abbrev pub field_lines : Identity → List ℕ → List TableLine
field_lines Header row = header_lines row
field_lines BasicSchedule row = schedule_lines row
field_lines BasicExtra row = operator_lines row
field_lines Origin row = end_lines row
field_lines Intermediate row = intermediate_lines row
field_lines Terminus row = end_lines row
field_lines _ row = []

-- the same, and none where the identity is not known
abbrev pub field_lines_in : Option Identity → List ℕ → List TableLine
field_lines_in (Some i) row = field_lines i row
field_lines_in None row = []

-- the table of a row by itself
abbrev pub reading_lines : List ℕ → List TableLine
reading_lines row = row_lines row ++ field_lines_in (identity_in row) row

-- a fault is told with the row's identity, the numbers 1 to 3 with blanks
abbrev pub told_in : List ℕ → ColumnFault → RowFault
told_in row fault = in_row (cond (nat_le (number_of fault.refusal) 3) blanks (letters_in row)) fault

-- the fault that the table gives
abbrev pub fault_by_table : List ℕ → Option RowFault
fault_by_table row = option_map (told_in row) (uppermost (reading_lines row))

-- a row of each identity is refused by the uppermost line of its fields, and read where none holds
abbrev pub LeftmostIsTold : Type 0
LeftmostIsTold = (i : Identity) (row : List ℕ) → fault_of (content_in i row) ≡ uppermost (field_lines i row)
