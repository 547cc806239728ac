-- The rules of reading as they were while every schedule had a last day, and where they agree with those of today.
use Rattle.std.specs.Prelude.{◌≡◌, ℕ, Bool, true, false, ◌&&◌, List, Some, Ok, Option, Result}
use Rattle.forms.specs.declared.end.End.{End}
use Rattle.forms.specs.Bytes.{columns}
use Rattle.forms.specs.Ends.{has_last, says_no_end, last_day_in}
use Rattle.cif.specs.declared.refusal.ColumnFault.{ColumnFault}
use Rattle.cif.specs.declared.refusal.RowFault.{RowFault}
use Rattle.cif.specs.declared.identity.Identity.{Identity}
use Rattle.cif.specs.declared.identity.Identity.TheVariants.{BasicSchedule}
use Rattle.cif.specs.declared.content.Action.{Action}
use Rattle.cif.specs.declared.content.Action.TheVariants.{New, Revise, Delete}
use Rattle.cif.specs.declared.content.Content.{Content}
use Rattle.cif.specs.declared.content.Content.TheVariants.{Schedule as OfSchedule}
use Rattle.cif.specs.Refusals.{in_row, TableLine, then, map_err}
use Rattle.cif.specs.Rows.{identity_in, whole_in}
use Rattle.cif.specs.Fields.{transaction_of, reads_all, schedule_by, schedule_lines_by}
use Rattle.cif.specs.Reading.{letters_in, blanks, content_in, read_in, field_lines_in}

-- columns 16 to 21 of a BS are a date, and 999999 is none
abbrev pub dated_to : List ℕ → Option End
dated_to row = last_day_in (columns 16 21 row)

-- what a row of an identity holds, by that
abbrev pub dated_content : Identity → List ℕ → Result Content ColumnFault
dated_content BasicSchedule row = then (schedule_by (dated_to row) row) (λ s. Ok (OfSchedule s))
dated_content other row = content_in other row

-- what any bytes hold as a row, or the fault
abbrev pub dated_read : List ℕ → Result Content RowFault
dated_read row =
    then (map_err (in_row blanks) (whole_in row)) (λ i.
    map_err (in_row (letters_in row)) (dated_content i row))

-- the lines of the fields that a row of an identity has read
abbrev pub dated_lines : Option Identity → List ℕ → List TableLine
dated_lines (Some BasicSchedule) row = schedule_lines_by (dated_to row) row
dated_lines other row = field_lines_in other row

-- whether an identity is BS
abbrev pub is_basic_schedule : Option Identity → Bool
is_basic_schedule (Some BasicSchedule) = true
is_basic_schedule _ = false

-- a row is a BS with N or R that has 999999 in columns 16 to 21
abbrev pub has_no_end : List ℕ → Bool
has_no_end row = is_basic_schedule (identity_in row) && (reads_all (transaction_of row) && says_no_end (columns 16 21 row))

-- the train of a BS has a last day, unless it is deleted
abbrev pub action_ends : Action → Bool
action_ends (New r) = has_last r.to
action_ends (Revise r) = has_last r.to
action_ends Delete = true

-- what a row holds, if it is a BS, has a last day
abbrev pub content_ends : Content → Bool
content_ends (OfSchedule b) = action_ends b.action
content_ends _ = true

-- a row is read, or refused, by these rules as by those of today
pub record ReadAsBefore (row : List ℕ) : Type 0 where
  pub read : read_in row ≡ dated_read row
  pub lines : field_lines_in (identity_in row) row ≡ dated_lines (identity_in row) row

-- so is every row but a BS with N or R that has 999999 in columns 16 to 21, which these rules refuse; what a BS with N or R holds that has
-- something else there has a last day
pub record OnlyNoEndIsNew : Type 0 where
  pub others : (row : List ℕ) → has_no_end row ≡ false → ReadAsBefore row
  pub refused : (row : List ℕ) (c : Content) → has_no_end row ≡ true → dated_read row ≡ Ok c → ⊥
  pub ends : (row : List ℕ) (c : Content) → has_no_end row ≡ false → read_in row ≡ Ok c → content_ends c ≡ true
