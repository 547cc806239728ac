-- The calls, and the table of refusals: when each is turned away, and with what.
use Rattle.std.specs.Prelude.{ℕ, ◌+◌, Bool, true, false, cond, not, List, [], ◌∷◌, ◌++◌, is_some, Some, None, Ok, Err, Option, Result}
use Rattle.std.specs.Option.{option_map, option_map_or}
use Rattle.cif.specs.declared.content.Content.{Content}
use Rattle.cif.specs.declared.identity.Identity.{Identity}
use Rattle.cif.specs.declared.refusal.Refusal.TheVariants.{OutOfPlace}
use Rattle.cif.specs.declared.refusal.ColumnFault.{ColumnFault}
use Rattle.cif.specs.declared.refusal.RowFault.{RowFault}
use Rattle.cif.specs.Refusals.{TableLine, line, uppermost, then, map_err, in_row}
use Rattle.cif.specs.Rows.{row_lines, identity_in, whole_in}
use Rattle.cif.specs.Reading.{read_in, field_lines_in, told_in, letters_in, blanks}
use Rattle.board.specs.Turning.{turn_lines, slot_lines}
use Rattle.page.specs.Pages.{page_lines}
use Rattle.extract.specs.declared.stage.Stage.{Stage}
use Rattle.extract.specs.Stages.{is_idle, is_complete}
use Rattle.extract.specs.Progress.{Progress}
use Rattle.extract.specs.Judging.{Standing, content_lines, verdict_unless, is_misplaced, is_no_opening}
use Rattle.controller.specs.declared.fault.ExtractFault.{ExtractFault}
use Rattle.controller.specs.Faults.{in_extract}

-- a call with its arguments, other than controller and board; of the memory that page is handed it has the number of bytes
pub data Call : Type 0 where
  Open : List ℕ → Call
  Row : List ℕ → Call
  Confirm : Call
  Abandon : Call
  Turn : List ℕ → ℕ → Call
  Page : List ℕ → ℕ → ℕ → Call
  Tell : ℕ → Call
  Tally : Call

-- the row that a call is handed, if it is handed one
abbrev pub row_of : Call → Option (List ℕ)
row_of (Open row) = Some row
row_of (Row row) = Some row
row_of _ = None

-- the lines of the table that a call's row gives, if it has a row
abbrev pub on_row : Call → (List ℕ → List TableLine) → List TableLine
on_row call lines = option_map_or lines (row_of call) []

-- a row of an unknown identity fits no stage
abbrev pub misfits : (Stage → Identity → Bool) → Stage → Option Identity → Bool
misfits misplaced stage (Some i) = misplaced stage i
misfits misplaced stage None = true

-- the row does not fit the stage or the call: open takes an HD when idle, row any other row that the stage takes,
-- confirm asks for a complete extract and abandon for an open one
abbrev pub is_out_of_place : Call → Stage → Bool
is_out_of_place (Open row) stage = misfits is_no_opening stage (identity_in row)
is_out_of_place (Row row) stage = misfits is_misplaced stage (identity_in row)
is_out_of_place Confirm stage = not (is_complete stage)
is_out_of_place Abandon stage = is_idle stage
is_out_of_place _ stage = false

-- the column that is told with it: 1, or 0 where there is no row
abbrev pub place_column : Call → ℕ
place_column call = cond (is_some (row_of call)) 1 0

-- the value of a result, if it has one
abbrev pub value_in : {X E : Type 0} → Result X E → Option X
value_in (Ok x) = Some x
value_in (Err e) = None

-- the lines of the table that ask for what a row holds, if it can be read
abbrev pub held_lines : Standing → Option Content → List TableLine
held_lines s content = option_map_or (content_lines s) content []

-- the lines of the table that ask for the board, or for what page is given; with a call that is given no board, any number may stand for
-- its line slots
abbrev pub board_lines : Call → ℕ → ℕ → List TableLine
board_lines Confirm slots capacity = slot_lines slots capacity
board_lines (Turn station day) slots capacity = turn_lines station day slots capacity
board_lines (Page name minute bytes) slots capacity = page_lines name minute bytes
board_lines _ slots capacity = []

-- those lines of the table that can hold of a confirmation: the extract is not complete, or the line slots are too few
abbrev pub confirm_lines : Standing → ℕ → List TableLine
confirm_lines s slots = line OutOfPlace 0 (not (is_complete s.extract.stage)) ∷ slot_lines slots s.store.capacity

-- THE TABLE OF REFUSALS, in the order of its lines, over what a call is judged by and the board's line slots, and over the lines of a
-- row's fields and what it holds
abbrev pub refusals_by : (List ℕ → List TableLine) → (List ℕ → Option Content) → Call → Standing → ℕ → List TableLine
refusals_by fields holds call s slots =
    on_row call row_lines  -- 1 to 3: length, bytes, identity
    ++ (line OutOfPlace (place_column call) (is_out_of_place call s.extract.stage)  -- 4
    ∷ (on_row call fields  -- 5 and 6: forms of the fields, order of the days
    ++ (on_row call (λ row. held_lines s (holds row))  -- 7 to 13: references, keys, calls, rows, room
    ++ board_lines call slots s.store.capacity)))  -- 14 to 18: station and day, line slots, a page

abbrev pub refusals : Call → Standing → ℕ → List TableLine
refusals call s slots = refusals_by (λ row. field_lines_in (identity_in row) row) (λ row. value_in (read_in row)) call s slots

-- a fault is told with the row's identity and number, or with blanks and 0 where there is no row
abbrev pub told_at : Option (List ℕ) → ℕ → ColumnFault → ExtractFault
told_at (Some row) number f = in_extract number (told_in row f)
told_at None number f = in_extract 0 (in_row blanks f)

-- the row's number is the number of rows taken plus 1
abbrev pub told_with : Call → Standing → ColumnFault → ExtractFault
told_with call s f = told_at (row_of call) (s.extract.taken + 1) f

-- a call is turned away exactly when a line holds, and the uppermost is told
abbrev pub refusal_of : Call → Standing → ℕ → Option ExtractFault
refusal_of call s slots = option_map (told_with call s) (uppermost (refusals call s slots))

-- the same of a row as it is heard step by step: is it a row, is it in place, are its fields in form, does no line of the table hold
abbrev pub bytes_verdict : (Stage → Identity → Bool) → Standing → List ℕ → Result Progress RowFault
bytes_verdict misplaced s row =
    then (map_err (in_row blanks) (whole_in row)) (λ i.
    map_err (in_row (letters_in row)) (verdict_unless (misplaced s.extract.stage i) s i row))
