-- Why a row that was read is turned away.
use Rattle.std.specs.Prelude.{◌≡◌, ℕ, Bool, true, false, cond, not, ◌&&◌, ◌||◌, List, [], ◌∷◌, ◌++◌, length, is_some, Some, None, Ok, Err, Result, nat_le}
use Rattle.std.specs.Option.{option_map_or}
use Rattle.std.specs.Str.{bytes_eq}
use Rattle.forms.specs.declared.letters.Coverage.{Coverage}
use Rattle.forms.specs.declared.letters.Coverage.TheVariants.{Full, Update}
use Rattle.cif.specs.declared.content.Header.{Header as Heading}
use Rattle.cif.specs.declared.content.BasicSchedule.{BasicSchedule}
use Rattle.cif.specs.declared.content.Action.{Action}
use Rattle.cif.specs.declared.content.Action.TheVariants.{New as AsksNew}
use Rattle.cif.specs.declared.content.Location.{Location}
use Rattle.cif.specs.declared.content.Content.{Content}
use Rattle.cif.specs.Contents.{header_of, basic_schedule_of, location_of}
use Rattle.cif.specs.declared.identity.Identity.{Identity}
use Rattle.cif.specs.declared.refusal.Refusal.TheVariants.{OutOfPlace, ReferenceMismatch, KeyPresent, KeyAbsent, TooManyRows, StoreFull}
use Rattle.cif.specs.declared.refusal.ColumnFault.{ColumnFault}
use Rattle.cif.specs.Refusals.{TableLine, line, uppermost, is_missing, fault_at, then}
use Rattle.cif.specs.Reading.{content_in}
use Rattle.schedule.specs.declared.transaction.Change.{Change}
use Rattle.schedule.specs.Records.{seven_blanks}
use Rattle.schedule.specs.Building.{bringing_lines}
use Rattle.timetable.specs.Timetables.{Meaning, is_full}
use Rattle.timetable.specs.Laws.{has_key}
use Rattle.overlay.specs.Overlays.{with_done}
use Rattle.extract.specs.declared.stage.Stage.{Stage}
use Rattle.extract.specs.Stages.{next_stage, is_idle, is_header, is_trailer}
use Rattle.extract.specs.Progress.{Progress, key_in, identity_for, after}

-- what a row is judged by: the extract so far, what the store means, and the reference in force
pub record Standing : Type 0 where
  pub extract : Progress
  pub store : Meaning
  pub reference : List ℕ

-- the overlay: the store with the pending transactions done to it in order
abbrev pub overlay_in : Standing → Meaning
overlay_in s = with_done s.store s.extract.changes

-- whether a reference is blank
abbrev pub is_blank_reference : List ℕ → Bool
is_blank_reference r = bytes_eq r seven_blanks

-- an update has a last reference, a full extract has none
abbrev pub suits : Coverage → List ℕ → Bool
suits Update last = not (is_blank_reference last)
suits Full last = is_blank_reference last

-- the last reference is not the one in force, or equals the current one, or is blank with U or not blank with F
abbrev pub mismatches : List ℕ → Heading → Bool
mismatches in_force h =
    not (bytes_eq h.last in_force) || (bytes_eq h.last h.current || not (suits h.coverage h.last))

-- an HD whose references do not fit
abbrev pub references_fail : Standing → Content → Bool
references_fail s c = option_map_or (mismatches s.reference) (header_of c) false

-- a BS asks for a new schedule, N
abbrev pub asks_new : Action → Bool
asks_new (AsksNew d) = true
asks_new _ = false

-- a BS with N that passes a test
abbrev pub is_new_with : (BasicSchedule → Bool) → Content → Bool
is_new_with test c = option_map_or (λ b. asks_new b.action && test b) (basic_schedule_of c) false

-- a BS with R or D that passes a test
abbrev pub is_old_with : (BasicSchedule → Bool) → Content → Bool
is_old_with test c = option_map_or (λ b. not (asks_new b.action) && test b) (basic_schedule_of c) false

-- the key of a BS is in the overlay
abbrev pub is_there : Standing → BasicSchedule → Bool
is_there s b = has_key (overlay_in s).map (key_in b)

-- a location is judged by the schedule that is being read: a 49th kept call, a third kept call at one TIPLOC
abbrev pub location_lines : Standing → Content → List TableLine
location_lines s c = option_map_or (bringing_lines s.extract.draft) (location_of c) []

-- a BS comes after 32 transactions
abbrev pub past_transactions : Standing → Content → Bool
past_transactions s c = is_some (basic_schedule_of c) && nat_le 32 (length s.extract.changes)

-- 9,999 rows are taken and this is not ZZ
abbrev pub past_rows : Standing → Content → Bool
past_rows s c = nat_le 9999 s.extract.taken && not (is_trailer (identity_for c))

-- the lines of a BS, by whether it is new, its key is there, too many rows or transactions came before it, and the overlay is full
abbrev pub change_lines : Bool → Bool → Bool → Bool → List TableLine
change_lines new there many full =
    line KeyPresent 4 (new && there)
    ∷ line KeyAbsent 4 (not new && not there)
    ∷ line TooManyRows 1 many
    ∷ line StoreFull 1 (new && full)
    ∷ []

-- 9,999 rows are taken: the line of a row that is no BS and no ZZ
abbrev pub room_lines : ℕ → List TableLine
room_lines taken = line TooManyRows 1 (nat_le 9999 taken) ∷ []

-- the lines of a row with a location that a transaction takes, where so many rows are taken
abbrev pub call_row_lines : Change → Location → ℕ → List TableLine
call_row_lines draft l taken = bringing_lines draft l ++ room_lines taken

-- the lines of the table that ask for the extract, the overlay or the reference: 7 to 13
abbrev pub content_lines : Standing → Content → List TableLine
content_lines s c =
    line ReferenceMismatch 40 (references_fail s c)
    ∷ line KeyPresent 4 (is_new_with (is_there s) c)
    ∷ line KeyAbsent 4 (is_old_with (λ b. not (is_there s b)) c)
    ∷ location_lines s c
    ++ (line TooManyRows 1 (past_rows s c || past_transactions s c)
    ∷ line StoreFull 1 (is_new_with (λ b. is_full (overlay_in s)) c)
    ∷ [])

-- a value, unless a line of a table holds: the uppermost is told
abbrev pub value_unless : {X : Type 0} → List TableLine → X → Result X ColumnFault
value_unless ls x = elim (uppermost ls) [ Some f ↦ Err f | None ↦ Ok x ]

-- a row that was read is taken where no line holds
abbrev pub verdict_on : Standing → Content → Result Progress ColumnFault
verdict_on s c = value_unless (content_lines s c) (after s.extract c)

-- a row that is out of place is turned away, then one whose fields lack their form, then one for which a line holds
abbrev pub verdict_unless : Bool → Standing → Identity → List ℕ → Result Progress ColumnFault
verdict_unless misplaced s i row = cond misplaced (Err (fault_at OutOfPlace 1)) (then (content_in i row) (λ c. verdict_on s c))

-- to the call row a row is out of place where the stage does not take it; an HD is always out of place there
abbrev pub is_misplaced : Stage → Identity → Bool
is_misplaced stage i = is_header i || is_missing (next_stage stage i false)

-- what the call row makes of a row of an identity
abbrev pub row_verdict : Standing → Identity → List ℕ → Result Progress ColumnFault
row_verdict s i row = verdict_unless (is_misplaced s.extract.stage i) s i row

-- to the call open only an HD when idle is in place
abbrev pub is_no_opening : Stage → Identity → Bool
is_no_opening stage i = not (is_idle stage && is_header i)

-- what the call open makes of a row of an identity
abbrev pub open_verdict : Standing → Identity → List ℕ → Result Progress ColumnFault
open_verdict s i row = verdict_unless (is_no_opening s.extract.stage i) s i row

-- abandon has nothing to drop when idle
abbrev pub idle_lines : Stage → List TableLine
idle_lines stage = line OutOfPlace 0 (is_idle stage) ∷ []

-- a call did what the rule says: the extract is what it gives, or it tells the rule's fault
abbrev pub GoesBy : {X E : Type 0} → X → Result X E → Result (Unit {0}) E → Type 0
GoesBy after rule (Ok u) = rule ≡ Ok after
GoesBy after rule (Err e) = rule ≡ Err e
