-- What the rows of a schedule come to.
use Rattle.std.specs.Prelude.{◌≡◌, ℕ, ◌-◌, Bool, true, false, not, ◌&&◌, List, [], ◌∷◌, ◌++◌, length, map, filter, replicate, fold, Some, None, Ok, Option, ⊤}
use Rattle.std.specs.Option.{unwrap_or}
use Rattle.cif.specs.declared.content.BasicSchedule.{BasicSchedule}
use Rattle.cif.specs.declared.content.Action.{Action}
use Rattle.cif.specs.declared.content.Action.TheVariants.{New as AsksNew, Revise as AsksRevise, Delete as AsksDelete}
use Rattle.cif.specs.declared.content.Running.{Running as Days}
use Rattle.cif.specs.declared.content.Location.{Location}
use Rattle.cif.specs.declared.content.Content.{Content}
use Rattle.cif.specs.declared.content.Content.TheVariants.{Schedule, Operator, Origin, Intermediate, Terminus, Unread}
use Rattle.cif.specs.declared.identity.Identity.TheVariants.{ChangeEnRoute}
use Rattle.cif.specs.Reading.{read_in}
use Rattle.schedule.specs.declared.record.Record.{Record}
use Rattle.schedule.specs.declared.transaction.Change.{Change}
use Rattle.schedule.specs.declared.transaction.Change.TheVariants.{New, Revise, Delete}
use Rattle.schedule.specs.Records.{is_cancellation, two_blanks, seven_blanks, filler}
use Rattle.schedule.specs.Building.{is_kept}
use Rattle.extract.specs.declared.stage.Stage.TheVariants.{Between}
use Rattle.extract.specs.Progress.{Progress, key_in, is_deletion, after_row}
use Rattle.extract.specs.Judging.{Standing}
use Rattle.controller.specs.Calls.{Row, refusal_of}

-- a row on the way of a train: an LI with its location, or a CR
pub data WayRow : Type 0 where
  LI : Location → WayRow
  CR : WayRow

-- the rows of a schedule, by what they hold: a BS, a BX with its operator or none, an LO, any LI and CR, an LT
pub record ScheduleRows : Type 0 where
  pub basic : BasicSchedule
  pub operator : Option (List ℕ)
  pub origin : Location
  pub way : List WayRow
  pub terminus : Location

-- what a row on the way is read as
abbrev pub way_content : WayRow → Content
way_content (LI l) = Intermediate l
way_content CR = Unread ChangeEnRoute

-- what a BX, if there is one, is read as
abbrev pub operator_contents : Option (List ℕ) → List Content
operator_contents (Some o) = Operator o ∷ []
operator_contents None = []

-- what the rows of a schedule are read as, in row order
abbrev pub schedule_contents : ScheduleRows → List Content
schedule_contents r =
    Schedule r.basic ∷ operator_contents r.operator ++ Origin r.origin ∷ map way_content r.way ++ Terminus r.terminus ∷ []

-- the locations of rows on the way, those of LI
abbrev pub way_locations : List WayRow → List Location
way_locations [] = []
way_locations (LI l ∷ rows) = l ∷ way_locations rows
way_locations (CR ∷ rows) = way_locations rows

-- the locations of a schedule's rows, in row order: those of LO, LI and LT
abbrev pub locations_of : ScheduleRows → List Location
locations_of r = r.origin ∷ way_locations r.way ++ r.terminus ∷ []

-- a schedule with the key, end, days run and train identity of its BS, and with an operator, a destination and kept calls;
-- its places past these are filled
abbrev pub schedule_with : BasicSchedule → Days → List ℕ → List ℕ → List Location → Record
schedule_with b d operator destination calls =
    record {
      key = key_in b;
      to = d.to;
      days = d.days;
      train = d.train;
      operator = operator;
      destination = destination;
      calls = calls ++ replicate (48 - length calls) filler;
      count = length calls;
    }

-- the transaction that a BS asks for: N or R as it says, with such a schedule, or D with its key
abbrev pub asked_with : BasicSchedule → Action → List ℕ → List ℕ → List Location → Change
asked_with b (AsksNew d) operator destination calls = New (schedule_with b d operator destination calls)
asked_with b (AsksRevise d) operator destination calls = Revise (schedule_with b d operator destination calls)
asked_with b AsksDelete operator destination calls = Delete (key_in b)

-- the transaction of a schedule's rows: with the operator of BX or blanks, the TIPLOC of LT, and as calls, in row order, just those of
-- its locations that have a public arrival or departure
abbrev pub transaction_of_rows : ScheduleRows → Change
transaction_of_rows r =
    asked_with r.basic r.basic.action (unwrap_or r.operator two_blanks) r.terminus.tiploc
    (filter is_kept (locations_of r))

-- the transaction of a BS that has no further rows: with blanks and without calls
abbrev pub transaction_of_brief : BasicSchedule → Change
transaction_of_brief b = asked_with b b.action two_blanks seven_blanks []

-- raw rows are read, one by one, as these contents
abbrev pub AreRead : List (List ℕ) → List Content → Type 0
AreRead [] [] = ⊤
AreRead (row ∷ rows) (c ∷ cs) = (read_in row ≡ Ok c) × AreRead rows cs
AreRead _ _ = ⊥

-- the call row takes a raw row: no line of the table of refusals holds of it; it is given no board, so any number may stand for the
-- line slots
abbrev pub IsTaken : Standing → List ℕ → Type 0
IsTaken s row = refusal_of (Row row) s 0 ≡ None

-- what the next row is judged by: the extract with the row, the same store and the same reference in force
abbrev pub standing_after : Standing → List ℕ → Standing
standing_after s row = record s { extract = after_row s.extract row }

-- it takes raw rows one after another
abbrev pub AreTaken : Standing → List (List ℕ) → Type 0
AreTaken s [] = ⊤
AreTaken s (row ∷ rows) = IsTaken s row × AreTaken (standing_after s row) rows

-- from one extract to another transactions joined the pending ones, and the stage is between
pub record Join (joining : List Change) (before after : Progress) : Type 0 where
  pub changes : after.changes ≡ before.changes ++ joining
  pub stage : after.stage ≡ Between

-- a BS begins a schedule where it neither deletes nor cancels
abbrev pub begins_schedule : BasicSchedule → Bool
begins_schedule b = not (is_deletion b.action) && not (is_cancellation b.stp)

-- a transaction joins the pending ones at a BS that begins no schedule and at an LT
abbrev pub joins_at : Content → Bool
joins_at (Schedule b) = not (begins_schedule b)
joins_at (Terminus l) = true
joins_at _ = false

-- the rows of a schedule, from a BS that begins it to its LT, add one transaction: the one that they come to
abbrev pub ScheduleRowsMakeOne : Type 0
ScheduleRowsMakeOne =
    (s : Standing) (rows : List (List ℕ)) (r : ScheduleRows)
    → begins_schedule r.basic ≡ true → AreRead rows (schedule_contents r) → AreTaken s rows
    → Join (transaction_of_rows r ∷ []) s.extract (fold after_row s.extract rows)

-- a BS that begins no schedule adds its own transaction at once
abbrev pub BriefRowJoinsAtOnce : Type 0
BriefRowJoinsAtOnce =
    (s : Standing) (row : List ℕ) (b : BasicSchedule)
    → begins_schedule b ≡ false → read_in row ≡ Ok (Schedule b) → IsTaken s row
    → Join (transaction_of_brief b ∷ []) s.extract (after_row s.extract row)

-- any other row adds none, at whatever stage: TI, TA, TD, AA, CR, ZZ, BX, LO, LI, and a BS that begins a schedule
abbrev pub OtherRowsAddNone : Type 0
OtherRowsAddNone =
    (s : Standing) (row : List ℕ) (c : Content)
    → joins_at c ≡ false → read_in row ≡ Ok c → IsTaken s row
    → (after_row s.extract row).changes ≡ s.extract.changes
