-- How far an extract is read, by its rows.
use Rattle.std.specs.Prelude.{ℕ, ◌+◌, Bool, true, false, cond, List, [], ◌∷◌, ◌++◌, Ok, Err, fold}
use Rattle.std.specs.Option.{unwrap_or, option_map_or}
use Rattle.cif.specs.declared.content.BasicSchedule.{BasicSchedule}
use Rattle.cif.specs.declared.content.Action.{Action}
use Rattle.cif.specs.declared.content.Action.TheVariants.{New as AsksNew, Revise as AsksRevise, Delete as AsksDelete}
use Rattle.cif.specs.declared.content.Running.{Running as Days}
use Rattle.cif.specs.declared.content.Location.{Location}
use Rattle.cif.specs.declared.content.Content.{Content}
use Rattle.cif.specs.declared.content.Content.TheVariants.{Header, Schedule, Operator, Origin, Intermediate, Terminus, Unread}
use Rattle.cif.specs.declared.identity.Identity.{Identity}
use Rattle.cif.specs.declared.identity.Identity.TheVariants.{Header as IsHeader, BasicSchedule as IsSchedule, BasicExtra as IsExtra, Origin as IsOrigin, Intermediate as IsIntermediate, Terminus as IsTerminus}
use Rattle.cif.specs.Contents.{header_of, basic_schedule_of}
use Rattle.cif.specs.Reading.{read_in}
use Rattle.schedule.specs.declared.key.Key.{Key}
use Rattle.schedule.specs.declared.record.Record.{Record}
use Rattle.schedule.specs.declared.transaction.Change.{Change}
use Rattle.schedule.specs.declared.transaction.Change.TheVariants.{New, Revise, Delete}
use Rattle.schedule.specs.Records.{is_cancellation, blank_record, seven_blanks}
use Rattle.schedule.specs.Building.{begun_with, with_operator, with_call, with_destination, bringing}
use Rattle.extract.specs.declared.stage.Stage.{Stage}
use Rattle.extract.specs.declared.stage.Stage.TheVariants.{Idle}
use Rattle.extract.specs.Stages.{next_stage}

-- what the rows of an extract come to: its stage, how many rows were taken (HD included), the current file reference of its HD,
-- the transaction that is being read, and those that joined the pending ones
pub record Progress : Type 0 where
  pub stage : Stage
  pub taken : ℕ
  pub current : List ℕ
  pub draft : Change
  pub changes : List Change

-- no extract is open
abbrev pub idle : Progress
idle = record { stage = Idle; taken = 0; current = seven_blanks; draft = New blank_record; changes = [] }

-- the key of a BS row
abbrev pub key_in : BasicSchedule → Key
key_in b = record { uid = b.uid; from = b.from.0; stp = b.stp }

-- the schedule that a BS row begins
abbrev pub begun_by : BasicSchedule → Days → Record
begun_by b d = begun_with (key_in b) d.to d.days d.train

-- the transaction that a BS row asks for
abbrev pub change_by : BasicSchedule → Action → Change
change_by b (AsksNew d) = New (begun_by b d)
change_by b (AsksRevise d) = Revise (begun_by b d)
change_by b AsksDelete = Delete (key_in b)

-- whether a BS row asks for a deletion
abbrev pub is_deletion : Action → Bool
is_deletion AsksDelete = true
is_deletion _ = false

-- a BS with D or letter C has no further rows
abbrev pub is_brief : BasicSchedule → Bool
is_brief b = cond (is_deletion b.action) true (is_cancellation b.stp)

-- whether a row is such a BS
abbrev pub brief_in : Content → Bool
brief_in c = option_map_or is_brief (basic_schedule_of c) false

-- the identity of a row, by what it holds
abbrev pub identity_for : Content → Identity
identity_for (Header h) = IsHeader
identity_for (Schedule b) = IsSchedule
identity_for (Operator o) = IsExtra
identity_for (Origin l) = IsOrigin
identity_for (Intermediate l) = IsIntermediate
identity_for (Terminus l) = IsTerminus
identity_for (Unread i) = i

-- the file reference after a row: an HD brings it
abbrev pub current_after : Progress → Content → List ℕ
current_after p c = option_map_or (λ h. h.current) (header_of c) p.current

-- the transaction that is being read, after a row: a BS begins it, a BX names the operator, LO and LI may add a call
abbrev pub draft_after : Progress → Content → Change
draft_after p (Schedule b) = cond (is_brief b) p.draft (change_by b b.action)
draft_after p (Operator o) = bringing (λ r. with_operator r o) p.draft
draft_after p (Origin l) = bringing (λ r. with_call r l) p.draft
draft_after p (Intermediate l) = bringing (λ r. with_call r l) p.draft
draft_after p _ = p.draft

-- a transaction ended by its LT, which may add a call and names the destination
abbrev pub ended_by : Location → Change → Change
ended_by l draft = bringing (λ r. with_destination r l.tiploc) (bringing (λ r. with_call r l) draft)

-- the transaction that joins at a row, if any: at its BS with D or letter C, otherwise at its LT
abbrev pub joining_at : Progress → Content → List Change
joining_at p (Schedule b) = cond (is_brief b) (change_by b b.action ∷ []) []
joining_at p (Terminus l) = ended_by l p.draft ∷ []
joining_at p _ = []

-- after a row more
abbrev pub after : Progress → Content → Progress
after p c =
    record {
      stage = unwrap_or (next_stage p.stage (identity_for c) (brief_in c)) p.stage;
      taken = p.taken + 1;
      current = current_after p c;
      draft = draft_after p c;
      changes = p.changes ++ joining_at p c;
    }

-- after a row as raw bytes
abbrev pub after_row : Progress → List ℕ → Progress
after_row p row = elim (read_in row) [ Ok c ↦ after p c | Err e ↦ p ]

-- what rows, as raw bytes, come to
abbrev pub progress_of : List (List ℕ) → Progress
progress_of rows = fold after_row idle rows

-- the transactions of rows, read afresh from their bytes
abbrev pub transactions_of : List (List ℕ) → List Change
transactions_of rows = (progress_of rows).changes
