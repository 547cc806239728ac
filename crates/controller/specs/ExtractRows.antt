-- What the rows of an extract come to, part by part.
use Rattle.std.specs.Prelude.{◌≡◌, ℕ, Bool, true, false, not, List, [], ◌∷◌, ◌++◌, fold, flat_map, None}
use Rattle.std.specs.List.{list_all}
use Rattle.cif.specs.declared.content.BasicSchedule.{BasicSchedule}
use Rattle.cif.specs.declared.content.Content.{Content}
use Rattle.cif.specs.declared.content.Content.TheVariants.{Schedule, Unread}
use Rattle.cif.specs.declared.identity.Identity.{Identity}
use Rattle.cif.specs.declared.identity.Identity.TheVariants.{TiplocInsert, TiplocAmend, TiplocDelete, Association, Trailer}
use Rattle.schedule.specs.declared.transaction.Change.{Change}
use Rattle.timetable.specs.Timetables.{Meaning}
use Rattle.extract.specs.Stages.{is_reading, is_trailer}
use Rattle.extract.specs.Progress.{idle, after_row, progress_of, transactions_of}
use Rattle.extract.specs.Judging.{Standing}
use Rattle.controller.specs.Calls.{Open, refusal_of}
use Rattle.controller.specs.ScheduleRows.{ScheduleRows, schedule_contents, transaction_of_rows, transaction_of_brief, begins_schedule, AreRead, AreTaken, standing_after}

-- a part of an extract after its HD: the rows of a schedule, a BS by itself, or another row by itself
pub data Part : Type 0 where
  Whole : ScheduleRows → Part
  Brief : BasicSchedule → Part
  Other : Identity → Part

-- the other rows: TI, TA, TD, AA and ZZ
abbrev pub is_other : Identity → Bool
is_other TiplocInsert = true
is_other TiplocAmend = true
is_other TiplocDelete = true
is_other Association = true
is_other Trailer = true
is_other _ = false

-- whether it is one: the BS of a schedule's rows begins a schedule, a BS by itself begins none, and another row is one of the five
abbrev pub is_part : Part → Bool
is_part (Whole r) = begins_schedule r.basic
is_part (Brief b) = not (begins_schedule b)
is_part (Other i) = is_other i

-- what the rows of a part are read as
abbrev pub part_contents : Part → List Content
part_contents (Whole r) = schedule_contents r
part_contents (Brief b) = Schedule b ∷ []
part_contents (Other i) = Unread i ∷ []

-- the transactions of a part: one, or none where it is another row
abbrev pub part_transactions : Part → List Change
part_transactions (Whole r) = transaction_of_rows r ∷ []
part_transactions (Brief b) = transaction_of_brief b ∷ []
part_transactions (Other i) = []

-- raw rows are parts, one after another, and with those of all parts the pending transactions grew from some to others
pub record ComeTo (rows : List (List ℕ)) (before after : List Change) : Type 0 where
  pub parts : List Part
  pub each : list_all is_part parts ≡ true
  pub read : AreRead rows (flat_map part_contents parts)
  pub changes : after ≡ before ++ flat_map part_transactions parts

-- whether a part is ZZ
abbrev pub is_trailer_part : Part → Bool
is_trailer_part (Other i) = is_trailer i
is_trailer_part _ = false

-- parts of which the last is ZZ, and no other is
pub record EndAtTrailer (parts : List Part) : Type 0 where
  pub others : List Part
  pub are : parts ≡ others ++ Other Trailer ∷ []
  pub none : list_all (λ part. not (is_trailer_part part)) others ≡ true

-- any rows that are taken one after another, with no schedule half read before and after them, come to the transactions of their parts
abbrev pub RowsComeToParts : Type 0
RowsComeToParts =
    (s : Standing) (rows : List (List ℕ)) → AreTaken s rows
    → is_reading s.extract.stage ≡ false → is_reading (fold after_row s.extract rows).stage ≡ false
    → ComeTo rows s.extract.changes (fold after_row s.extract rows).changes

-- what an HD is judged by where no extract is open
abbrev pub idle_over : Meaning → List ℕ → Standing
idle_over store reference = record { extract = idle; store = store; reference = reference }

-- so with a whole extract: where open takes its HD, and row its other rows, its transactions are those of its parts
abbrev pub ExtractComesToParts : Type 0
ExtractComesToParts =
    (store : Meaning) (reference : List ℕ) (hd : List ℕ) (rows : List (List ℕ))
    → refusal_of (Open hd) (idle_over store reference) 0 ≡ None
    → AreTaken (standing_after (idle_over store reference) hd) rows
    → is_reading (progress_of (hd ∷ rows)).stage ≡ false
    → ComeTo rows [] (transactions_of (hd ∷ rows))
