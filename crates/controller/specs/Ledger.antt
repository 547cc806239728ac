-- The ledger: what an onlooker writes down of the calls, and what is worked out from it afresh.
use Rattle.std.specs.Prelude.{◌≡◌, ℕ, min, Bool, true, false, cond, List, [], ◌∷◌, ◌++◌, length, Some, None, Ok, Err, Option, Result, fold, MatchOption, nat_lt, slice_get}
use Rattle.schedule.specs.declared.record.Record.{Record}
use Rattle.schedule.specs.declared.transaction.Change.{Change}
use Rattle.schedule.specs.Records.{seven_blanks}
use Rattle.timetable.specs.Timetables.{Meaning}
use Rattle.overlay.specs.Overlays.{done_all}
use Rattle.overlay.specs.Laws.{of_train}
use Rattle.extract.specs.Progress.{Progress, progress_of}
use Rattle.extract.specs.Judging.{Standing}
use Rattle.board.specs.declared.display.StationDay.{StationDay}
use Rattle.board.specs.declared.line.Line.{Line}
use Rattle.board.specs.Lines.{LinesFor}
use Rattle.page.specs.Pages.{page_for}
use Rattle.controller.specs.declared.fault.ExtractFault.{ExtractFault}
use Rattle.controller.specs.declared.answer.Answer.{Answer}
use Rattle.controller.specs.declared.answer.Answer.TheVariants.{Done, Refused, Told, Tally as Total}
use Rattle.controller.specs.Calls.{Call, Open, Row, Confirm, Abandon, Turn, Page, Tell, Tally, refusal_of}

-- what the store had in it at the start, the rows of the open extract as raw bytes, the confirmed transactions in order,
-- the reference in force, and the station and day last turned to, if any
pub record Ledger : Type 0 where
  pub start : List Record
  pub rows : List (List ℕ)
  pub confirmed : List Change
  pub reference : List ℕ
  pub shown : Option StationDay

-- a new ledger
abbrev pub new_ledger : List Record → Ledger
new_ledger start = record { start = start; rows = []; confirmed = []; reference = seven_blanks; shown = None }

-- a row more
abbrev pub with_row : Ledger → List ℕ → Ledger
with_row ℓ row = record ℓ { rows = ℓ.rows ++ row ∷ [] }

-- the rows dropped
abbrev pub without_rows : Ledger → Ledger
without_rows ℓ = record ℓ { rows = [] }

-- the transactions of the rows put after the confirmed ones, their current reference in force, and the rows dropped, by what the rows
-- come to
abbrev pub with_progress : Ledger → Progress → Ledger
with_progress ℓ p = record ℓ { rows = []; confirmed = ℓ.confirmed ++ p.changes; reference = p.current }

abbrev pub with_confirmed : Ledger → Ledger
with_confirmed ℓ = with_progress ℓ (progress_of ℓ.rows)

-- station and day set
abbrev pub with_shown : Ledger → List ℕ → ℕ → Ledger
with_shown ℓ station day = record ℓ { shown = Some (record { station = station; day = day }) }

-- what an accepted call changes
abbrev pub ledger_with : Ledger → Call → Ledger
ledger_with ℓ (Open row) = with_row ℓ row
ledger_with ℓ (Row row) = with_row ℓ row
ledger_with ℓ Confirm = with_confirmed ℓ
ledger_with ℓ Abandon = without_rows ℓ
ledger_with ℓ (Turn station day) = with_shown ℓ station day
ledger_with ℓ _ = ℓ

-- after a call, by whether it was accepted: a refused call changes nothing
abbrev pub ledger_after : Ledger → Call → Bool → Ledger
ledger_after ℓ call accepted = cond accepted (ledger_with ℓ call) ℓ

-- WORKED OUT AFRESH: the confirmed map, from the start and the confirmed transactions alone
abbrev pub confirmed_map : Ledger → List Record
confirmed_map ℓ = done_all ℓ.start ℓ.confirmed

-- the tally: the number of confirmed transactions, up to 4,294,967,295
abbrev pub tally_of : Ledger → ℕ
tally_of ℓ = min (length ℓ.confirmed) 4294967295

-- what a store of a capacity means that has the confirmed map
abbrev pub store_for : Ledger → ℕ → Meaning
store_for ℓ capacity = record { map = confirmed_map ℓ; capacity = capacity }

-- what a call is judged by: the open extract as its rows give it, the confirmed map and the reference
abbrev pub standing_of : Ledger → ℕ → Standing
standing_of ℓ capacity = record { extract = progress_of ℓ.rows; store = store_for ℓ capacity; reference = ℓ.reference }

-- the lines: those of a board for the confirmed map at the station and day, none without a station
abbrev pub LinesOf : Ledger → List Line → Type 0
LinesOf ℓ lines = LinesFor (confirmed_map ℓ) ℓ.shown lines

-- tell answers the line at a place of the lines, or none past them
pub record Tells (ℓ : Ledger) (place : ℕ) (answer : Answer) : Type 0 where
  pub lines : List Line
  pub are : LinesOf ℓ lines
  pub line : answer ≡ Told (slice_get lines place)

-- the page: that of the lines, at the station
pub record PageOf (ℓ : Ledger) (name : List ℕ) (minute : ℕ) (page : List ℕ) : Type 0 where
  pub lines : List Line
  pub are : LinesOf ℓ lines
  pub shows : page ≡ page_for ℓ.shown lines name minute

-- the answer to a call that is not refused
abbrev pub Accepts : Ledger → Call → Answer → Type 0
Accepts ℓ (Tell place) a = Tells ℓ place a
Accepts ℓ Tally a = a ≡ Total (tally_of ℓ)
Accepts ℓ _ a = a ≡ Done

-- the answer to a call, for a store's capacity and a board's line slots: refused as the table has it, or accepted
abbrev pub AnswerOf : Ledger → ℕ → ℕ → Call → Answer → Type 0
AnswerOf ℓ capacity slots call a =
    MatchOption (refusal_of call (standing_of ℓ capacity) slots) (Accepts ℓ call a) (λ f. a ≡ Refused f)

-- whether an answer says that the call was accepted
abbrev pub is_accepted : Answer → Bool
is_accepted (Refused f) = false
is_accepted _ = true

-- the answer to a call that answers only that it was done
abbrev pub answer_of : Result (Unit {0}) ExtractFault → Answer
answer_of (Ok u) = Done
answer_of (Err f) = Refused f

-- what an accepted call writes into the memory that it is handed, from its first byte on: page writes the page, any other call nothing
abbrev pub Writes : Ledger → Call → List ℕ → Type 0
Writes ℓ (Page name minute bytes) written = PageOf ℓ name minute written
Writes ℓ _ written = written ≡ []

-- whether some of the transactions are of a train
abbrev pub has_train : List Change → ℕ → Bool
has_train cs uid = nat_lt 0 (length (of_train uid cs))

-- a call as it is written down: with whether it was accepted
abbrev pub Entry : Type 0
Entry = (Call × Bool)

-- the ledger after entries, in order
abbrev pub ledger_after_all : Ledger → List Entry → Ledger
ledger_after_all ℓ entries = fold (λ (l : Ledger) (e : Entry). ledger_after l e.0 e.1) ℓ entries
