-- A controller and its board keep to the ledger of the calls.
use Rattle.std.specs.Prelude.{◌≡◌, ℕ, Bool, true, false, List, Option}
use Rattle.timetable.specs.Timetables.{Meaning}
use Rattle.overlay.specs.Overlays.{with_done}
use Rattle.overlay.specs.Permitted.{EachMayBeDone}
use Rattle.extract.specs.Progress.{transactions_of}
use Rattle.extract.specs.Judging.{Standing}
use Rattle.board.specs.declared.display.Board.{Board}
use Rattle.board.specs.declared.display.StationDay.{StationDay}
use Rattle.board.specs.declared.line.Line.{Line}
use Rattle.board.specs.Boards.{shown_of, lines_of, slots_of}
use Rattle.board.specs.Strikes.{lines_without}
use Rattle.controller.specs.declared.answer.Answer.{Answer}
use Rattle.controller.specs.declared.controller.Controller.{Controller}
use Rattle.controller.specs.Shown.{standing_in, count_of}
use Rattle.controller.specs.Calls.{Call, Confirm}
use Rattle.controller.specs.Agreeing.{Agrees}
use Rattle.controller.specs.Ledger.{Ledger, ledger_after, confirmed_map, tally_of, LinesOf, AnswerOf, Writes, is_accepted, has_train}

-- how a controller and its board stand: what calls are judged by, the tally, and the board's station and day, lines and line slots
pub record State : Type 0 where
  pub standing : Standing
  pub tally : ℕ
  pub shown : Option StationDay
  pub lines : List Line
  pub slots : ℕ

-- with a board
abbrev pub state : Standing → ℕ → Board → State
state s tally b = record { standing = s; tally = tally; shown = shown_of b; lines = lines_of b; slots = slots_of b }

-- a controller with a board
abbrev pub state_in : {S : Type 0} → (S → Meaning) → Controller S → Board → State
state_in meaning c b = state (standing_in meaning c) (count_of c) b

-- controller and board keep to a ledger: each part is what the ledger gives when it is worked out afresh; capacity and line slots are
-- in no ledger
pub record KeepsTo (s : State) (ℓ : Ledger) : Type 0 where
  pub map : s.standing.store.map ≡ confirmed_map ℓ
  pub extract : Agrees s.standing.store ℓ.rows s.standing.extract
  pub reference : s.standing.reference ≡ ℓ.reference
  pub tally : s.tally ≡ tally_of ℓ
  pub shown : s.shown ≡ ℓ.shown
  pub lines : LinesOf ℓ s.lines
  -- each confirmed transaction, done in order to the start, is one that may be done
  pub confirmed : EachMayBeDone (record s.standing.store { map = ℓ.start }) ℓ.confirmed

-- all that is pending is done: where a ledger was kept to, the store means what it meant with each transaction of the ledger's rows
-- done in order, none passed over
abbrev pub DoesAllPending : State → Meaning → Type 0
DoesAllPending before store = (ℓ : Ledger) → KeepsTo before ℓ → store ≡ with_done before.standing.store (transactions_of ℓ.rows)

-- whether a call is a confirm
abbrev pub is_confirm : Call → Bool
is_confirm Confirm = true
is_confirm _ = false

-- what a call owes to a ledger that was kept to before it: its answer is the ledger's, the ledger that has it written down is kept to
-- after it, and around a confirmation the lines of trains that the extract does not name are the same list
pub record Obeyed (before after : State) (call : Call) (answer : Answer) (ℓ : Ledger) : Type 0 where
  pub told : AnswerOf ℓ before.standing.store.capacity before.slots call answer
  pub keeps : KeepsTo after (ledger_after ℓ call (is_accepted answer))
  pub unnamed :
      is_confirm call ≡ true → is_accepted answer ≡ true
      → lines_without (has_train (transactions_of ℓ.rows)) before.lines ≡ lines_without (has_train (transactions_of ℓ.rows)) after.lines

-- a call obeys every ledger that was kept to before it; capacity and line slots stay
pub record Obeys (before after : State) (call : Call) (answer : Answer) : Type 0 where
  pub ledger : (ℓ : Ledger) → KeepsTo before ℓ → Obeyed before after call answer ℓ
  pub capacity : after.standing.store.capacity ≡ before.standing.store.capacity
  pub slots : after.slots ≡ before.slots

-- what an accepted call writes goes by every ledger that was kept to before it
abbrev pub WritesByLedger : State → Call → List ℕ → Type 0
WritesByLedger before call written = (ℓ : Ledger) → KeepsTo before ℓ → Writes ℓ call written
