-- Installations that are asked one call after another, each begun new.
use Rattle.std.specs.Prelude.{◌≡◌, ℕ, ◌+◌, ◌≤◌, Bool, true, false, List, [], drop, length, set, Some, Option, Result, MatchOption, MatchResult, slice_get}
use Rattle.std.specs.Bool.{OnFalse}
use Rattle.timetable.specs.Timetables.{Meaning, StoreEdit}
use Rattle.extract.specs.Progress.{transactions_of}
use Rattle.board.specs.Boards.{HasSlots, SlotsKept}
use Rattle.board.specs.Strikes.{lines_without}
use Rattle.controller.specs.declared.answer.Answer.{Answer}
use Rattle.controller.specs.Shown.{store_of}
use Rattle.controller.specs.Calls.{Call}
use Rattle.controller.specs.Ledger.{Ledger, ledger_after, AnswerOf, is_accepted, has_train}
use Rattle.controller.specs.Keeping.{State, KeepsTo, is_confirm}
use Rattle.controller.specs.LedgerRows.{AreWhole}
use Rattle.runs.specs.Calls.{call_meant, Room, room_of, call_within, calls_within, edits_by, only_asks, handed_of, stands, ledger_at, Leaves}
use Rattle.runs.specs.declared.installation.Installation.{Installation}
use Rattle.runs.specs.declared.memory.Memory.{Memory}
use Rattle.runs.specs.declared.call.Call.{Call as Asked}
use Rattle.runs.specs.declared.plan.Plan.{Plan}
use Rattle.runs.specs.declared.run.Run.{Run}

-- the memory of a run
abbrev pub memory_of : {S : Type 0} {M : _} → Run S M → Memory
memory_of run = run.memory

-- its bytes
abbrev pub bytes_in : {S : Type 0} {M : _} → Run S M → List ℕ
bytes_in run = (memory_of run).bytes.now

-- the room of its memory
abbrev pub room_in : {S : Type 0} {M : _} → Run S M → Room
room_in run = room_of (memory_of run)

-- the calls that it is asked
abbrev pub calls_of : {S : Type 0} {M : _} → Run S M → List Call
calls_of run = calls_within (room_in run) run.calls.now

-- the ledger of the calls that a run has made
abbrev pub ledger_of : {S : Type 0} {M : _} → Ledger → Run S M → Ledger
ledger_of first run = ledger_at first (calls_of run) run.answers.now run.made

-- its installation
abbrev pub installation_of : {S : Type 0} {M : _} → Run S M → Installation S
installation_of run = run.installation

-- its store
abbrev pub store_in : {S : Type 0} {M : _} → Run S M → S
store_in run = store_of (installation_of run).controller

-- the places for its answers
abbrev pub answers_of : {S : Type 0} {M : _} → Run S M → List Answer
answers_of run = run.answers.now

-- how its installation stands
abbrev pub state_of : {S : Type 0} {M : _} → (S → Meaning) → Run S M → State
state_of meaning run = stands meaning (installation_of run)

-- the capacity of its store
abbrev pub capacity_of : {S : Type 0} {M : _} → (S → Meaning) → Run S M → ℕ
capacity_of meaning run = (state_of meaning run).standing.store.capacity

-- the trains that the open extract names
abbrev pub named_in : Ledger → ℕ → Bool
named_in ℓ = has_train (transactions_of ℓ.rows)

-- A CALL THAT A RUN MAKES, by the ledger of the calls that it made before
pub record Makes {S : Type 0} {M : _} (meaning : S → Meaning) (becomes : S → List StoreEdit → S → Type 0) (first : Ledger) (before after : Run S M) (call : Call) (answer : Answer) : Type 0 where
  -- it is done or turned away as the table of refusals gives for that ledger, and answered from that ledger
  pub told : AnswerOf (ledger_of first before) (capacity_of meaning before) (state_of meaning before).slots call answer
  -- it is written down
  pub written : ledger_of first after ≡ ledger_after (ledger_of first before) call (is_accepted answer)
  -- the store's map, the tally and the board's lines in order, before it and after it, are those that the ledger then works out afresh
  pub keeps_before : KeepsTo (state_of meaning before) (ledger_of first before)
  pub keeps_after : KeepsTo (state_of meaning after) (ledger_of first after)
  -- a refused call leaves controller, board, every slot and the memory the values that they were
  pub unchanged : OnFalse (is_accepted answer) (after.installation ≡ before.installation)
  pub untouched : OnFalse (is_accepted answer) (memory_of after ≡ memory_of before)
  -- behind the bytes that a call is handed, none unless it writes, a memory keeps what it had
  pub behind : drop (handed_of call) (bytes_in after) ≡ drop (handed_of call) (bytes_in before)
  -- page, tell and tally leave controller, board and every slot the values that they were
  pub asks : only_asks call ≡ true → after.installation ≡ before.installation
  -- an accepted page stands at the beginning of the memory, the page of the lines that the ledger works out afresh; nothing else is written
  pub leaves : Leaves (ledger_of first before) call (is_accepted answer) (memory_of before) (memory_of after)
  -- around an accepted confirm the lines of the trains that the extract does not name are the same list
  pub unnamed :
      is_confirm call ≡ true → is_accepted answer ≡ true
      → lines_without (named_in (ledger_of first before)) (state_of meaning before).lines
      ≡ lines_without (named_in (ledger_of first before)) (state_of meaning after).lines
  -- the rows of a confirmed extract are an HD and whole parts up to ZZ, and its transactions are those of the parts
  pub parts : is_confirm call ≡ true → is_accepted answer ≡ true → AreWhole (ledger_of first before)
  -- the store becomes what the puts and removals of the confirmed transactions make of it; any other call leaves it the value that it was
  pub store :
      becomes (store_in before) (edits_by call (is_accepted answer) (transactions_of (ledger_of first before).rows)) (store_in after)
  pub store_stays : is_confirm call ≡ false → store_in after ≡ store_in before
  -- capacity and line slots stay, and the slots past the board's last line keep what they had
  pub capacity : capacity_of meaning after ≡ capacity_of meaning before
  pub slots : (state_of meaning after).slots ≡ (state_of meaning before).slots
  pub rest : SlotsKept before.installation.board after.installation.board

-- the calls of a run stay, one more is made, and its answer is in its place, among those that the run was lent
pub record GoesOn {S : Type 0} {M : _} (before after : Run S M) (answer : Answer) : Type 0 where
  pub calls : after.calls ≡ before.calls
  pub made : after.made ≡ before.made + 1
  pub answers : after.answers.now ≡ set before.answers.now before.made answer
  pub lender : after.answers.ghost_name ≡ before.answers.ghost_name

-- a run makes its next call
pub record MakesNext {S : Type 0} {M : _} (meaning : S → Meaning) (becomes : S → List StoreEdit → S → Type 0) (first : Ledger) (before after : Run S M) (answer : Answer) : Type 0 where
  pub call : Asked
  pub next : slice_get before.calls.now before.made ≡ Some call
  pub goes_on : GoesOn before after answer
  pub makes : Makes meaning becomes first before after (call_within (room_in before) (call_meant call)) answer

-- or has none left, and is the value that it was
pub record IsOver {S : Type 0} {M : _} (before after : Run S M) : Type 0 where
  pub none_left : length before.calls.now ≤ before.made
  pub same : after ≡ before

-- a run is asked for its next call
abbrev pub Next : {S : Type 0} {M : _} → (S → Meaning) → (S → List StoreEdit → S → Type 0) → Ledger → Run S M → Run S M → Option Answer → Type 0
Next meaning becomes first before after answer =
    MatchOption answer (IsOver before after) (λ a. MakesNext meaning becomes first before after a)

-- a plan can be run: its store is empty, and there is a place for the answer to each call
pub record Suits {S : Type 0} (meaning : S → Meaning) (p : Plan S) : Type 0 where
  pub empty : (meaning p.store).map ≡ []
  pub places : length p.answers.now ≡ length p.calls.now

-- a run begins: no call is made, and the store, the line slots, the places for answers and the memory are those of the plan, as they were
pub record Begins {S : Type 0} {M : _} (meaning : S → Meaning) (p : Plan S) (run : Run S M) : Type 0 where
  pub suits : Suits meaning p
  pub calls : run.calls ≡ p.calls
  pub answers : run.answers ≡ p.answers
  pub memory : memory_of run ≡ p.memory
  pub made : run.made ≡ 0
  pub store : store_in run ≡ p.store
  pub slots : HasSlots p.slots (installation_of run).board

-- a run begins, or its plan cannot be run and is handed back as it was
abbrev pub BegunFrom : {S : Type 0} {M : _} → (S → Meaning) → Plan S → Result (Run S M) (Plan S) → Type 0
BegunFrom meaning p r = MatchResult r (λ run. Begins meaning p run) (λ back. (back ≡ p) × (Suits meaning p → ⊥))
