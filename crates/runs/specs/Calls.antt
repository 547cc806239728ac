-- Calls as values, how an installation stands, and the ledger of the calls that were made.
use Rattle.std.specs.Prelude.{◌≡◌, ℕ, min, Bool, true, false, List, [], ◌∷◌, ◌++◌, length, map, take, drop}
use Rattle.schedule.specs.declared.transaction.Change.{Change}
use Rattle.timetable.specs.Timetables.{Meaning, StoreEdit}
use Rattle.overlay.specs.Settling.{edits_of}
use Rattle.controller.specs.declared.answer.Answer.{Answer}
use Rattle.controller.specs.Calls.{Call, Open, Row, Confirm, Abandon, Turn, Page, Tell, Tally}
use Rattle.controller.specs.Ledger.{Ledger, new_ledger, Entry, ledger_after_all, is_accepted, Writes}
use Rattle.controller.specs.Keeping.{State, state_in, KeepsTo, Obeys, is_confirm}
use Rattle.controller.specs.Shown.{store_of, progress_in}
use Rattle.board.specs.Boards.{SlotsKept}
use Rattle.std.specs.Bool.{OnFalse}
use Rattle.controller.specs.LedgerRows.{RowsAreTaken}
use Rattle.runs.specs.declared.call.Call.{Call as Asked}
use Rattle.runs.specs.declared.call.Call.TheVariants.{Open as AsksOpen, Row as AsksRow, Confirm as AsksConfirm, Abandon as AsksAbandon, Turn as AsksTurn, Page as AsksPage, Tell as AsksTell, Tally as AsksTally}
use Rattle.runs.specs.declared.installation.Installation.{Installation}
use Rattle.runs.specs.declared.memory.Memory.{Memory}

-- a call as a value, by what it is given
abbrev pub call_meant : Asked → Call
call_meant (AsksOpen row) = Open row.now
call_meant (AsksRow row) = Row row.now
call_meant AsksConfirm = Confirm
call_meant AsksAbandon = Abandon
call_meant (AsksTurn station day) = Turn station.now day
call_meant (AsksPage name minute bytes) = Page name.now minute bytes
call_meant (AsksTell place) = Tell place
call_meant AsksTally = Tally

-- how much there is of each kind of memory: bytes
pub record Room : Type 0 where
  pub bytes : ℕ

-- the room that bytes make
abbrev pub room_in_bytes : List ℕ → Room
room_in_bytes bytes = record { bytes = length bytes }

-- the room of a memory
abbrev pub room_of : Memory → Room
room_of m = room_in_bytes m.bytes.now

-- a call within some room: it is handed as many bytes as it says, or all there are where there are fewer
abbrev pub call_within : Room → Call → Call
call_within room (Page name minute bytes) = Page name minute (min bytes room.bytes)
call_within room call = call

-- calls as values, within some room
abbrev pub calls_within : Room → List Asked → List Call
calls_within room calls = map (λ q. call_within room (call_meant q)) calls

-- what is written by a call, as it is accepted or refused: a refused one writes nothing
abbrev pub WritesWhere : {X : Type 0} → Bool → (List X → Type 0) → List X → Type 0
WritesWhere true writes written = writes written
WritesWhere false writes written = written ≡ []

-- items, when others are written over them from the first one on
abbrev pub written_over : {X : Type 0} → List X → List X → List X
written_over bytes written = written ++ drop (length written) bytes

-- what a call leaves in memory: what it writes stands over what stood there, and no item is lost
pub record LeavesIn {X : Type 0} (writes : List X → Type 0) (accepted : Bool) (before after : List X) : Type 0 where
  pub written : List X
  pub wrote : WritesWhere accepted writes written
  pub over : after ≡ written_over before written
  pub room : length after ≡ length before

-- what a call leaves of a memory, which stays the same lender's
pub record Leaves (ℓ : Ledger) (call : Call) (accepted : Bool) (before after : Memory) : Type 0 where
  pub bytes : LeavesIn (Writes ℓ call) accepted before.bytes.now after.bytes.now
  pub lender : after.bytes.ghost_name ≡ before.bytes.ghost_name

-- how an installation stands
abbrev pub stands : {S : Type 0} → (S → Meaning) → Installation S → State
stands meaning i = state_in meaning i.controller i.board

-- what a call does to the store of an installation where such transactions are pending: an accepted confirm does them, and no other
-- call does anything to it
abbrev pub edits_by : Call → Bool → List Change → List StoreEdit
edits_by Confirm true pending = edits_of pending
edits_by _ _ pending = []

-- whether a call only asks: page, tell and tally
abbrev pub only_asks : Call → Bool
only_asks (Page name minute bytes) = true
only_asks (Tell place) = true
only_asks Tally = true
only_asks _ = false

-- what a call does to an installation: it obeys the ledger, a refused call and one that only asks change nothing, the store becomes what
-- the confirmed transactions make of it or stays the value that it was, and the slots past the board's last line keep what they had
pub record Does {S : Type 0} (meaning : S → Meaning) (becomes : S → List StoreEdit → S → Type 0) (before after : Installation S) (call : Call) (answer : Answer) : Type 0 where
  pub obeys : Obeys (stands meaning before) (stands meaning after) call answer
  pub unchanged : OnFalse (is_accepted answer) (after ≡ before)
  pub asks : only_asks call ≡ true → after ≡ before
  pub store :
      becomes (store_of before.controller) (edits_by call (is_accepted answer) (progress_in before.controller).changes) (store_of after.controller)
  pub store_stays : is_confirm call ≡ false → store_of after.controller ≡ store_of before.controller
  pub rest : SlotsKept before.board after.board

-- how many bytes of a memory a call is handed, from the first one on
abbrev pub handed_of : Call → ℕ
handed_of (Page name minute bytes) = bytes
handed_of _ = 0

-- what a call to an installation does to a memory: it has what the call writes by every ledger that was kept to before, a refused call
-- changes nothing, and behind the bytes that it is handed none changes
pub record DoesTo {S : Type 0} (meaning : S → Meaning) (before : Installation S) (lent left : Memory) (call : Call) (answer : Answer) : Type 0 where
  pub leaves : (ℓ : Ledger) → KeepsTo (stands meaning before) ℓ → Leaves ℓ call (is_accepted answer) lent left
  pub untouched : OnFalse (is_accepted answer) (left ≡ lent)
  pub behind : drop (handed_of call) left.bytes.now ≡ drop (handed_of call) lent.bytes.now

-- calls as they are written down: each with whether its answer says that it was accepted
abbrev pub entries : List Call → List Answer → List Entry
entries [] answers = []
entries (q ∷ qs) [] = []
entries (q ∷ qs) (a ∷ rest) = (q, is_accepted a) ∷ entries qs rest

-- an installation begins with nothing written down, over an empty store
abbrev pub first_ledger : Ledger
first_ledger = new_ledger []

-- the ledger that is begun with, after the first k of some calls
abbrev pub ledger_at : Ledger → List Call → List Answer → ℕ → Ledger
ledger_at first calls answers k = ledger_after_all first (take k (entries calls answers))

-- an installation keeps to a ledger, and the rows of the ledger were taken: first an HD by open, and then each other one by row
pub record Keeps (s : State) (ℓ : Ledger) : Type 0 where
  pub ledger : KeepsTo s ℓ
  pub rows : RowsAreTaken ℓ s.standing.store.capacity
