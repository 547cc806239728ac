-- What holds of every ledger, whatever the calls that it was written from.
use Rattle.std.specs.Prelude.{◌≡◌, ℕ, ◌+◌, min, Bool, true, false, not, ◌&&◌, ◌||◌, List, [], ◌∷◌, ◌++◌, length, Some}
use Rattle.std.specs.List.{list_all}
use Rattle.schedule.specs.declared.record.Record.{Record}
use Rattle.schedule.specs.Records.{is_cancellation}
use Rattle.schedule.specs.declared.transaction.Change.{Change}
use Rattle.schedule.specs.Transactions.{every_lawful}
use Rattle.timetable.specs.Timetables.{IsMap}
use Rattle.overlay.specs.Overlays.{done_all}
use Rattle.overlay.specs.Permitted.{MayBeDone}
use Rattle.overlay.specs.Laws.{of_train}
use Rattle.extract.specs.Progress.{transactions_of}
use Rattle.running.specs.Running.{InForce}
use Rattle.board.specs.declared.display.StationDay.{StationDay}
use Rattle.board.specs.declared.line.Line.{Line}
use Rattle.board.specs.Lines.{On}
use Rattle.controller.specs.Calls.{Call, Confirm, Abandon, Turn}
use Rattle.controller.specs.Ledger.{Ledger, Entry, ledger_after_all, with_confirmed, confirmed_map, tally_of, LinesOf}
use Rattle.controller.specs.Keeping.{State, KeepsTo, is_confirm}

-- a refused call leaves no trace in any later ledger
abbrev pub RefusedLeavesNoTrace : Type 0
RefusedLeavesNoTrace =
    (ℓ : Ledger) (before after : List Entry) (call : Call)
    → ledger_after_all ℓ (before ++ (call, false) ∷ after) ≡ ledger_after_all ℓ (before ++ after)

-- calls that, accepted, change nothing but the rows of the open extract: open, row, tell and tally
abbrev pub changes_rows_alone : Call → Bool
changes_rows_alone Confirm = false
changes_rows_alone Abandon = false
changes_rows_alone (Turn station day) = false
changes_rows_alone _ = true

-- an entry that changes nothing but the rows: a call that was refused, or an accepted open, row, tell or tally
abbrev pub reads_only : Entry → Bool
reads_only (call, accepted) = not accepted || changes_rows_alone call

-- an extract that is opened, read and abandoned leaves no trace
abbrev pub AbandonLeavesNoTrace : Type 0
AbandonLeavesNoTrace = (ℓ : Ledger) (entries : List Entry) → ℓ.rows ≡ [] → list_all reads_only entries ≡ true → ledger_after_all ℓ (entries ++ (Abandon, true) ∷ []) ≡ ℓ

-- the same ledger with other rows
abbrev pub with_rows : Ledger → List (List ℕ) → Ledger
with_rows ℓ rows = record ℓ { rows = rows }

-- what is shown before a confirmation does not depend on the open extract
abbrev pub ShownIgnoresExtract : Type 0
ShownIgnoresExtract = (ℓ : Ledger) (rows : List (List ℕ)) (xs ys : List Line) → LinesOf ℓ xs → LinesOf (with_rows ℓ rows) ys → xs ≡ ys

-- two orders of the same trains' changes give one map
abbrev pub TwoOrdersOneMap : Type 0
TwoOrdersOneMap =
    (ℓ k : Ledger) → ℓ.start ≡ k.start → IsMap ℓ.start → every_lawful ℓ.confirmed ≡ true → every_lawful k.confirmed ≡ true
    → ((uid : ℕ) → of_train uid ℓ.confirmed ≡ of_train uid k.confirmed) → confirmed_map ℓ ≡ confirmed_map k

-- and the same lines, where both are turned to one station and day
abbrev pub SameTrainsSameLines : Type 0
SameTrainsSameLines =
    (ℓ k : Ledger) → ℓ.start ≡ k.start → IsMap ℓ.start → every_lawful ℓ.confirmed ≡ true → every_lawful k.confirmed ≡ true
    → ((uid : ℕ) → of_train uid ℓ.confirmed ≡ of_train uid k.confirmed) → ℓ.shown ≡ k.shown
    → (xs ys : List Line) → LinesOf ℓ xs → LinesOf k ys → xs ≡ ys

-- a train that is cancelled on the day of the board is never shown on it
abbrev pub CancelledNeverShown : Type 0
CancelledNeverShown =
    (ℓ : Ledger) (lines : List Line) (s : StationDay) (uid : ℕ) (r : Record) → LinesOf ℓ lines → ℓ.shown ≡ Some s
    → InForce (confirmed_map ℓ) uid s.day r → is_cancellation r.key.stp ≡ true → (l : Line) → On lines l → l.key.uid ≡ uid → ⊥

-- the tally grows at a confirmation by the number of its transactions, up to its most
abbrev pub TallyCounts : Type 0
TallyCounts = (ℓ : Ledger) → tally_of (with_confirmed ℓ) ≡ min (tally_of ℓ + length (transactions_of ℓ.rows)) 4294967295

-- an entry that is no accepted confirm
abbrev pub confirms_nothing : Entry → Bool
confirms_nothing (call, accepted) = not (accepted && is_confirm call)

-- what only a confirmation changes is in one ledger as in another
pub record SameConfirmed (ℓ k : Ledger) : Type 0 where
  pub confirmed : k.confirmed ≡ ℓ.confirmed
  pub map : confirmed_map k ≡ confirmed_map ℓ
  pub tally : tally_of k ≡ tally_of ℓ
  pub reference : k.reference ≡ ℓ.reference

-- the map, the tally and the reference change by confirmations alone
abbrev pub NothingWithoutConfirm : Type 0
NothingWithoutConfirm = (ℓ : Ledger) (entries : List Entry) → list_all confirms_nothing entries ≡ true → SameConfirmed ℓ (ledger_after_all ℓ entries)

-- a transaction that was confirmed could be done when its turn came: its schedule is one, N found its key absent and room, R and D found
-- it there
abbrev pub ConfirmedCouldBeDone : Type 0
ConfirmedCouldBeDone =
    (s : State) (ℓ : Ledger) (before after : List Change) (c : Change) → KeepsTo s ℓ → ℓ.confirmed ≡ before ++ c ∷ after
    → MayBeDone (record s.standing.store { map = done_all ℓ.start before }) c
