-- What the definitions come to, in other words.
use Rattle.std.specs.Prelude.{◌≡◌, ℕ, ◌<◌, Bool, true, false, cond, not, ◌&&◌, List, [], ◌∷◌, ◌++◌, length, take, Some, MatchOption}
use Rattle.cif.specs.declared.content.Location.{Location}
use Rattle.cif.specs.declared.identity.Identity.{Identity}
use Rattle.cif.specs.declared.identity.Identity.TheVariants.{BasicSchedule, Terminus}
use Rattle.cif.specs.declared.refusal.ColumnFault.{ColumnFault}
use Rattle.cif.specs.Refusals.{TableLine, uppermost}
use Rattle.schedule.specs.declared.record.Record.{Record}
use Rattle.schedule.specs.Records.{kept_calls, is_cancellation}
use Rattle.schedule.specs.Building.{is_kept, with_call}
use Rattle.timetable.specs.Timetables.{Meaning, IsWithinCapacity}
use Rattle.overlay.specs.Overlays.{with_done}
use Rattle.overlay.specs.Permitted.{EachMayBeDone}
use Rattle.extract.specs.declared.stage.Stage.{Stage}
use Rattle.extract.specs.Stages.{next_stage, is_reading}
use Rattle.extract.specs.Progress.{Progress, transactions_of}
use Rattle.controller.specs.Agreeing.{Agrees}

-- the overlay's map is the store's with the transactions of the rows, read afresh from their bytes, done in order
abbrev pub OverlayIsOfRows : Type 0
OverlayIsOfRows =
    (store : Meaning) (rows : List (List ℕ)) (p : Progress) → Agrees store rows p
    → with_done store p.changes ≡ with_done store (transactions_of rows)

-- each transaction of the rows, done in order to the store, is one that may be done
abbrev pub PendingMayBeDone : Type 0
PendingMayBeDone =
    (store : Meaning) (rows : List (List ℕ)) (p : Progress) → Agrees store rows p → EachMayBeDone store (transactions_of rows)

-- so the transactions of the rows fit the store: after none of them are there more keys than the capacity
abbrev pub PendingFits : Type 0
PendingFits =
    (store : Meaning) (rows : List (List ℕ)) (p : Progress) → Agrees store rows p
    → (k : ℕ) → IsWithinCapacity (with_done store (take k (transactions_of rows)))

-- no line of a table holds
abbrev pub none_holds : List TableLine → Bool
none_holds [] = true
none_holds (l ∷ ls) = not l.1 && none_holds ls

-- a fault stands in a line that holds, and no line above it does
pub record IsUppermost (ls : List TableLine) (f : ColumnFault) : Type 0 where
  pub above : List TableLine
  pub below : List TableLine
  pub stands : ls ≡ above ++ (f, true) ∷ below
  pub first : none_holds above ≡ true

-- what a table tells stands in its uppermost line that holds, and it tells nothing exactly when no line holds
abbrev pub UppermostIsTold : Type 0
UppermostIsTold = (ls : List TableLine) → MatchOption (uppermost ls) (none_holds ls ≡ true) (λ f. IsUppermost ls f)

-- rows that neither begin nor end a schedule: all but BS and LT
abbrev pub is_passing : Identity → Bool
is_passing BasicSchedule = false
is_passing Terminus = false
is_passing _ = true

-- a schedule is being read from its BS, unless that is brief, to its LT, and any other row that a stage takes leaves that as it is
pub record ReadFromBsToLt : Type 0 where
  pub begins : (st next : Stage) → next_stage st BasicSchedule false ≡ Some next → (is_reading st ≡ false) × (is_reading next ≡ true)
  pub brief : (st next : Stage) → next_stage st BasicSchedule true ≡ Some next → (is_reading st ≡ false) × (is_reading next ≡ false)
  pub ends : (st next : Stage) → next_stage st Terminus false ≡ Some next → (is_reading st ≡ true) × (is_reading next ≡ false)
  pub passes : (st next : Stage) (i : Identity) → is_passing i ≡ true → next_stage st i false ≡ Some next → is_reading next ≡ is_reading st

-- a location's call stands after those that the schedule has, where it is kept and there is room for it
abbrev pub CallsInRowOrder : Type 0
CallsInRowOrder =
    (r : Record) (l : Location) → length r.calls ≡ 48 → r.count < 48 → is_cancellation r.key.stp ≡ false
    → kept_calls (with_call r l) ≡ kept_calls r ++ cond (is_kept l) (l ∷ []) []
