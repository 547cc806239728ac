use Rattle.std.proofs.Common.{◌≡◌, take}
use Rattle.timetable.specs.Timetables.{IsWithinCapacity}
use Rattle.overlay.specs.Settling.{after_tries, edits_of}
use Rattle.overlay.proofs.settling.settle_all.Given as goal

-- the transactions so far were tried, none brought the store above its capacity, and it became what their puts and removals make of it
abbrev pub invariant-loop-change : goal.invariant-loop-change
invariant-loop-change g l =
    (g.S.Timetable.meaning l.store ≡ after_tries (g.S.Timetable.meaning l.initial.store) (take l.change-index l.changes.list.now))
    × (IsWithinCapacity (g.S.Timetable.meaning l.initial.store) → IsWithinCapacity (g.S.Timetable.meaning l.store))
    × g.S.Store.becomes l.initial.store (edits_of (take l.change-index l.changes.list.now)) l.store
