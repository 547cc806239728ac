use Rattle.std.proofs.Common.{◌≡◌, ◌+◌, ◌≤◌, length, take}
use Rattle.overlay.specs.Overlays.{done_all}
use Rattle.overlay.proofs.questions.count_after.Given as goal

abbrev pub invariant-loop-i : goal.invariant-loop-i
invariant-loop-i g l =
    (l.count ≡ length (done_all (g.S.Timetable.meaning l.initial.store).map (take l.i l.changes.list.now)))
    × (l.store ≡ l.initial.store)
    × (l.count ≤ 65535 + l.i)
