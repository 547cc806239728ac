use Rattle.std.proofs.Common.{◌≡◌}
use Rattle.timetable.proofs.Nexts.{left}
use Rattle.overlay.proofs.Leasts.{Walked}
use Rattle.overlay.proofs.least.first_untouched.Given as goal

abbrev pub invariant-loop-key : goal.invariant-loop-key
invariant-loop-key g l = Walked (g.T.Timetable.meaning l.initial.timetable).map l.changes l.initial.from l.from × (l.timetable ≡ l.initial.timetable)

abbrev pub decreases-loop-key : goal.decreases-loop-key
decreases-loop-key g l = left (g.T.Timetable.meaning l.timetable).map l.from
