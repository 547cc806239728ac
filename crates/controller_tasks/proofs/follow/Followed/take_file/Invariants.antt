use Rattle.controller_tasks.specs.Following.{Follows}
use Rattle.controller_tasks.proofs.follow.Followed.take_file.Given as goal

abbrev pub invariant-loop-place : goal.invariant-loop-place
invariant-loop-place g l = Follows g.S.Timetable.meaning l.initial.self → Follows g.S.Timetable.meaning l.self
