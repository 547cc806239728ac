use Rattle.std.proofs.Common.{◌≡◌}
use Rattle.list_tasks.proofs.boards.load_file.Given as goal

abbrev pub invariant-loop-row : goal.invariant-loop-row
invariant-loop-row g l = (g.S.Timetable.meaning l.store).capacity ≡ (g.S.Timetable.meaning l.initial.store).capacity
