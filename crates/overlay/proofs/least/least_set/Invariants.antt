use Rattle.std.proofs.Common.{Bool, take}
use Rattle.schedule.specs.declared.key.Key.{Key}
use Rattle.timetable.specs.Laws.{LeastOf}
use Rattle.overlay.proofs.Leasts.{among}
use Rattle.overlay.proofs.least.least_set.Given as goal

abbrev pub invariant-loop-change : goal.invariant-loop-change
invariant-loop-change l = (test : Key → Bool) → LeastOf test l.probe l.initial.best → LeastOf (among test (take l.change-index l.changes) l.changes) l.probe l.best
