use Rattle.list_tasks.specs.Keeping.{CapacitiesKept}
use Rattle.list_tasks.proofs.keeping.Both.take_file.Given as goal

abbrev pub invariant-loop-row : goal.invariant-loop-row
invariant-loop-row l = CapacitiesKept l.initial.self l.self
