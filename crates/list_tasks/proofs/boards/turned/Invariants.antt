use Rattle.std.proofs.Common.{◌≡◌}
use Rattle.list_tasks.proofs.boards.turned.Given as goal

abbrev pub invariant-loop : goal.invariant-loop
invariant-loop g l = l.store ≡ l.initial.store
