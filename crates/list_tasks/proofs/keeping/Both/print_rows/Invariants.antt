use Rattle.std.proofs.Common.{◌≡◌}
use Rattle.list_tasks.proofs.keeping.Both.print_rows.Given as goal

abbrev pub invariant-loop : goal.invariant-loop
invariant-loop l = l.self ≡ l.initial.self
