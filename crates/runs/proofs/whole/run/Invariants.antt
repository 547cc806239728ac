use Rattle.runs.specs.Calls.{first_ledger}
use Rattle.runs.proofs.WholeRuns.{SoFar}
use Rattle.runs.proofs.whole.run.Given as goal

abbrev pub invariant-loop : goal.invariant-loop
invariant-loop g l = ∥ SoFar g.S.Timetable.meaning first_ledger l.fn.plan l.run l.index ∥₁
