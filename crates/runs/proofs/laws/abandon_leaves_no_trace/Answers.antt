use Rattle.runs.proofs.Ledgers.{abandon_leaves}
use Rattle.runs.proofs.laws.abandon_leaves_no_trace.Goals as goal

pub returns : goal.returns
returns c = abandon_leaves
