use Rattle.runs.proofs.Ledgers.{same_lines}
use Rattle.runs.proofs.laws.same_trains_same_lines.Goals as goal

pub returns : goal.returns
returns c = same_lines
