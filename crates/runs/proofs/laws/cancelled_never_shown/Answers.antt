use Rattle.runs.proofs.Ledgers.{never_shown}
use Rattle.runs.proofs.laws.cancelled_never_shown.Goals as goal

pub returns : goal.returns
returns c = never_shown
