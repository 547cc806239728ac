use Rattle.runs.proofs.Ledgers.{nothing_confirmed}
use Rattle.runs.proofs.laws.nothing_without_confirm.Goals as goal

pub returns : goal.returns
returns c = nothing_confirmed
