use Rattle.runs.proofs.Ledgers.{could_be_done}
use Rattle.runs.proofs.laws.confirmed_could_be_done.Goals as goal

pub returns : goal.returns
returns c = could_be_done
