use Rattle.running.proofs.Forces.{own_days}
use Rattle.running.proofs.laws.only_on_its_days.Goals as goal

pub returns : goal.returns
returns c = own_days
