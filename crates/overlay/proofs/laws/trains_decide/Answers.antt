use Rattle.overlay.proofs.Trains.{trains_decide}
use Rattle.overlay.proofs.laws.trains_decide.Goals as goal

pub returns : goal.returns
returns c = trains_decide
