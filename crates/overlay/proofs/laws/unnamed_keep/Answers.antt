use Rattle.overlay.proofs.Trains.{unnamed_keep}
use Rattle.overlay.proofs.laws.unnamed_keep.Goals as goal

pub returns : goal.returns
returns c = unnamed_keep
