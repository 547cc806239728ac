use Rattle.controller.proofs.Lawful.{fitting}
use Rattle.controller.proofs.laws.pending_fits.Goals as goal

pub returns : goal.returns
returns c = fitting
