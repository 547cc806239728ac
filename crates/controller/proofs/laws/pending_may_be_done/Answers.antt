use Rattle.controller.proofs.Lawful.{permitted}
use Rattle.controller.proofs.laws.pending_may_be_done.Goals as goal

pub returns : goal.returns
returns c = permitted
