use Rattle.controller.proofs.Lawful.{told_uppermost}
use Rattle.controller.proofs.laws.uppermost_is_told.Goals as goal

pub returns : goal.returns
returns c = told_uppermost
