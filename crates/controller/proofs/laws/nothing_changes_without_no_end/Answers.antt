use Rattle.controller.proofs.Dated.{nothing_changes}
use Rattle.controller.proofs.laws.nothing_changes_without_no_end.Goals as goal

pub returns : goal.returns
returns c = nothing_changes
