use Rattle.ordered.proofs.Whole.{same_ordered}
use Rattle.ordered.proofs.ordered.Ordered.nth.Goals as goal

pub returns-clause-same : goal.returns-clause-same
returns-clause-same g c = same_ordered _ _ c.get.ensures.same
