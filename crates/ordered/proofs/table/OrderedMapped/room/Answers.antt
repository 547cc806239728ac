use Rattle.ordered.proofs.Whole.{same_ordered}
use Rattle.ordered.proofs.table.OrderedMapped.room.Goals as goal

pub returns-clause-same : goal.returns-clause-same
returns-clause-same g c = same_ordered _ _ c.room.ensures.same
