use Rattle.loose.proofs.Whole.{same_loose}
use Rattle.loose.proofs.table.LooseMapped.room.Goals as goal

pub returns-clause-same : goal.returns-clause-same
returns-clause-same g c = same_loose _ _ c.room.ensures.same
