use Rattle.controller.proofs.Parting.{rows_parted}
use Rattle.controller.proofs.laws.rows_come_to_parts.Goals as goal

pub returns : goal.returns
returns c = rows_parted
