use Rattle.controller.proofs.Building.{others_add_none}
use Rattle.controller.proofs.laws.other_rows_add_none.Goals as goal

pub returns : goal.returns
returns c = others_add_none
