use Rattle.controller.proofs.Building.{brief_made}
use Rattle.controller.proofs.laws.brief_row_joins_at_once.Goals as goal

pub returns : goal.returns
returns c = brief_made
