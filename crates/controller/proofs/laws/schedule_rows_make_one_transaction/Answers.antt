use Rattle.controller.proofs.Building.{schedule_made}
use Rattle.controller.proofs.laws.schedule_rows_make_one_transaction.Goals as goal

pub returns : goal.returns
returns c = schedule_made
