use Rattle.runs.proofs.Ledgers.{two_orders}
use Rattle.runs.proofs.laws.two_orders_one_map.Goals as goal

pub returns : goal.returns
returns c = two_orders
