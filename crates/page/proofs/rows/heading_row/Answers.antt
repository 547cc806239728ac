use Rattle.page.proofs.RowBytes.{heading_row_is}
use Rattle.page.proofs.rows.heading_row.Goals as goal

pub returns : goal.returns
returns c = heading_row_is c.args.heading.now c.min.result c.put.new.row c.min.ensures c.put.ensures
