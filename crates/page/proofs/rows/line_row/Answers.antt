use Rattle.std.proofs.Common.{ap, ◌∙◌, arith, replicate}
use Rattle.page.proofs.RowBytes.{with_text, line_row_is}
use Rattle.page.proofs.rows.line_row.Goals as goal

pub returns : goal.returns
returns c =
    let l = c.args.line.now in
    line_row_is l.key.minute l.destination l.platform l.operator l.train (omega arith) (omega arith) (omega arith) (omega arith)
    c.put.new.row c.put-2.new.row c.put-3.new.row c.put-4.new.row c.put-5.new.row c.put-6.new.row
    (c.put.ensures ∙ ap (with_text (replicate 24 32) 0) c.two_digits.ensures)
    (c.put-2.ensures ∙ ap (with_text c.put.new.row 2) c.two_digits-2.ensures)
    c.put-3.ensures
    c.put-4.ensures
    c.put-5.ensures
    c.put-6.ensures
