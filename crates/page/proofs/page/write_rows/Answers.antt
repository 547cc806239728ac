use Rattle.std.proofs.Common.{◌++◌, ap, ◌∙◌, drop, replicate, arith}
use Rattle.page.specs.Rows.{row_of, heading_fields}
use Rattle.page.proofs.PageRows.{none_written, one_written, all_written}
use Rattle.page.proofs.page.write_rows.Goals as goal

pub loop-place-init : goal.loop-place-init
loop-place-init c =
    c.write_row.ensures
    ∙ ap (λ r. r ++ drop 24 c.fill.new.self) c.heading_row.ensures
    ∙ ap (λ l. row_of (heading_fields c.args.heading.now) ++ drop 24 l) (c.fill.ensures.after (λ y e. e) ∙ ap (λ n. replicate n 32) c.requires.bytes)
    ∙ none_written c.args.heading.now c.args.lines.now

pub loop-place-preserved : goal.loop-place-preserved
loop-place-preserved c =
    c.write_row-in-loop-place.ensures
    ∙ one_written c.args.heading.now c.args.lines.now c.loop-place.place _ c.loop-place.page c.line_row.result c.requires.lines (omega arith) c.line_row.ensures c.loop-place.invariant

pub returns : goal.returns
returns c = c.loop-place.invariant ∙ all_written c.args.heading.now c.args.lines.now c.loop-place.place c.loop-place-test.false
