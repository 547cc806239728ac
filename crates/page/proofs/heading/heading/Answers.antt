use Rattle.std.proofs.Common.{ap, sym, ◌∙◌, length, subst, arith}
use Rattle.page.specs.Headings.{trimmed}
use Rattle.page.specs.Laws.{HeadingFrom}
use Rattle.page.proofs.Blanks.{heading_from, other_text, first_text}
use Rattle.page.proofs.heading.heading.Goals as goal

pub returns-in-empty-clause-trimmed : goal.returns-in-empty-clause-trimmed
returns-in-empty-clause-trimmed c =
    let name = c.args.name.now in
    let tiploc = c.args.tiploc.now in
    let short = ap length c.trimmed.ensures in
    subst (HeadingFrom name tiploc) (other_text (trimmed name) (trimmed tiploc) (omega arith) ∙ sym c.trimmed-in-empty.ensures) (heading_from name tiploc)

pub returns-in_default-clause-trimmed : goal.returns-in_default-clause-trimmed
returns-in_default-clause-trimmed c =
    let name = c.args.name.now in
    let tiploc = c.args.tiploc.now in
    let long = ap length c.trimmed.ensures in
    subst (HeadingFrom name tiploc) (first_text (trimmed name) (trimmed tiploc) (omega arith) ∙ sym c.trimmed.ensures) (heading_from name tiploc)
