use Rattle.std.proofs.Common.{sym, ◌∙◌}
use Rattle.page.proofs.Ones.{one_page, shown_are, one_heading}
use Rattle.page.proofs.laws.page_is_one.Goals as goal

pub returns : goal.returns
returns c = record {
  page = one_page;
  shown = λ minute lines xs ys a b. sym (shown_are minute lines xs a) ∙ shown_are minute lines ys b;
  heading = one_heading;
}
