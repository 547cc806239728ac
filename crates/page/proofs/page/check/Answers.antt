use Rattle.std.proofs.Common.{◌≡◌, rules, arith}
use Rattle.std.specs.List.{list_all}
use Rattle.std.proofs.lemmas.Bool.Decides.{nat_tests}
use Rattle.std.proofs.lemmas.Iterator.{YieldsList-from_slice}
use Rattle.std.proofs.lemmas.Iterator.Search.{all_from_yields_List}
use Rattle.cif.specs.Rows.{is_printable}
use Rattle.page.proofs.page.check.Goals as goal

pub returns : goal.returns
returns c =
    let all : c.all.result ≡ list_all is_printable c.args.name.now = all_from_yields_List is_printable _ _ c.all.result c.all.ensures.ran (YieldsList-from_slice c.args.name.now cc) (λ x b q k. search rules) in
    grind (arith, nat_tests, all, c.if-not-all.false)
