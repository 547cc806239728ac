use Rattle.std.proofs.Common.{rules, ◌∙◌}
use borrow.Author.Tests.{tests}
use Rattle.std.proofs.lemmas.Iterator.Search.{find_from_yields_List}
use Rattle.std.proofs.lemmas.Iterator.Adapters.{YieldsList-from_rev_slice}
use Rattle.overlay.specs.Overlays.{is_on}
use Rattle.overlay.proofs.Lasts.{last_is}
use Rattle.overlay.proofs.last.last_on.Goals as goal

pub returns : goal.returns
returns c =
    c.copied.ensures
    ∙ find_from_yields_List (is_on c.args.key) _ _ c.find.result c.find.ensures.ran (YieldsList-from_rev_slice c.args.changes.now (search rules)) (λ x b q k. search (rules, tests))
    ∙ last_is c.args.key c.args.changes.now
