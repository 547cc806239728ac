use Rattle.std.proofs.lemmas.Slice.{drop-append-drop}
use Rattle.std.proofs.lemmas.Bool.Decides.{nat_tests}
use Rattle.std.proofs.Common.{length, min, take, length-take-le, arith, ◌≤◌, ◌∙◌}
use Rattle.controller.specs.Keeping.{state}
use Rattle.runs.proofs.Installations.{page_leaves}
use Rattle.runs.proofs.installation.write_within.Goals as goal

pub returns-clause-leaves : goal.returns-clause-leaves
returns-clause-leaves c s tally ℓ k =
    let within : c.min-handed.result ≤ length c.args.memory.now = let m = c.min-handed.ensures in omega arith in
    page_leaves (state s tally c.args.board.now) ℓ c.args.name.now c.args.minute (length (take c.min-handed.result c.args.memory.now)) (min c.args.asked (length c.args.memory.now)) c.min-handed.result c.args.memory.now c.page.new.page c.page.result k within
    (c.page.auto.page ∙ length-take-le c.min-handed.result c.args.memory.now within)
    (c.page.ensures.writes s tally) c.page.ensures.unchanged

pub returns-clause-behind : goal.returns-clause-behind
returns-clause-behind c =
    let m = c.min-handed.ensures in
    let within : c.min-handed.result ≤ length c.args.memory.now = omega arith in
    let most : c.min-handed.result ≤ min c.args.asked (length c.args.memory.now) = grind (arith, nat_tests, m) in
    drop-append-drop c.min-handed.result c.args.memory.now c.page.new.page (min c.args.asked (length c.args.memory.now)) most (c.page.auto.page ∙ length-take-le c.min-handed.result c.args.memory.now within)
