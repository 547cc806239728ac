use Rattle.std.proofs.Common.{◌≡◌, length}
use Rattle.page.specs.Headings.{without_first_blanks}
use Rattle.page.proofs.heading.without_first_blanks.Given as goal

abbrev pub invariant-loop-rest : goal.invariant-loop-rest
invariant-loop-rest l = without_first_blanks l.text ≡ without_first_blanks l.rest

abbrev pub decreases-loop-rest : goal.decreases-loop-rest
decreases-loop-rest l = length l.rest
