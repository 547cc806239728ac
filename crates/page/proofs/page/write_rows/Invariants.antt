use Rattle.std.proofs.Common.{◌≡◌}
use Rattle.page.proofs.PageRows.{page_so_far}
use Rattle.page.proofs.page.write_rows.Given as goal

abbrev pub invariant-loop-place : goal.invariant-loop-place
invariant-loop-place l = l.page ≡ page_so_far l.heading l.lines l.place
