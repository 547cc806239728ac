use Rattle.std.proofs.Common.{ltb, ◌∙◌, rules}
use Rattle.std.proofs.lemmas.List.Sorted.{IsPartitionPoint-from_clause, IsPartitionedBy-ltb}
use Rattle.page.proofs.Shown.{From, minutes_rise, first_ten_is, cut}
use Rattle.page.proofs.page.first_ten.Goals as goal
use Rattle.page.proofs.page.first_ten.Goals.{After-min}

from : (c : After-min) → From c.args.minute c.args.lines.now c.partition_point-first.result
from c =
    IsPartitionPoint-from_clause (λ l. ltb l.key.minute c.args.minute) _ _ c.partition_point-first.ensures.partitioned
    (IsPartitionedBy-ltb (λ l. l.key.minute) c.args.lines.now c.args.minute (minutes_rise c.args.lines.now c.requires))
    (λ a r q k. search rules)

pub returns : goal.returns
returns c =
    cut c.args.lines.now c.partition_point-first.result c.min.result c.min.ensures
    ∙ first_ten_is c.args.minute c.args.lines.now c.partition_point-first.result c.partition_point-first.ensures.bound (from c)
