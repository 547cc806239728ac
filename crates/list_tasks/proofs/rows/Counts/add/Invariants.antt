use Rattle.std.proofs.Common.{◌≡◌, ℕ, ◌+◌, ◌<◌, ◌≤◌, slice_index}
use Rattle.list_tasks.specs.Counts.{counted}
use Rattle.list_tasks.proofs.rows.Counts.add.Given as goal

abbrev pub invariant-loop-k : goal.invariant-loop-k
invariant-loop-k l =
    ((j : ℕ) → j < l.k → slice_index l.count-items j ≡ counted (slice_index l.initial.count-items j + slice_index l.other.refused j))
    × ((j : ℕ) → l.k ≤ j → slice_index l.count-items j ≡ slice_index l.initial.count-items j)
