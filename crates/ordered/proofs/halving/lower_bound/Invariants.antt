use Rattle.std.proofs.Common.{◌-◌, ◌≤◌, length}
use Rattle.maps.specs.Places.{Ascends, AllBelow, NoneBelow}
use Rattle.ordered.proofs.halving.lower_bound.Given as goal

abbrev pub invariant-loop-low : goal.invariant-loop-low
invariant-loop-low g l =
    (l.low ≤ l.high) × (l.high ≤ l.len) × (l.high ≤ length l.slots)
    × (l.len ≤ length l.slots → Ascends g.E.Key.KeyOrder.before g.E.Keyed.keyed l.slots l.len
    → AllBelow g.E.Key.KeyOrder.before g.E.Keyed.keyed l.slots l.key l.low
    × NoneBelow g.E.Key.KeyOrder.before g.E.Keyed.keyed l.slots l.key l.high l.len)

abbrev pub decreases-loop-low : goal.decreases-loop-low
decreases-loop-low g l = l.high - l.low
