use Rattle.std.proofs.Common.{◌≡◌}
use Rattle.ordered.specs.Tables.{items, room}
use Rattle.board.specs.Filling.{Added, Grown}
use Rattle.board.proofs.fill.add_calls.Given as goal

abbrev pub invariant-loop-place : goal.invariant-loop-place
invariant-loop-place l =
    Added l.station l.fields l.place (items l.initial.lines) (items l.lines)
    × (room l.lines ≡ room l.initial.lines)
    × Grown l.initial.lines l.lines
