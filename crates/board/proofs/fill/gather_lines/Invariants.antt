use Rattle.std.proofs.Common.{◌≡◌, ◌+◌, ◌*◌, ◌≤◌, length}
use Rattle.ordered.specs.Tables.{items, room, RestKept}
use Rattle.board.specs.Filling.{StartsTrain, UpTo}
use Rattle.board.proofs.Boards.{left_from}
use Rattle.board.proofs.fill.gather_lines.Given as goal

abbrev pub invariant-loop-next : goal.invariant-loop-next
invariant-loop-next g l =
    UpTo (g.T.Timetable.meaning l.fn.timetable).map l.shown.station l.shown.day l.next (items l.lines)
    × (room l.lines ≡ room l.initial.lines)
    × (l.timetable ≡ l.fn.timetable)
    × (length (items l.lines) + 2 * left_from (g.T.Timetable.meaning l.fn.timetable).map l.next ≤ 2 * length (g.T.Timetable.meaning l.fn.timetable).map)
    × StartsTrain (g.T.Timetable.meaning l.fn.timetable).map l.next
    × RestKept l.initial.lines l.lines

abbrev pub decreases-loop-next : goal.decreases-loop-next
decreases-loop-next g l = left_from (g.T.Timetable.meaning l.timetable).map l.next
