use Rattle.std.proofs.Common.{◌≡◌}
use Rattle.timetable.specs.Laws.{Has}
use Rattle.running.specs.Walking.{record_in, IsFirst}
use Rattle.running.proofs.Trains.{turns}
use Rattle.running.proofs.Walks.{Walked}
use Rattle.running.proofs.force.Walk.train.Given as goal

abbrev pub invariant-loop-next : goal.invariant-loop-next
invariant-loop-next g l =
    (IsFirst (g.T.Timetable.meaning l.initial.timetable).map l.first
    → Walked (g.T.Timetable.meaning l.initial.timetable).map l.first.uid l.day l.key (record_in l.self.best) × Has (g.T.Timetable.meaning l.initial.timetable).map l.key)
    × (l.key.uid ≡ l.first.uid)
    × (l.timetable ≡ l.initial.timetable)

abbrev pub decreases-loop-next : goal.decreases-loop-next
decreases-loop-next g l = turns (g.T.Timetable.meaning l.timetable).map l.key
