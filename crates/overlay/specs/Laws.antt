-- What transactions come to, train by train.
use Rattle.std.specs.Prelude.{◌≡◌, ℕ, true, cond, List, [], ◌∷◌, ◌==◌}
use Rattle.schedule.specs.declared.key.Key.{Key}
use Rattle.schedule.specs.declared.record.Record.{Record}
use Rattle.schedule.specs.declared.transaction.Change.{Change}
use Rattle.schedule.specs.Transactions.{changed_key, every_lawful}
use Rattle.timetable.specs.Timetables.{schedule_of, IsMap}
use Rattle.overlay.specs.Overlays.{done_all}

-- the transactions of one train, in their order
abbrev pub of_train : ℕ → List Change → List Change
of_train uid [] = []
of_train uid (c ∷ cs) = cond ((changed_key c).uid == uid) (c ∷ of_train uid cs) (of_train uid cs)

-- transactions that are the same list for each train make one map, however the trains come among one another
abbrev pub TrainsDecide : Type 0
TrainsDecide =
    (m : List Record) (cs ds : List Change) → IsMap m → every_lawful cs ≡ true → every_lawful ds ≡ true
    → ((uid : ℕ) → of_train uid cs ≡ of_train uid ds) → done_all m cs ≡ done_all m ds

-- a train that no transaction names keeps its schedules
abbrev pub UnnamedKeep : Type 0
UnnamedKeep =
    (m : List Record) (cs : List Change) (k : Key) → IsMap m → every_lawful cs ≡ true
    → of_train k.uid cs ≡ [] → schedule_of (done_all m cs) k ≡ schedule_of m k
