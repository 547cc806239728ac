-- Transactions that may be done: N finds its key absent and room, R and D find it there.
use Rattle.std.specs.Prelude.{◌≡◌, ◌<◌, true, false, List, [], ◌∷◌, length, ⊤}
use Rattle.schedule.specs.declared.transaction.Change.{Change}
use Rattle.schedule.specs.declared.transaction.Change.TheVariants.{New, Revise, Delete}
use Rattle.schedule.specs.Records.{is_schedule}
use Rattle.timetable.specs.Timetables.{Meaning}
use Rattle.timetable.specs.Laws.{has_key}
use Rattle.overlay.specs.Overlays.{done_to}

-- a transaction may be done: its schedule is one, N has its key absent and finds room, R and D have it present
abbrev pub MayBeDone : Meaning → Change → Type 0
MayBeDone t (New r) = (is_schedule r ≡ true) × (has_key t.map r.key ≡ false) × (length t.map < t.capacity)
MayBeDone t (Revise r) = (is_schedule r ≡ true) × (has_key t.map r.key ≡ true)
MayBeDone t (Delete k) = has_key t.map k ≡ true

-- each of some transactions, done in order, is one that may be done
abbrev pub EachMayBeDone : Meaning → List Change → Type 0
EachMayBeDone t [] = ⊤
EachMayBeDone t (c ∷ cs) = MayBeDone t c × EachMayBeDone (record t { map = done_to t.map c }) cs
