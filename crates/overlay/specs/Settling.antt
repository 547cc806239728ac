-- Transactions that are tried on a store, which may find no room.
use Rattle.std.specs.Prelude.{◌≡◌, cond, ◌||◌, List, map, length, fold, nat_lt}
use Rattle.ordered.specs.Edits.{ToPut, ToRemove}
use Rattle.schedule.specs.declared.record.Record.{Record}
use Rattle.schedule.specs.declared.transaction.Change.{Change}
use Rattle.schedule.specs.declared.transaction.Change.TheVariants.{New, Revise, Delete}
use Rattle.timetable.specs.Timetables.{Meaning, StoreEdit, with_schedule, without_key}
use Rattle.timetable.specs.Laws.{has_key}
use Rattle.overlay.specs.Overlays.{with_done}
use Rattle.overlay.specs.Permitted.{EachMayBeDone}

-- a schedule set where there is room for its key
abbrev pub map_after_put : Meaning → Record → List Record
map_after_put t r = cond (has_key t.map r.key || nat_lt (length t.map) t.capacity) (with_schedule t.map r) t.map

-- what a store means after a transaction, which is passed over where it finds no room
abbrev pub after_try : Meaning → Change → Meaning
after_try t (New r) = record t { map = map_after_put t r }
after_try t (Revise r) = record t { map = map_after_put t r }
after_try t (Delete k) = record t { map = without_key t.map k }

-- and after transactions that are tried in order
abbrev pub after_tries : Meaning → List Change → Meaning
after_tries t cs = fold after_try t cs

-- where each of the transactions may be done, all of them are
abbrev pub RoomForAll : Type 0
RoomForAll = (t : Meaning) (cs : List Change) → EachMayBeDone t cs → after_tries t cs ≡ with_done t cs

-- the put or the removal by which a transaction is done to a store
abbrev pub edit_of : Change → StoreEdit
edit_of (New r) = ToPut r
edit_of (Revise r) = ToPut r
edit_of (Delete k) = ToRemove k

-- and those by which transactions are done to it, in order
abbrev pub edits_of : List Change → List StoreEdit
edits_of cs = map edit_of cs
