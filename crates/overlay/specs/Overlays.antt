-- The overlay: a map with pending transactions done to it in order.
use Rattle.std.specs.Prelude.{Bool, cond, List, [], ◌∷◌, take, Some, None, fold, Option}
use Rattle.maps.specs.Orders.{same}
use Rattle.schedule.specs.declared.key.Key.{Key}
use Rattle.schedule.specs.declared.record.Record.{Record}
use Rattle.schedule.specs.declared.transaction.Change.{Change}
use Rattle.schedule.specs.declared.transaction.Change.TheVariants.{New, Revise, Delete}
use Rattle.schedule.specs.Keys.{key_before}
use Rattle.schedule.specs.Transactions.{changed_key}
use Rattle.timetable.specs.Timetables.{Meaning, with_schedule, without_key}
use Rattle.overlay.specs.declared.pending.Pending.{Pending}
use Rattle.overlay.specs.declared.overlay.Overlay.{Overlay}

-- a transaction done to a map: N and R set the key's schedule, D removes the key
abbrev pub done_to : List Record → Change → List Record
done_to m (New fields) = with_schedule m fields
done_to m (Revise fields) = with_schedule m fields
done_to m (Delete key) = without_key m key

-- transactions done to a map in order
abbrev pub done_all : List Record → List Change → List Record
done_all m cs = fold done_to m cs

-- the transactions that are pending, in the order in which they joined
abbrev pub pending_in : Pending → List Change
pending_in p = take p.len p.slots

-- what a timetable means with transactions done to it in order
abbrev pub with_done : Meaning → List Change → Meaning
with_done t cs = record t { map = done_all t.map cs }

-- what the overlay means: the store's map with the pending transactions done to it in order, and the store's capacity
abbrev pub overlay_of : {S : Type 0} → (S → Meaning) → Overlay S → Meaning
overlay_of meaning o = with_done (meaning o.store) (pending_in o.pending)

-- the schedule that a transaction leaves under its key
abbrev pub leaves : Change → Option Record
leaves (New fields) = Some fields
leaves (Revise fields) = Some fields
leaves (Delete key) = None

-- whether a transaction is on a key
abbrev pub is_on : Key → Change → Bool
is_on k c = same key_before (changed_key c) k

-- the last of some transactions on a key, or what it was before them
abbrev pub last_from : Key → Option Change → List Change → Option Change
last_from k o [] = o
last_from k o (c ∷ cs) = last_from k (cond (is_on k c) (Some c) o) cs

-- the last of some transactions on a key, if there is one
abbrev pub last_on : Key → List Change → Option Change
last_on k cs = last_from k None cs
