-- What a store over slots has, and what it means.
use Rattle.std.specs.Prelude.{List}
use Rattle.ordered.specs.declared.slots.Slots.{Slots}
use Rattle.ordered.specs.Tables.{room}
use Rattle.ordered.specs.Edits.{Edited}
use Rattle.schedule.specs.declared.key.Key.{Key}
use Rattle.schedule.specs.declared.record.Record.{Record}
use Rattle.schedule.specs.Keys.{key_before}
use Rattle.schedule.specs.Records.{key_of}
use Rattle.timetable.specs.Timetables.{Meaning, StoreEdit}
use Rattle.stores.specs.declared.slot_store.SlotStore.{SlotStore}

-- the table that has the store's records
abbrev pub table_of : {T : Type 0} {M : _} → SlotStore T M → T
table_of s = s.table

-- what the store means: the table's map, and as many keys as it has slots
abbrev pub meaning_of : {T : Type 0} {M : _} → (T → List Record) → (T → Slots Record) → SlotStore T M → Meaning
meaning_of map slots s = record { map = map (table_of s); capacity = room (slots (table_of s)) }

-- the slots of a store become those of another by puts and removals in order, by what a put and a removal make of the order in which
-- its schedules lie
abbrev pub SlotsEdited : {T : Type 0} {M : _} → (List Record → Record → List Record) → (List Record → Key → List Record) → (T → Slots Record) → SlotStore T M → List StoreEdit → SlotStore T M → Type 0
SlotsEdited put removal slots s edits t = Edited key_before key_of put removal (slots (table_of s)) edits (slots (table_of t))
