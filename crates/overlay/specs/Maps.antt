-- A map with lawful transactions done to it is a map.
use Rattle.std.proofs.Common.{◌≡◌, true, List, [], ◌∷◌}
use Rattle.std.proofs.lemmas.Bool.{and_parts}
use Rattle.maps.proofs.Maps.{ascending_including, ascending_excluding}
use Rattle.schedule.specs.declared.record.Record.{Record}
use Rattle.schedule.specs.declared.transaction.Change.{Change}
use Rattle.schedule.specs.declared.transaction.Change.TheVariants.{New, Revise, Delete}
use Rattle.schedule.specs.Keys.{key_before}
use Rattle.schedule.specs.Records.{key_of}
use Rattle.schedule.specs.Transactions.{is_lawful, every_lawful}
use Rattle.timetable.specs.Timetables.{with_schedule, IsMap}
use Rattle.timetable.proofs.Valid.{key_lawful, valid_with, valid_without}
use Rattle.overlay.specs.Overlays.{done_to, done_all}

-- a map with a schedule set is a map
set_map : (m : List Record) (r : Record) → IsMap m → is_lawful (New r) ≡ true → IsMap (with_schedule m r)
set_map m r is h = record { rising = ascending_including key_before key_of key_lawful m r is.rising; schedules = valid_with m r is.schedules h }

-- so is one with a transaction done to it
pub done_map : (m : List Record) (c : Change) → IsMap m → is_lawful c ≡ true → IsMap (done_to m c)
done_map m (New r) is h = set_map m r is h
done_map m (Revise r) is h = set_map m r is h
done_map m (Delete k) is h = record { rising = ascending_excluding key_before key_of key_lawful m k is.rising; schedules = valid_without m k is.schedules }

-- and with every transaction of a list
pub all_map : (m : List Record) (cs : List Change) → IsMap m → every_lawful cs ≡ true → IsMap (done_all m cs)
all_map m [] is h = is
all_map m (c ∷ cs) is h = let p = and_parts (is_lawful c) (every_lawful cs) h in all_map (done_to m c) cs (done_map m c is p.0) p.1
