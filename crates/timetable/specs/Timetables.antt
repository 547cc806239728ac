-- A timetable: a finite map from keys to schedules, each under its own key, as the list of their records in the order of the keys.
use Rattle.std.specs.Prelude.{◌≡◌, ℕ, ◌≤◌, Bool, true, List, length, Option, ◌==◌}
use Rattle.maps.specs.Maps.{ascending, lookup, with_element, without_element, ceiling}
use Rattle.ordered.specs.Tables.{Put, Removed}
use Rattle.ordered.specs.Edits.{Edit}
use Rattle.schedule.specs.declared.key.Key.{Key}
use Rattle.schedule.specs.declared.record.Record.{Record}
use Rattle.schedule.specs.Keys.{key_before}
use Rattle.schedule.specs.Records.{key_of, every_schedule}

-- the schedule of a key, if it is there
abbrev pub schedule_of : List Record → Key → Option Record
schedule_of m k = lookup key_before key_of m k

-- the map with a schedule set under its key
abbrev pub with_schedule : List Record → Record → List Record
with_schedule m r = with_element key_before key_of m r

-- the map with a key removed
abbrev pub without_key : List Record → Key → List Record
without_key m k = without_element key_before key_of m k

-- the least key that is not before a probe
abbrev pub not_before : List Record → Key → Option Key
not_before m probe = ceiling key_before key_of m probe

-- what every map is: in the order of its keys, and all its records are schedules
pub record IsMap (m : List Record) : Type 0 where
  pub rising : ascending key_before key_of m ≡ true
  pub schedules : every_schedule m ≡ true

-- what a timetable means: its map, and beside it how many keys the map can have
pub record Meaning : Type 0 where
  pub map : List Record
  pub capacity : ℕ

-- the map has no more keys than the capacity
abbrev pub IsWithinCapacity : Meaning → Type 0
IsWithinCapacity t = length t.map ≤ t.capacity

-- there are as many keys as there can be
abbrev pub is_full : Meaning → Bool
is_full t = length t.map == t.capacity

-- a schedule is put: it takes the place of its key's, or is added below the capacity, or is refused for want of room
pub record PutsSchedule (before after : Meaning) (schedule : Record) (done : Bool) : Type 0 where
  pub map : Put key_before key_of before.map after.map before.capacity schedule done
  pub capacity : after.capacity ≡ before.capacity

-- a key is removed, or was not there
pub record RemovesKey (before after : Meaning) (key : Key) (done : Bool) : Type 0 where
  pub map : Removed key_before key_of before.map after.map key done
  pub capacity : after.capacity ≡ before.capacity

-- what is done to a store: a schedule is put, or a key removed
abbrev pub StoreEdit : Type 0
StoreEdit = Edit Record Key
