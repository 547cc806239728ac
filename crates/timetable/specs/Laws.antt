-- What putting, removing and asking come to, key by key.
use Rattle.std.specs.Prelude.{◌≡◌, Bool, true, false, cond, List, [], ◌∷◌, flat_map, is_some, Some, None, fold, Option, MatchOption, ◌≢◌}
use Rattle.ordered.specs.Edits.{ToPut}
use Rattle.schedule.specs.declared.key.Key.{Key}
use Rattle.schedule.specs.declared.record.Record.{Record}
use Rattle.schedule.specs.Keys.{key_before}
use Rattle.schedule.specs.Records.{key_of, is_schedule}
use Rattle.timetable.specs.Timetables.{StoreEdit, schedule_of, with_schedule, without_key, not_before, IsMap}

-- maps with the same schedule under every key are the same map
abbrev pub LookupsDecide : Type 0
LookupsDecide = (a b : List Record) → IsMap a → IsMap b → ((k : Key) → schedule_of a k ≡ schedule_of b k) → a ≡ b

-- a schedule that is put is there, a key that is removed is not, and every other key keeps its schedule
pub record OthersKeep : Type 0 where
  pub put : (m : List Record) (r : Record) → schedule_of (with_schedule m r) (key_of r) ≡ Some r
  pub put_others : (m : List Record) (r : Record) (k : Key) → (key_of r ≢ k) → schedule_of (with_schedule m r) k ≡ schedule_of m k
  pub removed : (m : List Record) (k : Key) → IsMap m → schedule_of (without_key m k) k ≡ None
  pub removed_others : (m : List Record) (k q : Key) → IsMap m → (k ≢ q) → schedule_of (without_key m k) q ≡ schedule_of m q

-- a key is in the map
abbrev pub Has : List Record → Key → Type 0
Has m k = is_some (schedule_of m k) ≡ true

-- the answer is a key of the map that is not before the probe, and no such key is before it; none means that there is no such key
abbrev pub NotBeforeIsLeast : Type 0
NotBeforeIsLeast =
    (m : List Record) (probe : Key) → IsMap m
    → MatchOption (not_before m probe)
    ((k : Key) → Has m k → key_before k probe ≡ true)
    (λ least. Has m least × (key_before least probe ≡ false) × ((k : Key) → Has m k → key_before k probe ≡ false → key_before k least ≡ false))

-- whether a key is in the map
abbrev pub has_key : List Record → Key → Bool
has_key m k = is_some (schedule_of m k)

-- the answer is a key that passes a test and is not before the probe, and no such key is before it; none means that there is no such key
abbrev pub LeastOf : (Key → Bool) → Key → Option Key → Type 0
LeastOf test probe answer =
    MatchOption answer ((k : Key) → test k ≡ true → key_before k probe ≡ true)
    (λ least. (test least ≡ true) × (key_before least probe ≡ false) × ((k : Key) → test k ≡ true → key_before k probe ≡ false → key_before k least ≡ false))

-- the map with a record's schedule set, if it is one
abbrev pub set_if_schedule : List Record → Record → List Record
set_if_schedule m r = cond (is_schedule r) (with_schedule m r) m

-- those of a list of records that are schedules, set one after another
abbrev pub set_all : List Record → List Record → List Record
set_all m rs = fold set_if_schedule m rs

-- the put of a record's schedule, if it is one
abbrev pub put_if_schedule : Record → List StoreEdit
put_if_schedule r = cond (is_schedule r) (ToPut r ∷ []) []

-- the puts of those of a list of records that are schedules
abbrev pub puts_of : List Record → List StoreEdit
puts_of rs = flat_map put_if_schedule rs
