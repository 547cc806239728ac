-- The two stores that are kept side by side.
use Rattle.std.specs.Prelude.{◌≡◌, ℕ, List}
use Rattle.ordered.specs.Tables.{items, room}
use Rattle.schedule.specs.declared.record.Record.{Record}
use Rattle.stores.specs.Stores.{table_of}
use Rattle.list_tasks.specs.declared.keeping.Both.{Both}

-- the records in its table
abbrev pub table_records : Both → List Record
table_records b = items (table_of b.table).elements

-- the records in its bag
abbrev pub bag_records : Both → List Record
bag_records b = items (table_of b.bag).elements

-- how many schedules its table can have
abbrev pub table_capacity : Both → ℕ
table_capacity b = room (table_of b.table).elements

-- how many schedules its bag can have
abbrev pub bag_capacity : Both → ℕ
bag_capacity b = room (table_of b.bag).elements

-- each store can have as many schedules after as before
pub record CapacitiesKept (before after : Both) : Type 0 where
  pub table : table_capacity after ≡ table_capacity before
  pub bag : bag_capacity after ≡ bag_capacity before
