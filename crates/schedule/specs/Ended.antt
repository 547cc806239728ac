-- Schedules that have a last day.
use Rattle.std.specs.Prelude.{Bool, true, List}
use Rattle.std.specs.List.{list_all}
use Rattle.forms.specs.Ends.{has_last}
use Rattle.schedule.specs.declared.record.Record.{Record}
use Rattle.schedule.specs.declared.transaction.Change.{Change}
use Rattle.schedule.specs.declared.transaction.Change.TheVariants.{New, Revise, Delete}

-- a schedule has a last day
abbrev pub ends : Record → Bool
ends r = has_last r.to

-- every schedule of a map has one
abbrev pub each_ends : List Record → Bool
each_ends m = list_all ends m

-- the schedule that a transaction brings, if it brings one, has one
abbrev pub change_ends : Change → Bool
change_ends (New r) = ends r
change_ends (Revise r) = ends r
change_ends (Delete k) = true
