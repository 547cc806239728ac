-- What the walk over a train's schedules computes on its way. It serves the proof of the walk alone: nobody needs it to believe
-- what is in force.
use Rattle.std.specs.Prelude.{◌≡◌, ℕ, Bool, ◌&&◌, ◌||◌, List, Some, None, Option, ◌==◌, nat_le, nat_lt}
use Rattle.std.specs.Option.{option_map}
use Rattle.forms.specs.declared.letters.Stp.TheVariants.{Cancellation}
use Rattle.schedule.specs.declared.key.Key.{Key}
use Rattle.schedule.specs.declared.record.Record.{Record}
use Rattle.schedule.specs.declared.schedule.Schedule.{Schedule}
use Rattle.schedule.specs.Keys.{rank_of}
use Rattle.timetable.specs.Timetables.{not_before}
use Rattle.running.specs.Running.{covering}

-- whether a schedule outranks another
abbrev pub outranking : Record → Record → Bool
outranking r s = nat_lt (rank_of r.key.stp) (rank_of s.key.stp) || (rank_of r.key.stp == rank_of s.key.stp && nat_le s.key.from r.key.from)

-- whether a schedule covers the day and outranks the best so far, if there is one
abbrev pub takes : Record → ℕ → Option Record → Bool
takes here day None = covering here day
takes here day (Some best) = covering here day && outranking here best

-- the record of a schedule, if there is one
abbrev pub record_in : Option Schedule → Option Record
record_in o = option_map (λ (s : Schedule). s.fields) o

-- the least key that a train can have
abbrev pub first_of : ℕ → Key
first_of uid = record { uid = uid; from = 0; stp = Cancellation }

-- a key is the first one of its train in a map
abbrev pub IsFirst : List Record → Key → Type 0
IsFirst m key = not_before m (first_of key.uid) ≡ Some key
