-- Candidates as they were while every schedule had a last day, and where they are those of today.
use Rattle.std.specs.Prelude.{◌≡◌, ℕ, Bool, true, false, ◌&&◌, List, nat_le, slice_index_or}
use Rattle.calendar.specs.Calendar.{weekday}
use Rattle.forms.specs.declared.end.End.{End}
use Rattle.forms.specs.declared.end.End.TheVariants.{Day, Never}
use Rattle.schedule.specs.declared.record.Record.{Record}
use Rattle.schedule.specs.Ended.{each_ends}
use Rattle.running.specs.Running.{covering}
use Rattle.running.specs.Laws.{SameCandidates}

-- a day is not after a last day; there was no other end
abbrev pub is_not_after : ℕ → End → Bool
is_not_after day (Day last) = nat_le day last
is_not_after day Never = false

-- a schedule covered the days between two days, its first and its last, whose weekday it had in days run
abbrev pub dated_covering : Record → ℕ → Bool
dated_covering r day = nat_le r.key.from day && (is_not_after day r.to && slice_index_or r.days (weekday day) false)

-- in a map whose schedules all have a last day, a train has the same candidates by both rules
abbrev pub SameCandidatesWhereAllEnd : Type 0
SameCandidatesWhereAllEnd = (m : List Record) (uid day : ℕ) → each_ends m ≡ true → SameCandidates covering dated_covering m m uid day
