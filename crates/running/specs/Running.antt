-- Which schedule of a train is in force on a day.
use Rattle.std.specs.Prelude.{◌≡◌, ℕ, ◌<◌, ◌≤◌, Bool, true, false, ◌&&◌, ◌⊎◌, List, Some, Option, MatchOption, nat_le, slice_index_or}
use Rattle.calendar.specs.Calendar.{weekday}
use Rattle.forms.specs.Ends.{lasts}
use Rattle.schedule.specs.declared.record.Record.{Record}
use Rattle.schedule.specs.declared.schedule.Schedule.{Schedule}
use Rattle.schedule.specs.Keys.{rank_of}
use Rattle.schedule.specs.Records.{key_of}
use Rattle.timetable.specs.Timetables.{schedule_of}

-- a schedule of the map
abbrev pub Holds : List Record → Record → Type 0
Holds m r = schedule_of m (key_of r) ≡ Some r

-- a schedule covers a day from its first on to which it lasts and whose weekday it has in days run
abbrev pub covering : Record → ℕ → Bool
covering r day = nat_le r.key.from day && (lasts r.to day && slice_index_or r.days (weekday day) false)

-- a train's candidates on a day, by a rule that says which days a schedule covers: the schedules of its UID that cover that day
pub record CandidateBy (covers : Record → ℕ → Bool) (m : List Record) (uid day : ℕ) (r : Record) : Type 0 where
  pub there : Holds m r
  pub train : r.key.uid ≡ uid
  pub on : covers r day ≡ true

abbrev pub Candidate : List Record → ℕ → ℕ → Record → Type 0
Candidate m uid day r = CandidateBy covering m uid day r

-- a letter that ranks before the other's, or the same letter and no earlier start
abbrev pub Outranks : Record → Record → Type 0
Outranks r s = (rank_of r.key.stp < rank_of s.key.stp) ⊎ ((rank_of r.key.stp ≡ rank_of s.key.stp) × (s.key.from ≤ r.key.from))

-- in force is the candidate of the first-ranked letter, and among those of one letter the one that runs from the latest day
pub record InForceBy (covers : Record → ℕ → Bool) (m : List Record) (uid day : ℕ) (r : Record) : Type 0 where
  pub candidate : CandidateBy covers m uid day r
  pub first : (s : Record) → CandidateBy covers m uid day s → Outranks r s

abbrev pub InForce : List Record → ℕ → ℕ → Record → Type 0
InForce m uid day r = InForceBy covering m uid day r

-- the answer is the schedule in force, or none where there is no candidate
abbrev pub IsForceOf : List Record → ℕ → ℕ → Option Schedule → Type 0
IsForceOf m uid day answer =
    MatchOption answer ((s : Record) → Candidate m uid day s → ⊥) (λ s. InForce m uid day s.fields)
