-- What being in force comes to.
use Rattle.std.specs.Prelude.{◌≡◌, ℕ, ◌≤◌, Bool, true, false, List, slice_index_or}
use Rattle.calendar.specs.Calendar.{weekday}
use Rattle.forms.specs.declared.end.End.TheVariants.{Never}
use Rattle.schedule.specs.declared.key.Key.{Key}
use Rattle.schedule.specs.declared.record.Record.{Record}
use Rattle.schedule.specs.Records.{key_of}
use Rattle.timetable.specs.Timetables.{schedule_of, without_key, IsMap}
use Rattle.running.specs.Running.{Holds, covering, CandidateBy, Candidate, InForceBy, InForce}

-- by two rules that say which days a schedule covers, and in two maps, a train has the same candidates on a day
abbrev pub SameCandidates : (Record → ℕ → Bool) → (Record → ℕ → Bool) → List Record → List Record → ℕ → ℕ → Type 0
SameCandidates covers covers' m n uid day =
    (r : Record) → (CandidateBy covers m uid day r → CandidateBy covers' n uid day r) × (CandidateBy covers' n uid day r → CandidateBy covers m uid day r)

-- the same candidates, the same schedule in force
abbrev pub SameCandidatesSameForce : Type 0
SameCandidatesSameForce =
    (covers covers' : Record → ℕ → Bool) (m n : List Record) (uid day : ℕ) → SameCandidates covers covers' m n uid day
    → (r : Record) → InForceBy covers m uid day r → InForceBy covers' n uid day r

-- a schedule with no end is a candidate on every day with its weekday from its first on, whatever the day
abbrev pub NoEndIsCandidate : Type 0
NoEndIsCandidate =
    (m : List Record) (day : ℕ) (r : Record) → Holds m r → r.to ≡ Never → r.key.from ≤ day → slice_index_or r.days (weekday day) false ≡ true
    → Candidate m r.key.uid day r

-- at most one schedule of a train is in force on a day
abbrev pub OneInForce : Type 0
OneInForce = (m : List Record) (uid day : ℕ) (r s : Record) → InForce m uid day r → InForce m uid day s → r ≡ s

-- what is in force depends on the schedules of that train alone
abbrev pub TrainAlone : Type 0
TrainAlone =
    (m n : List Record) (uid day : ℕ) → ((k : Key) → k.uid ≡ uid → schedule_of m k ≡ schedule_of n k)
    → (r : Record) → InForce m uid day r → InForce n uid day r

-- on a day that a schedule does not cover, a cancellation or any other, taking it away changes nothing
abbrev pub OnlyOnItsDays : Type 0
OnlyOnItsDays =
    (m : List Record) (uid day : ℕ) (c : Record) → IsMap m → covering c day ≡ false → schedule_of m (key_of c) ≡ Rattle.std.specs.declared.option.Option.TheVariants.Some c
    → (r : Record) → (InForce m uid day r → InForce (without_key m (key_of c)) uid day r) × (InForce (without_key m (key_of c)) uid day r → InForce m uid day r)
