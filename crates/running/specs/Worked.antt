-- Worked cases: those of the fields and the rows, a worked week, and trains that run until further notice, from the texts of rows.
use Rattle.std.specs.Prelude.{◌≡◌, ℕ, Bool, List, [], ◌∷◌, map, Some, None, Option, codes, slice_index}
use Rattle.std.specs.Option.{option_map}
use Rattle.forms.specs.declared.letters.Stp.{Stp}
use Rattle.forms.specs.Letters.{stp_in}
use Rattle.forms.specs.declared.end.End.{End}
use Rattle.forms.specs.Forms.{uid_in, date_in, days_run_in}
use Rattle.forms.specs.Ends.{end_in}
use Rattle.forms.specs.Laws.{Worked as Fields}
use Rattle.cif.specs.Worked.{Worked as RowCases}
use Rattle.schedule.specs.declared.record.Record.{Record}
use Rattle.running.specs.Running.{Candidate, InForce}

-- the schedule of a UID, an STP letter, a first day, an end and days run, as far as it matters to what is in force
abbrev pub as_read : Option ℕ → Option Stp → Option (ℕ × ℕ) → Option End → Option (List Bool) → Option Record
as_read (Some uid) (Some stp) (Some from) (Some to) (Some days) =
    Some (record { key = record { uid = uid; from = from.0; stp = stp }; to = to; days = days; train = []; operator = []; destination = []; calls = []; count = 0 })
as_read _ _ _ _ _ = None

-- a schedule of the train C12345, by the texts of STP letter, first day, end and days run
abbrev pub schedule_read : List ℕ → List ℕ → List ℕ → List ℕ → Option Record
schedule_read letter from to days = as_read (uid_in (codes "C12345")) (stp_in (slice_index letter 0)) (date_in from) (end_in to) (days_run_in days)

-- P from 231211 to 240531 and O from 240304 to 240308 on Mondays to Fridays, C on the Wednesday 240306
abbrev pub permanent : Option Record
permanent = schedule_read (codes "P") (codes "231211") (codes "240531") (codes "1111100")

abbrev pub overlay : Option Record
overlay = schedule_read (codes "O") (codes "240304") (codes "240308") (codes "1111100")

abbrev pub cancelled : Option Record
cancelled = schedule_read (codes "C") (codes "240306") (codes "240306") (codes "0010000")

-- a second permanent schedule that begins later, and a new short-term train over the overlay's days
abbrev pub later : Option Record
later = schedule_read (codes "P") (codes "240226") (codes "240531") (codes "1111100")

abbrev pub short : Option Record
short = schedule_read (codes "N") (codes "240304") (codes "240308") (codes "1111100")

-- a permanent schedule until further notice, an overlay of one day, and a new short-term train that begins on the last day that has a
-- number; a permanent schedule of two days, and an overlay until further notice
abbrev pub unended : Option Record
unended = schedule_read (codes "P") (codes "591229") (codes "999999") (codes "1111111")

abbrev pub one_day : Option Record
one_day = schedule_read (codes "O") (codes "591230") (codes "591230") (codes "1111111")

abbrev pub on_last_day : Option Record
on_last_day = schedule_read (codes "N") (codes "591231") (codes "999999") (codes "1111111")

abbrev pub two_days : Option Record
two_days = schedule_read (codes "P") (codes "591229") (codes "591230") (codes "1111111")

abbrev pub overlay_on : Option Record
overlay_on = schedule_read (codes "O") (codes "591230") (codes "999999") (codes "1111111")

-- the map of some schedules, if each was read
abbrev pub map_of : List (Option Record) → Option (List Record)
map_of [] = Some []
map_of (Some s ∷ ss) = option_map (λ m. s ∷ m) (map_of ss)
map_of (None ∷ ss) = None

-- the map of the first three
abbrev pub week : Option (List Record)
week = map_of (permanent ∷ overlay ∷ cancelled ∷ [])

-- all was read, and the schedule is the one in force
abbrev pub AsRead : Option (List Record) → Option ℕ → Option (ℕ × ℕ) → Option Record → Type 0
AsRead (Some m) (Some uid) (Some day) (Some s) = InForce m uid day.0 s
AsRead _ _ _ _ = ⊥

-- all was read, and there is no candidate
abbrev pub NoneAsRead : Option (List Record) → Option ℕ → Option (ℕ × ℕ) → Type 0
NoneAsRead (Some m) (Some uid) (Some day) = (s : Record) → Candidate m uid day.0 s → ⊥
NoneAsRead _ _ _ = ⊥

-- on a day the train C12345 has this schedule of a map in force
abbrev pub IsInForce : Option (List Record) → List ℕ → Option Record → Type 0
IsInForce m day s = AsRead m (uid_in (codes "C12345")) (date_in day) s

-- on a day the train C12345 has none of a map in force
abbrev pub NoneInForce : Option (List Record) → List ℕ → Type 0
NoneInForce m day = NoneAsRead m (uid_in (codes "C12345")) (date_in day)

-- the table of worked cases; weekdays count from Monday, which is 0, so that Saturday is 5
pub record Worked : Type 0 where
  pub fields : Fields
  pub rows : RowCases
  pub days : map date_in (codes "240304" ∷ codes "240306" ∷ codes "240309" ∷ codes "240311" ∷ [])
      ≡ (Some (23439, 0) ∷ Some (23441, 2) ∷ Some (23444, 5) ∷ Some (23446, 0) ∷ [])
  pub monday : IsInForce week (codes "240304") overlay
  pub wednesday : IsInForce week (codes "240306") cancelled
  pub saturday : NoneInForce week (codes "240309")
  pub next_monday : IsInForce week (codes "240311") permanent
  pub later_start : IsInForce (map_of (permanent ∷ later ∷ [])) (codes "240311") later
  pub no_end : IsInForce (map_of (unended ∷ [])) (codes "591231") unended
  pub first_day : IsInForce (map_of (unended ∷ one_day ∷ on_last_day ∷ [])) (codes "591229") unended
  pub ended_overlay : IsInForce (map_of (unended ∷ one_day ∷ on_last_day ∷ [])) (codes "591230") one_day
  pub last_first_day : IsInForce (map_of (unended ∷ one_day ∷ on_last_day ∷ [])) (codes "591231") on_last_day
  pub unended_overlay : IsInForce (map_of (two_days ∷ overlay_on ∷ [])) (codes "591230") overlay_on
  pub overlay_alone : IsInForce (map_of (two_days ∷ overlay_on ∷ [])) (codes "591231") overlay_on
  pub short_term : IsInForce (map_of (permanent ∷ short ∷ overlay ∷ [])) (codes "240304") short
