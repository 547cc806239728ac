-- In a map whose schedules all have a last day the candidates are what they were.
use Rattle.std.proofs.Common.{◌≡◌, ℕ, Bool, true, false, ◌&&◌, leb, List, sym, refl, ap, ◌∙◌}
use Rattle.std.specs.Prelude.{slice_index_or}
use Rattle.std.proofs.lemmas.Bool.{both_ways}
use Rattle.calendar.specs.Calendar.{weekday}
use Rattle.forms.specs.declared.end.End.{End}
use Rattle.forms.specs.declared.end.End.TheVariants.{Day, Never}
use Rattle.forms.specs.Ends.{lasts, has_last}
use Rattle.schedule.specs.declared.record.Record.{Record}
use Rattle.schedule.specs.Records.{key_of}
use Rattle.schedule.specs.Ended.{ends, each_ends}
use Rattle.timetable.proofs.Valid.{found_passes}
use Rattle.running.specs.Running.{Holds, covering}
use Rattle.running.specs.Dated.{is_not_after, dated_covering, SameCandidatesWhereAllEnd}

same_lasting : (e : End) (day : ℕ) → has_last e ≡ true → lasts e day ≡ is_not_after day e
same_lasting (Day last) day h = refl
same_lasting Never day h = absurd (both_ways false refl h)

same_covering : (r : Record) (day : ℕ) → ends r ≡ true → covering r day ≡ dated_covering r day
same_covering r day h = ap (λ (b : Bool). leb r.key.from day && (b && slice_index_or r.days (weekday day) false)) (same_lasting r.to day h)

-- a schedule of such a map has a last day
held_ends : (m : List Record) (r : Record) → each_ends m ≡ true → Holds m r → ends r ≡ true
held_ends m r all held = found_passes ends m (key_of r) r all (sym held)

pub same_where_all_end : SameCandidatesWhereAllEnd
same_where_all_end m uid day all r = (
  (λ c. record { there = c.there; train = c.train; on = sym (same_covering r day (held_ends m r all c.there)) ∙ c.on }),
  (λ c. record { there = c.there; train = c.train; on = same_covering r day (held_ends m r all c.there) ∙ c.on }),
)
