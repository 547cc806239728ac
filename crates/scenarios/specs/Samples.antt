-- Schedules for the examples.
use Rattle.std.specs.Prelude.{ℕ, true, replicate, codes}
use Rattle.forms.specs.declared.end.End.TheVariants.{Day}
use Rattle.forms.specs.declared.letters.Stp.TheVariants.{Permanent}
use Rattle.schedule.specs.declared.key.Key.{Key}
use Rattle.schedule.specs.declared.record.Record.{Record}
use Rattle.schedule.specs.Building.{begun_with}

-- the record of one that runs every day until its last, as 1A23, and calls nowhere
abbrev pub sample : Key → ℕ → Record
sample key to = begun_with key (Day to) (replicate 7 true) (codes "1A23")

-- the record of a permanent one of a train, from its first day to its last
abbrev pub permanent_sample : ℕ → ℕ → ℕ → Record
permanent_sample uid from to = sample (record { uid = uid; from = from; stp = Permanent }) to
