-- The worked command lines, each by computation.
use Rattle.std.proofs.Common.{refl}
use Rattle.clap.proofs.OnLiterals.{clap_on_literals}
use Rattle.command_line.specs.Worked.{Faults, Options, Tasks, Worked}

pub tasks : Tasks
unfolding clap_on_literals
tasks = record {
  rows = refl;
  replay = refl;
  stores = refl;
  run = refl;
  glass = refl;
  board = refl;
  turns = refl;
  pages = refl;
  extract = refl;
}

pub options : Options
unfolding clap_on_literals
options = record {
  stores = refl;
  run = refl;
  extract = refl;
  picture = refl;
  last_time = refl;
  no_byte = refl;
  no_byte_behind = refl;
  hyphen = refl;
  blank = refl;
}

pub faults : Faults
unfolding clap_on_literals
faults = record {
  none = refl;
  no_such_task = refl;
  missing = refl;
  no_such_store = refl;
  one_digit_hour = refl;
  no_colon = refl;
  no_digit = refl;
  no_time = refl;
  more_digits = refl;
  no_value = refl;
  name_not_here = refl;
  too_many_slots = refl;
  repeated = refl;
  not_here = refl;
  help = refl;
  help_on_task = refl;
  version = refl;
}

pub worked : Worked
worked = record { tasks = tasks; options = options; faults = faults; several = refl }
