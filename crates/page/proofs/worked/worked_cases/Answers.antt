use Rattle.std.proofs.Common.{refl}
use Rattle.running.proofs.Tests.{worked}
use Rattle.page.proofs.worked.worked_cases.Goals as goal

pub returns : goal.returns
returns c = record {
  trains = worked;
  row = refl;
  name = refl;
  blank_name = refl;
  no_name = refl;
  no_station = refl;
  at_its_minute = refl;
  past_its_minute = refl;
  ten = refl;
  page = refl;
  cut = refl;
}
