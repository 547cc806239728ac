use Rattle.timetable.proofs.Keys.{decide}
use Rattle.timetable.proofs.laws.lookups_decide.Goals as goal

pub returns : goal.returns
returns c = decide
