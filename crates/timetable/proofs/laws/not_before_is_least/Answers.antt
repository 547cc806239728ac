use Rattle.timetable.proofs.Keys.{least}
use Rattle.timetable.proofs.laws.not_before_is_least.Goals as goal

pub returns : goal.returns
returns c = least
