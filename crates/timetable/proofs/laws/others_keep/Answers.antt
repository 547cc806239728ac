use Rattle.timetable.proofs.Keys.{keep}
use Rattle.timetable.proofs.laws.others_keep.Goals as goal

pub returns : goal.returns
returns c = keep
