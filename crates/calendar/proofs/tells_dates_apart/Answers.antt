use Rattle.calendar.proofs.Days.{tells_dates_apart}
use Rattle.calendar.proofs.tells_dates_apart.Goals as goal

pub returns : goal.returns
returns c = tells_dates_apart
