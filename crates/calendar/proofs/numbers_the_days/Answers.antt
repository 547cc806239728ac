use Rattle.calendar.proofs.Days.{numbers_the_days}
use Rattle.calendar.proofs.numbers_the_days.Goals as goal

pub returns : goal.returns
returns c = numbers_the_days
