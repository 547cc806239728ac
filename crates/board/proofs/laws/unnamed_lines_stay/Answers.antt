use Rattle.board.proofs.Strikes.{lines_stay}
use Rattle.board.proofs.laws.unnamed_lines_stay.Goals as goal

pub returns : goal.returns
returns c = lines_stay
