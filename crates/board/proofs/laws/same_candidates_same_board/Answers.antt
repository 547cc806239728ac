use Rattle.board.proofs.Trains.{same_board}
use Rattle.board.proofs.laws.same_candidates_same_board.Goals as goal

pub returns : goal.returns
returns c = same_board
