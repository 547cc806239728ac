use Rattle.board.proofs.Boards.{board_one}
use Rattle.board.proofs.laws.board_is_one.Goals as goal

pub returns : goal.returns
returns c = board_one
