use Rattle.std.proofs.Common.{arith}
use Rattle.board.proofs.Boards.{board_of}
use Rattle.board.proofs.Rests.{rest_more}
use Rattle.board.proofs.fill.set_lines.Goals as goal

pub invariant_of-lines : goal.invariant_of-lines
invariant_of-lines g c = record { rising = (board_of _ _ _ _ _ c.gather_lines.ensures.lines c.sort.ensures.items).ordered }

pub returns-clause-board : goal.returns-clause-board
returns-clause-board g c = board_of _ _ _ _ _ c.gather_lines.ensures.lines c.sort.ensures.items

pub returns-clause-rest : goal.returns-clause-rest
returns-clause-rest g c = rest_more _ _ _ c.gather_lines.ensures.rest (record { rest = c.sort.ensures.rest; longer = (let n = c.sort.ensures.len in omega arith) })
