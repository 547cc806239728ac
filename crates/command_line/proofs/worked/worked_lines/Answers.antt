use Rattle.command_line.proofs.WorkedLines.{worked}
use Rattle.command_line.proofs.worked.worked_lines.Goals as goal

pub returns : goal.returns
returns c = worked
