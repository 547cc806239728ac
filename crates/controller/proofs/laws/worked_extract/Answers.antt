use Rattle.controller.proofs.Worked.{extract_worked}
use Rattle.controller.proofs.laws.worked_extract.Goals as goal

pub returns : goal.returns
returns c = extract_worked
