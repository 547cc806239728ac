use Rattle.running.proofs.Tests.{worked}
use Rattle.running.proofs.worked.worked_cases.Goals as goal

pub returns : goal.returns
returns c = worked
