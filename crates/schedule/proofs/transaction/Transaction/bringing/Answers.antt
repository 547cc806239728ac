use Rattle.std.proofs.Common.{refl}
use Rattle.schedule.proofs.transaction.Transaction.bringing.Goals as goal

pub returns-in-New : goal.returns-in-New
returns-in-New g c = rw c.in-New.is (c.step.result, c.step.ensures, refl)

pub returns-in-Revise : goal.returns-in-Revise
returns-in-Revise g c = rw c.in-Revise.is (c.step-in-Revise.result, c.step-in-Revise.ensures, refl)
