use Rattle.std.proofs.Common.{rules}
use Rattle.extract.proofs.extract.Extract.take_schedule.Goals as goal

pub returns-in_err-transaction-clause-told : goal.returns-in_err-transaction-clause-told
returns-in_err-transaction-clause-told g c r = let t = c.transaction.ensures.told r in search rules

pub returns-then-is_brief-clause-told : goal.returns-then-is_brief-clause-told
returns-then-is_brief-clause-told g c r = let t = c.transaction.ensures.told r in search rules

pub returns-clause-told : goal.returns-clause-told
returns-clause-told g c r = let t = c.transaction.ensures.told r in search rules
