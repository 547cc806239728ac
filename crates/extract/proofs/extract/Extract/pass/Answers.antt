use Rattle.std.proofs.Common.{rules, Ok}
use Rattle.extract.proofs.Taken.{passed}
use Rattle.extract.proofs.extract.Extract.pass.Goals as goal

pub returns-in_err-has_room-clause-told : goal.returns-in_err-has_room-clause-told
returns-in_err-has_room-clause-told c s i on passes = passed c.args.self.now s _ _ on i c.args.next passes (search rules)

pub returns-clause-told : goal.returns-clause-told
returns-clause-told c s i on passes = passed c.args.self.now s _ (Ok (tt {0})) on i c.args.next passes (search rules)
