use Rattle.std.proofs.Common.{rules, Ok}
use Rattle.extract.proofs.Taken.{ended}
use Rattle.extract.proofs.extract.Extract.take_terminus.Goals as goal

pub returns-in_err-called-clause-told : goal.returns-in_err-called-clause-told
returns-in_err-called-clause-told c s on same = ended c.args.self.now s _ _ on c.args.location c.requires.stage (search rules)

pub returns-clause-told : goal.returns-clause-told
returns-clause-told c s on same = ended c.args.self.now s _ (Ok (tt {0})) on c.args.location c.requires.stage (rw same (search rules))
