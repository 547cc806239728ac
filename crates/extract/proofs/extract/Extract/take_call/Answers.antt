use Rattle.std.proofs.Common.{rules, Ok}
use Rattle.extract.proofs.Taken.{begun, called}
use Rattle.extract.proofs.extract.Extract.take_call.Goals as goal

pub returns-in_err-self-clause-origin : goal.returns-in_err-self-clause-origin
returns-in_err-self-clause-origin c s on step = begun c.args.self.now s _ _ on c.args.location step (search rules)

pub returns-in_err-self-clause-intermediate : goal.returns-in_err-self-clause-intermediate
returns-in_err-self-clause-intermediate c s on step = called c.args.self.now s _ _ on c.args.location step (search rules)

pub returns-clause-origin : goal.returns-clause-origin
returns-clause-origin c s on step = begun c.args.self.now s _ (Ok (tt {0})) on c.args.location step (search rules)

pub returns-clause-intermediate : goal.returns-clause-intermediate
returns-clause-intermediate c s on step = called c.args.self.now s _ (Ok (tt {0})) on c.args.location step (search rules)
