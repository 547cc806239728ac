use Rattle.std.proofs.Common.{rules, Ok}
use Rattle.extract.proofs.Taken.{named}
use Rattle.extract.proofs.extract.Extract.take_operator.Goals as goal

pub returns-in_err-has_room-clause-told : goal.returns-in_err-has_room-clause-told
returns-in_err-has_room-clause-told c s on = named c.args.self.now s _ _ on c.args.operator c.requires (search rules)

pub returns-clause-told : goal.returns-clause-told
returns-clause-told c s on = named c.args.self.now s _ (Ok (tt {0})) on c.args.operator c.requires (search rules)
