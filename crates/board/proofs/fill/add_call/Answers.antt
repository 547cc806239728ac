use Rattle.std.proofs.Common.{sym}
use Rattle.board.proofs.Adds.{line_here, added_push, added_skip}
use Rattle.board.proofs.fill.add_call.Goals as goal

pub push-requires : goal.push-requires
push-requires c = c.requires.room (line_here c.args.station.now c.args.fields.now c.args.place c.in-Some.line (sym c.in-Some.ensures)).at

pub returns-in-Some-clause-added : goal.returns-in-Some-clause-added
returns-in-Some-clause-added c xs a fresh = added_push _ _ _ _ _ _ _ a c.in-Some.ensures fresh c.push.ensures.items

pub returns-in_default-clause-added : goal.returns-in_default-clause-added
returns-in_default-clause-added c xs a fresh = added_skip _ _ _ _ _ a c.in_default.ensures
