use Rattle.std.proofs.Common.{sym, ◌∙◌}
use Rattle.std.proofs.lemmas.Result.{err_from_is_err_and}
use Rattle.schedule.specs.Building.{bringing_lines}
use Rattle.schedule.specs.Transactions.{change_of}
use Rattle.extract.specs.Judging.{room_lines}
use Rattle.extract.proofs.Lines.{first_told, next_told}
use Rattle.extract.proofs.extract.Extract.called.Goals as goal

pub returns-in_err-called-clause-told : goal.returns-in_err-called-clause-told
returns-in_err-called-clause-told c = let p = err_from_is_err_and c.from_residual.result c.from_residual.ensures.1 in rw (p.1, p.2) (sym (first_told (bringing_lines (change_of c.args.self.now.draft) c.args.location) (room_lines c.args.self.now.taken) _ (sym c.in_err-called.ensures.told)))

pub returns-in_err-has_room-clause-told : goal.returns-in_err-has_room-clause-told
returns-in_err-has_room-clause-told c = let p = err_from_is_err_and c.from_residual-in_err-has_room.result c.from_residual-in_err-has_room.ensures.1 in rw (p.1, p.2) (c.in_err-has_room.ensures.told ∙ sym (next_told (bringing_lines (change_of c.args.self.now.draft) c.args.location) (room_lines c.args.self.now.taken) (sym c.in_ok-called.ensures.told)))
