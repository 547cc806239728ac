use Rattle.std.proofs.Common.{Some, sym, subst, ◌<◌}
use Rattle.std.proofs.lemmas.Bool.{cond-false}
use Rattle.schedule.specs.declared.key.Key.{Key}
use Rattle.timetable.proofs.Nexts.{found_key}
use Rattle.running.specs.Walking.{takes, record_in}
use Rattle.running.proofs.Turns.{begins_after}
use Rattle.running.proofs.force.Walk.consider.Goals as goal

pub returns-then-day-key-clause-best : goal.returns-then-day-key-clause-best
returns-then-day-key-clause-best g c h e =
    let late = subst (λ (k : Key). c.args.day < k.from) (sym (found_key (g.T.Timetable.meaning c.args.timetable.now).map c.args.key h e)) c.if-day-key.true in
    sym (cond-false (takes h c.args.day (record_in c.args.self.now.best)) (Some h) (record_in c.args.self.now.best) (begins_after h c.args.day (record_in c.args.self.now.best) late))
