use Rattle.std.proofs.Common.{sym, ap, ◌∙◌, subst, arith}
use Rattle.ordered.specs.Tables.{items}
use Rattle.schedule.specs.declared.record.Record.{Record}
use Rattle.schedule.specs.Records.{is_schedule}
use Rattle.running.specs.Running.{InForce}
use Rattle.board.proofs.Trains.{runs_if, calls, trained_calls}
use Rattle.board.proofs.fill.add_train.Goals as goal
use Rattle.board.proofs.fill.add_train.Goals.{In-Some}

-- the schedule that was found is in force
in_force : (g : _) (c : In-Some g) → InForce (g.T.Timetable.meaning c.args.timetable.now).map c.args.first.uid c.args.shown.now.day c.in-Some.schedule.fields
in_force g c = rw c.in-Some.is at c.train-next.ensures.best c.requires.first

pub add_calls-requires : goal.add_calls-requires
add_calls-requires g c =
    let few = calls c.args.shown.now.station c.record-fields.result.now (ap is_schedule c.record-fields.ensures ∙ c.in-Some.schedule.valid) in
    let two = few.two in
    let space = c.requires.room in
    let force = in_force g (goal.at.add_calls-requires g c).In-Some in
    record {
      count = few.count;
      room = omega arith;
      fresh = λ l o e. c.requires.fresh l o (e ∙ (ap (λ (r : Record). r.key.uid) c.record-fields.ensures ∙ force.candidate.train));
    }

pub returns-in_default-stp : goal.returns-in_default-stp
returns-in_default-stp g c =
    let m = (g.T.Timetable.meaning c.args.timetable.now).map in
    let force = in_force g (goal.at.returns-in_default-stp g c).In-Some in
    record {
      trained = trained_calls m c.args.shown.now.station c.args.shown.now.day c.args.first.uid (items c.args.lines.now) c.record-fields.result.now _
          (subst (λ (r : Record). InForce m c.args.first.uid c.args.shown.now.day r) (sym c.record-fields.ensures) force)
          (runs_if _ c.in_default-stp.not-Cancellation) (ap is_schedule c.record-fields.ensures ∙ c.in-Some.schedule.valid) c.add_calls.ensures.added;
      next = c.train-next.ensures.next;
      grown = c.add_calls.ensures.grown;
      same = c.train-next.ensures.same;
    }
