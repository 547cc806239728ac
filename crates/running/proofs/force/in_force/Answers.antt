use Rattle.std.proofs.Common.{refl, sym, ap, ◌∙◌}
use Rattle.timetable.specs.Timetables.{not_before}
use Rattle.timetable.proofs.Nexts.{next, all_before}
use Rattle.running.specs.Walking.{first_of}
use Rattle.running.proofs.Turns.{past_train}
use Rattle.running.proofs.Walks.{begin, held_has}
use Rattle.running.proofs.force.in_force.Goals as goal

pub returns-in_default-clause-value : goal.returns-in_default-clause-value
returns-in_default-clause-value g c s d =
    let m = (g.T.Timetable.meaning c.args.timetable.now).map in
    let is = g.met.T.Timetable.is_map c.args.timetable.now in
    let at = sym (c.in-Some.ensures.value ∙ ap (not_before m) c.first_of.ensures) in
    (begin m c.args.uid c.args.day).none refl s d
    (past_train m c.args.uid c.args.day (first_of c.args.uid) c.in-Some.first (next m (first_of c.args.uid) c.in-Some.first is at) refl c.if-first-uid.false s d)

pub returns-in_default-2-clause-value : goal.returns-in_default-2-clause-value
returns-in_default-2-clause-value g c s d =
    let m = (g.T.Timetable.meaning c.args.timetable.now).map in
    let is = g.met.T.Timetable.is_map c.args.timetable.now in
    let at = sym (c.in_default.ensures.value ∙ ap (not_before m) c.first_of.ensures) in
    (begin m c.args.uid c.args.day).none refl s d (all_before m (first_of c.args.uid) is at _ (held_has m s d.there))
