use Rattle.std.proofs.Common.{refl, is_some, sym, ap, ◌∙◌}
use Rattle.timetable.specs.Timetables.{schedule_of}
use Rattle.overlay.proofs.Dones.{after_last, all_look}
use Rattle.overlay.proofs.questions.has_after.Goals as goal

pub returns-in-Some : goal.returns-in-Some
returns-in-Some g c =
    let m = (g.T.Timetable.meaning c.args.timetable.now).map in
    record {
      value = c.sets.ensures ∙ ap (λ o. is_some (after_last o (schedule_of m c.args.key))) c.in-Some.ensures ∙ sym (ap is_some (all_look m c.args.changes.now.list.now c.args.key (g.met.T.Timetable.is_map c.args.timetable.now) c.args.changes.now.lawful));
      same = refl;
    }

pub returns-in-None : goal.returns-in-None
returns-in-None g c =
    let m = (g.T.Timetable.meaning c.args.timetable.now).map in
    record {
      value = c.find.ensures.found ∙ ap (λ o. is_some (after_last o (schedule_of m c.args.key))) c.in-None.ensures ∙ sym (ap is_some (all_look m c.args.changes.now.list.now c.args.key (g.met.T.Timetable.is_map c.args.timetable.now) c.args.changes.now.lawful));
      same = c.find.ensures.same;
    }
