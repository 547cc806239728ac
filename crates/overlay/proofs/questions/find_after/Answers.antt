use Rattle.std.proofs.Common.{◌≡◌, is_some, Some, None, unwrap_or, sym, refl, ap, ◌∙◌}
use Rattle.timetable.specs.Timetables.{schedule_of}
use Rattle.overlay.specs.Overlays.{done_all}
use Rattle.overlay.proofs.Dones.{after_last, all_look}
use Rattle.overlay.proofs.Lawful.{lawful_last}
use Rattle.overlay.proofs.questions.find_after.Goals as goal

pub schedule_left-requires : goal.schedule_left-requires
schedule_left-requires g c = record { lawful = lawful_last c.args.key c.args.changes.now.list.now c.in-Some.change c.args.changes.now.lawful (sym c.in-Some.ensures) }

pub returns-in-Some-schedule_left : goal.returns-in-Some-schedule_left
returns-in-Some-schedule_left g c =
    let m = (g.T.Timetable.meaning c.args.timetable.now).map in
    let e : schedule_of (done_all m c.args.changes.now.list.now) c.args.key ≡ Some c.in-Some-schedule_left.schedule.fields =
    all_look m c.args.changes.now.list.now c.args.key (g.met.T.Timetable.is_map c.args.timetable.now) c.args.changes.now.lawful
    ∙ ap (λ o. after_last o (schedule_of m c.args.key)) (sym c.in-Some.ensures)
    ∙ c.in-Some-schedule_left.ensures in
    record {
      found = sym (ap is_some e);
      copied = sym (ap (λ o. unwrap_or o c.args.place.now.fields) e);
      left = tt;
      same = refl;
    }

pub returns-in-None-schedule_left : goal.returns-in-None-schedule_left
returns-in-None-schedule_left g c =
    let m = (g.T.Timetable.meaning c.args.timetable.now).map in
    let e : schedule_of (done_all m c.args.changes.now.list.now) c.args.key ≡ None =
    all_look m c.args.changes.now.list.now c.args.key (g.met.T.Timetable.is_map c.args.timetable.now) c.args.changes.now.lawful
    ∙ ap (λ o. after_last o (schedule_of m c.args.key)) (sym c.in-Some.ensures)
    ∙ c.in-None-schedule_left.ensures in
    record {
      found = sym (ap is_some e);
      copied = sym (ap (λ o. unwrap_or o c.args.place.now.fields) e);
      left = refl;
      same = refl;
    }

pub returns-in-None : goal.returns-in-None
returns-in-None g c =
    let m = (g.T.Timetable.meaning c.args.timetable.now).map in
    let e : schedule_of (done_all m c.args.changes.now.list.now) c.args.key ≡ schedule_of m c.args.key =
    all_look m c.args.changes.now.list.now c.args.key (g.met.T.Timetable.is_map c.args.timetable.now) c.args.changes.now.lawful
    ∙ ap (λ o. after_last o (schedule_of m c.args.key)) (sym c.in-None.ensures) in
    record {
      found = c.find.ensures.found ∙ sym (ap is_some e);
      copied = c.find.ensures.copied ∙ sym (ap (λ o. unwrap_or o c.args.place.now.fields) e);
      left = c.find.ensures.left;
      same = c.find.ensures.same;
    }
