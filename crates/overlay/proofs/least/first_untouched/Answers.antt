use Rattle.std.proofs.Common.{◌≡◌, ◌<◌, List, is_some, sym, refl, ap, ◌∙◌, subst}
use Rattle.schedule.specs.declared.record.Record.{Record}
use Rattle.timetable.specs.Timetables.{not_before, IsMap}
use Rattle.timetable.proofs.Nexts.{next, all_before, left, walk_falls, walk_small}
use Rattle.overlay.proofs.Leasts.{begin, walk_more, walk_found, walk_ended}
use Rattle.overlay.proofs.least.first_untouched.Goals as goal

pub loop-key-init : goal.loop-key-init
loop-key-init g c = (begin _ _ _, refl)

pub loop-key-smaller : goal.loop-key-smaller
loop-key-smaller g c =
    let m = (g.T.Timetable.meaning c.loop-key.timetable).map in
    let is = (g.met.T.Timetable.is_map c.loop-key.timetable) in
    let n = next m c.loop-key.from c.in-Some.key is (sym c.in-Some.ensures.value) in
    subst (λ (x : List Record). left x c.next_in_train-from.result < left m c.loop-key.from)
    (sym (ap (λ v. (g.T.Timetable.meaning v).map) c.in-Some.ensures.same))
    (walk_falls m is c.loop-key.from c.in-Some.key n c.next_in_train-from.result (c.next_in_train-from.ensures.later (walk_small m is c.loop-key.from c.in-Some.key n)))

pub loop-key-preserved : goal.loop-key-preserved
loop-key-preserved g c =
    let m = (g.T.Timetable.meaning c.args.timetable.now).map in
    let same_map : (g.T.Timetable.meaning c.loop-key.timetable).map ≡ m = ap (λ v. (g.T.Timetable.meaning v).map) c.loop-key.invariant.1 in
    let is : IsMap m = subst (λ (x : List Record). IsMap x) same_map (g.met.T.Timetable.is_map c.loop-key.timetable) in
    let n = next m c.loop-key.from c.in-Some.key is (sym (c.in-Some.ensures.value ∙ ap (λ (x : List Record). not_before x c.loop-key.from) same_map)) in (
      walk_more m c.args.changes.now c.args.probe c.loop-key.from c.loop-key.invariant.0 c.in-Some.key n c.next_in_train-from.result
          (sym (ap is_some c.last_on.ensures) ∙ c.if-is_none.ensures)
          (c.next_in_train-from.ensures.later (walk_small m is c.loop-key.from c.in-Some.key n))
          c.next_in_train-from.ensures.tight,
      c.in-Some.ensures.same ∙ c.loop-key.invariant.1,
    )

pub returns-then-is_none : goal.returns-then-is_none
returns-then-is_none g c =
    let m = (g.T.Timetable.meaning c.args.timetable.now).map in
    let same_map : (g.T.Timetable.meaning c.loop-key.timetable).map ≡ m = ap (λ v. (g.T.Timetable.meaning v).map) c.loop-key.invariant.1 in
    let is : IsMap m = subst (λ (x : List Record). IsMap x) same_map (g.met.T.Timetable.is_map c.loop-key.timetable) in
    let n = next m c.loop-key.from c.in-Some.key is (sym (c.in-Some.ensures.value ∙ ap (λ (x : List Record). not_before x c.loop-key.from) same_map)) in
    record {
      least = walk_found m c.args.changes.now c.args.probe c.loop-key.from c.loop-key.invariant.0 c.in-Some.key n (sym (ap is_some c.last_on.ensures) ∙ c.if-is_none.ensures);
      same = c.in-Some.ensures.same ∙ c.loop-key.invariant.1;
    }

pub returns : goal.returns
returns g c =
    let m = (g.T.Timetable.meaning c.args.timetable.now).map in
    let same_map : (g.T.Timetable.meaning c.loop-key.timetable).map ≡ m = ap (λ v. (g.T.Timetable.meaning v).map) c.loop-key.invariant.1 in
    let is : IsMap m = subst (λ (x : List Record). IsMap x) same_map (g.met.T.Timetable.is_map c.loop-key.timetable) in
    record {
      least = walk_ended m c.args.changes.now c.args.probe c.loop-key.from c.loop-key.invariant.0 (all_before m c.loop-key.from is (sym (c.in_default.ensures.value ∙ ap (λ (x : List Record). not_before x c.loop-key.from) same_map)));
      same = c.in_default.ensures.same ∙ c.loop-key.invariant.1;
    }
