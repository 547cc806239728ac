use Rattle.std.proofs.Common.{◌≡◌, ◌<◌, ◌≤◌, ◌+◌, ◌*◌, length, List, Some, refl, ap, ◌∙◌, subst, arith}
use Rattle.ordered.specs.Tables.{items}
use Rattle.schedule.specs.declared.record.Record.{Record}
use Rattle.timetable.specs.Timetables.{not_before}
use Rattle.timetable.proofs.Nexts.{left}
use Rattle.running.specs.Walking.{first_of, IsFirst}
use Rattle.board.specs.Filling.{StartsTrain, UpTo, Trained}
use Rattle.board.proofs.Boards.{start, starts, fresh, more, whole, left_from, left_from_all, falls, some_left}
use Rattle.board.proofs.Rests.{rest_more}
use Rattle.board.proofs.fill.gather_lines.Goals as goal
use Rattle.board.proofs.fill.gather_lines.Goals.{In-Some, After-add_train-next}

pub loop-next-init : goal.loop-next-init
loop-next-init g c =
    let m = (g.T.Timetable.meaning c.args.timetable.now).map in
    let is = g.met.T.Timetable.is_map c.args.timetable.now in
    let asked = c.not_before-next.ensures.value ∙ ap (not_before m) c.first_of.ensures in
    let all = left_from_all m c.not_before-next.result in (
      start m c.args.shown.now.station c.args.shown.now.day c.not_before-next.result is asked,
      refl,
      c.not_before-next.ensures.same,
      omega arith,
      starts m 0 c.not_before-next.result is asked,
      record { rest = refl; slots = refl; lender = refl },
    )

-- the key that is walked from is the first one of its train
first : (g : _) (c : In-Some g) → IsFirst (g.T.Timetable.meaning c.args.timetable.now).map c.in-Some.first
first g c = subst (StartsTrain (g.T.Timetable.meaning c.args.timetable.now).map) c.in-Some.is c.loop-next.invariant.4

so_far : (g : _) (c : In-Some g) → UpTo (g.T.Timetable.meaning c.args.timetable.now).map c.args.shown.now.station c.args.shown.now.day (Some c.in-Some.first) (items c.loop-next.lines)
so_far g c = rw c.in-Some.is at c.loop-next.invariant.0

-- the lines so far, and the keys that are left
few : (g : _) (c : In-Some g) → length (items c.loop-next.lines) + 2 * left (g.T.Timetable.meaning c.args.timetable.now).map c.in-Some.first ≤ 2 * length (g.T.Timetable.meaning c.args.timetable.now).map
few g c = rw c.in-Some.is at c.loop-next.invariant.3

asked : (g : _) (c : After-add_train-next g) → c.add_train-next.result ≡ not_before (g.T.Timetable.meaning c.args.timetable.now).map (first_of (c.in-Some.first.uid + 1))
asked g c = c.add_train-next.ensures.next ∙ ap (λ t. not_before (g.T.Timetable.meaning t).map (first_of (c.in-Some.first.uid + 1))) c.loop-next.invariant.2

less : (g : _) (c : After-add_train-next g) → IsFirst (g.T.Timetable.meaning c.args.timetable.now).map c.in-Some.first → left_from (g.T.Timetable.meaning c.args.timetable.now).map c.add_train-next.result < left (g.T.Timetable.meaning c.args.timetable.now).map c.in-Some.first
less g c f = falls (g.T.Timetable.meaning c.args.timetable.now).map (g.met.T.Timetable.is_map c.args.timetable.now) c.in-Some.first c.add_train-next.result f (asked g c)

pub add_train-next-requires : goal.add_train-next-requires
add_train-next-requires g c =
    let m = (g.T.Timetable.meaning c.args.timetable.now).map in
    let is = g.met.T.Timetable.is_map c.args.timetable.now in
    let at = (goal.at.add_train-next-requires g c).In-Some in
    let f = first g at in
    let there = some_left m is c.in-Some.first f in
    let n = few g at in
    let slots = c.loop-next.invariant.1 in
    let space = c.requires.room in
    record {
      room = omega arith;
      fresh = fresh m c.args.shown.now.station c.args.shown.now.day c.in-Some.first is (items c.loop-next.lines) (so_far g at);
      first = ap (λ t. not_before (g.T.Timetable.meaning t).map (first_of c.in-Some.first.uid)) c.loop-next.invariant.2 ∙ f;
    }

pub loop-next-smaller : goal.loop-next-smaller
loop-next-smaller g c =
    let m = (g.T.Timetable.meaning c.args.timetable.now).map in
    let l = less g c (first g (goal.at.loop-next-smaller g c).In-Some) in
    let before : left_from (g.T.Timetable.meaning c.loop-next.timetable).map c.loop-next.next ≡ left m c.in-Some.first
    = ap (λ t. left_from (g.T.Timetable.meaning t).map c.loop-next.next) c.loop-next.invariant.2 ∙ ap (left_from m) c.in-Some.is in
    let after : left_from (g.T.Timetable.meaning c.add_train-next.new.timetable).map c.add_train-next.result ≡ left_from m c.add_train-next.result
    = ap (λ t. left_from (g.T.Timetable.meaning t).map c.add_train-next.result) (c.add_train-next.ensures.same ∙ c.loop-next.invariant.2) in
    omega arith

pub loop-next-preserved : goal.loop-next-preserved
loop-next-preserved g c =
    let m = (g.T.Timetable.meaning c.args.timetable.now).map in
    let is = g.met.T.Timetable.is_map c.args.timetable.now in
    let at = (goal.at.loop-next-preserved g c).In-Some in
    let f = first g at in
    let n = few g at in
    let l = less g (goal.at.loop-next-preserved g c).After-add_train-next f in
    let next = asked g (goal.at.loop-next-preserved g c).After-add_train-next in
    let trained = subst (λ (r : List Record). Trained r c.args.shown.now.station c.args.shown.now.day c.in-Some.first.uid (items c.loop-next.lines) (items c.add_train-next.new.lines)) (ap (λ v. (g.T.Timetable.meaning v).map) c.loop-next.invariant.2) c.add_train-next.ensures.trained in
    let two = trained.few in (
      more m c.args.shown.now.station c.args.shown.now.day c.in-Some.first is (items c.loop-next.lines) (so_far g at) (items c.add_train-next.new.lines) c.add_train-next.result next trained,
      c.add_train-next.ensures.grown.rest.slots ∙ c.loop-next.invariant.1,
      c.add_train-next.ensures.same ∙ c.loop-next.invariant.2,
      omega arith,
      starts m (c.in-Some.first.uid + 1) c.add_train-next.result is next,
      rest_more _ _ _ c.loop-next.invariant.5 c.add_train-next.ensures.grown,
    )

pub returns : goal.returns
returns g c =
    let n = c.loop-next.invariant.3 in
    record {
      lines = whole (g.T.Timetable.meaning c.args.timetable.now).map c.args.shown.now.station c.args.shown.now.day (items c.loop-next.lines) (rw c.in_default.is at c.loop-next.invariant.0);
      few = omega arith;
      rest = let kept = c.loop-next.invariant.5 in record { rest = kept.rest; slots = kept.slots; lender = kept.lender };
      same = c.loop-next.invariant.2;
    }
