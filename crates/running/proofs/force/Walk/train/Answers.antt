use Rattle.std.proofs.Common.{◌≡◌, ◌<◌, List, None, sym, refl, ap, ◌∙◌, subst}
use Rattle.schedule.specs.declared.record.Record.{Record}
use Rattle.timetable.specs.Timetables.{not_before}
use Rattle.timetable.proofs.Nexts.{next, all_before, walk_small}
use Rattle.running.specs.Walking.{record_in, IsFirst}
use Rattle.running.proofs.Trains.{own, turns, turns_fall, passes, further, begins, first_there, train_passed, all_passed}
use Rattle.running.proofs.Turns.{walk_turn, ended, past_train}
use Rattle.running.proofs.Walks.{Walked, held_has}
use Rattle.running.proofs.force.Walk.train.Goals as goal
use Rattle.running.proofs.force.Walk.train.Goals.{After-not_before}

pub loop-next-init : goal.loop-next-init
loop-next-init g c =
    let m = (g.T.Timetable.meaning c.args.timetable.now).map in
    let is = g.met.T.Timetable.is_map c.args.timetable.now in
    (λ f. (begins m c.args.day c.args.first is f, first_there m c.args.first is f), refl, refl)

-- what was asked after the key
asked : (g : _) (c : After-not_before g) → c.not_before.result ≡ not_before (g.T.Timetable.meaning c.args.timetable.now).map c.next_in_train.result
asked g c = c.not_before.ensures.value ∙ ap (λ t. not_before (g.T.Timetable.meaning t).map c.next_in_train.result) (c.consider.ensures.same ∙ c.loop-next.invariant.2)

pub loop-next-smaller : goal.loop-next-smaller
loop-next-smaller g c =
    let m = (g.T.Timetable.meaning c.args.timetable.now).map in
    let is = g.met.T.Timetable.is_map c.args.timetable.now in
    let same = c.loop-next.invariant.2 in
    let n = next m c.next_in_train.result c.in-Some.next is (sym (asked g (goal.at.loop-next-smaller g c).After-not_before) ∙ c.in-Some.is) in
    let falls = turns_fall m c.loop-next.key c.in-Some.next is n.there
    (λ h. passes c.loop-next.key c.next_in_train.result c.in-Some.next (c.next_in_train.ensures.later (walk_small m is c.loop-next.key c.loop-next.key (own m c.loop-next.key h))) n.past) in
    subst (λ (x : List Record). turns x c.in-Some.next < turns (g.T.Timetable.meaning c.loop-next.timetable).map c.loop-next.key)
    (sym (ap (λ v. (g.T.Timetable.meaning v).map) (c.not_before.ensures.same ∙ c.consider.ensures.same ∙ same)))
    (subst (λ (x : List Record). turns m c.in-Some.next < turns x c.loop-next.key) (sym (ap (λ v. (g.T.Timetable.meaning v).map) same)) falls)

-- what was kept once the schedule of a key was looked at
turned : (g : _) (c : After-not_before g) → IsFirst (g.T.Timetable.meaning c.args.timetable.now).map c.args.first → Walked (g.T.Timetable.meaning c.args.timetable.now).map c.args.first.uid c.args.day c.next_in_train.result (record_in c.consider.new.self.best)
turned g c f =
    let m = (g.T.Timetable.meaning c.args.timetable.now).map in
    let so_far = c.loop-next.invariant.0 f in
    walk_turn m (g.T.Timetable.meaning c.loop-next.timetable).map (ap (λ v. (g.T.Timetable.meaning v).map) c.loop-next.invariant.2) c.loop-next.key c.loop-next.key (own m c.loop-next.key so_far.1)
    c.args.first.uid c.args.day c.next_in_train.result (record_in c.loop-next.self.best) (record_in c.consider.new.self.best)
    c.consider.ensures.best c.next_in_train.ensures.tight c.loop-next.invariant.1 so_far.0

pub loop-next-preserved : goal.loop-next-preserved
loop-next-preserved g c =
    let m = (g.T.Timetable.meaning c.args.timetable.now).map in
    let n = next m c.next_in_train.result c.in-Some.next (g.met.T.Timetable.is_map c.args.timetable.now) (sym (asked g (goal.at.loop-next-preserved g c).After-not_before) ∙ c.in-Some.is) in (
      λ f. (further m c.args.first.uid c.args.day c.next_in_train.result c.in-Some.next (record_in c.consider.new.self.best) n (turned g (goal.at.loop-next-preserved g c).After-not_before f), n.there),
      c.if-next-first.true,
      c.not_before.ensures.same ∙ c.consider.ensures.same ∙ c.loop-next.invariant.2,
    )

pub returns-in_default-clause-best : goal.returns-in_default-clause-best
returns-in_default-clause-best g c f =
    let m = (g.T.Timetable.meaning c.args.timetable.now).map in
    let n = next m c.next_in_train.result c.in-Some.next (g.met.T.Timetable.is_map c.args.timetable.now) (sym (asked g (goal.at.returns-in_default-clause-best g c).After-not_before) ∙ c.in-Some.is) in
    ended m c.args.first.uid c.args.day c.next_in_train.result c.consider.new.self.best (turned g (goal.at.returns-in_default-clause-best g c).After-not_before f)
    (past_train m c.args.first.uid c.args.day c.next_in_train.result c.in-Some.next n (c.next_in_train.ensures.train ∙ c.loop-next.invariant.1) c.if-next-first.false)

pub returns-in_default-clause-next : goal.returns-in_default-clause-next
returns-in_default-clause-next g c =
    train_passed (g.T.Timetable.meaning c.args.timetable.now).map c.next_in_train.result c.in-Some.next c.args.first.uid (g.met.T.Timetable.is_map c.args.timetable.now)
    (c.next_in_train.ensures.train ∙ c.loop-next.invariant.1) c.if-next-first.false (sym (asked g (goal.at.returns-in_default-clause-next g c).After-not_before) ∙ c.in-Some.is)

nothing : (g : _) (c : goal.In_default-2 g) → None ≡ not_before (g.T.Timetable.meaning c.args.timetable.now).map c.next_in_train.result
nothing g c = c.in_default.ensures.value ∙ ap (λ t. not_before (g.T.Timetable.meaning t).map c.next_in_train.result) (c.consider.ensures.same ∙ c.loop-next.invariant.2)

pub returns-in_default-2-clause-best : goal.returns-in_default-2-clause-best
returns-in_default-2-clause-best g c f =
    let m = (g.T.Timetable.meaning c.args.timetable.now).map in
    ended m c.args.first.uid c.args.day c.next_in_train.result c.consider.new.self.best (turned g (goal.at.returns-in_default-2-clause-best g c).After-not_before f)
    (λ s d. all_before m c.next_in_train.result (g.met.T.Timetable.is_map c.args.timetable.now) (sym (nothing g c)) _ (held_has m s d.there))

pub returns-in_default-2-clause-next : goal.returns-in_default-2-clause-next
returns-in_default-2-clause-next g c =
    asked g (goal.at.returns-in_default-2-clause-next g c).After-not_before
    ∙ sym (nothing g c)
    ∙ all_passed (g.T.Timetable.meaning c.args.timetable.now).map c.next_in_train.result c.args.first.uid (c.next_in_train.ensures.train ∙ c.loop-next.invariant.1) (sym (nothing g c))
