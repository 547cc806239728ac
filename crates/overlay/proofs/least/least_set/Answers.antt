use Rattle.std.proofs.Common.{◌≡◌, true, false, ◌||◌, List, [], get_or, Some, ap, ◌∙◌, subst}
use Rattle.std.proofs.lemmas.List.{take_all}
use Rattle.schedule.specs.declared.key.Key.{Key}
use Rattle.schedule.specs.declared.transaction.Change.{Change}
use Rattle.schedule.specs.Transactions.{changed_key}
use Rattle.timetable.specs.Laws.{LeastOf}
use Rattle.timetable.proofs.Keys.{same_least}
use Rattle.overlay.specs.Leasts.{is_set, takes_place}
use Rattle.overlay.proofs.Lasts.{no_change}
use Rattle.overlay.proofs.Leasts.{among, among_none, among_all, least_more}
use Rattle.overlay.proofs.least.least_set.Goals as goal
use Rattle.overlay.proofs.least.least_set.Goals.{then-takes_place, else-takes_place}

pub loop-change-init : goal.loop-change-init
loop-change-init c test h = same_least test (among test [] c.args.changes.now) c.args.probe c.args.kept (among_none test c.args.changes.now) h

pub loop-change-preserved : goal.loop-change-preserved
loop-change-preserved c test h =
    let cs = c.args.changes.now in
    let i = c.loop-change.change-index in
    let key : c.key-key.result ≡ changed_key (get_or cs i no_change) = c.key-key.ensures in
    let take = ap (λ (k : Key). takes_place cs c.args.probe k c.loop-change.best) key in
    elim c.if-takes_place.branch [
      | then-takes_place w ↦ least_more test cs i c.loop-change-test.true c.args.probe c.loop-change.best c.if-takes_place.best true (w.if-takes_place.ensures ∙ take) (w.best-is ∙ ap (λ (k : Key). Some k) key) (c.loop-change.invariant test h)
      | else-takes_place w ↦ least_more test cs i c.loop-change-test.true c.args.probe c.loop-change.best c.if-takes_place.best false (w.if-takes_place.ensures ∙ take) w.best-is (c.loop-change.invariant test h)
    ]

pub returns : goal.returns
returns c test h =
    let cs = c.args.changes.now in
    same_least (among test cs cs) (λ k. test k || is_set cs k) c.args.probe c.loop-change.best (among_all test cs)
    (subst (λ (xs : List Change). LeastOf (among test xs cs) c.args.probe c.loop-change.best) (take_all c.loop-change.change-index cs c.loop-change-test.false) (c.loop-change.invariant test h))
