use Rattle.std.proofs.Math.Logic.{∥∥₁_elim, ∥∥₁_map, ∥∥₁_prop}
use Rattle.runs.specs.Calls.{first_ledger}
use Rattle.runs.proofs.WholeRuns.{none_made, one_more, made_all, all_made}
use Rattle.runs.proofs.whole.run.Goals as goal

pub loop-init : goal.loop-init
loop-init g c = ∣ none_made g.S.Timetable.meaning first_ledger c.args.plan c.in_ok-run.run' c.in_ok-run.ensures ∣₁

pub loop-preserved : goal.loop-preserved
loop-preserved g c =
    ∥∥₁_elim c.loop.invariant ∥∥₁_prop (λ s. ∥∥₁_map c.call_next.ensures (λ next.
    one_more g.S.Timetable.meaning g.S.Store.becomes first_ledger c.args.plan c.loop.run c.call_next.new.self c.call_next.result c.loop.index c.loop-test.true s next))

pub returns : goal.returns
returns g c =
    ∥∥₁_elim c.loop.invariant ∥∥₁_prop (λ s. ∥∥₁_map c.loop.run.keeps (λ k. (
      c.in_ok-run.ensures.suits,
      made_all g.S.Timetable.meaning first_ledger c.args.plan c.loop.run c.loop.index c.loop-test.false c.loop.auto.index-end s,
      all_made g.S.Timetable.meaning first_ledger c.args.plan c.loop.run c.loop.index c.loop-test.false s k.ledger,
    )))
