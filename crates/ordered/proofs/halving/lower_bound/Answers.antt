use Rattle.std.proofs.Common.{sym, ap, ◌∙◌, arith}
use Rattle.ordered.proofs.Halves.{under_more, over_less}
use Rattle.ordered.proofs.Laws.{lawful}
use Rattle.ordered.proofs.halving.lower_bound.Goals as goal

pub loop-low-preserved-then-is_before : goal.loop-low-preserved-then-is_before
loop-low-preserved-then-is_before g c = (
  omega arith,
  c.loop-low.invariant.1,
  c.loop-low.invariant.2,
  λ fits rising. (
    under_more g.E.Key.KeyOrder.before g.E.Keyed.keyed (lawful g.met.E.Key.KeyOrder) c.args.slots.now c.args.len fits rising c.args.key _ (omega arith) c.index-slots-mid.result
        (ap (λ x. g.E.Key.KeyOrder.before x c.args.key) (sym c.key.ensures) ∙ sym c.is_before.ensures ∙ c.if-is_before.true),
    (c.loop-low.invariant.3 fits rising).1,
  ),
)

pub loop-low-preserved : goal.loop-low-preserved
loop-low-preserved g c = (
  omega arith,
  omega arith,
  omega arith,
  λ fits rising. (
    (c.loop-low.invariant.3 fits rising).0,
    over_less g.E.Key.KeyOrder.before g.E.Keyed.keyed (lawful g.met.E.Key.KeyOrder) c.args.slots.now c.args.len fits rising c.args.key _ (omega arith) c.index-slots-mid.result
        (ap (λ x. g.E.Key.KeyOrder.before x c.args.key) (sym c.key.ensures) ∙ sym c.is_before.ensures ∙ c.if-is_before.false),
  ),
)
