use Rattle.overlay.proofs.Settled.{lawful_at}
use Rattle.overlay.proofs.settling.settle_all.Goals as goal

pub settle_one-requires : goal.settle_one-requires
settle_one-requires g c = record { lawful = lawful_at c.args.changes.now.list.now c.loop-change.change-index _ c.args.changes.now.lawful c.loop-change-test.true }
