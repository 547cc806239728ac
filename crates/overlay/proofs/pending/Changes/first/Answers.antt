use Rattle.std.proofs.Common.{arith}
use Rattle.std.proofs.lemmas.List.{length-take-le}
use Rattle.overlay.proofs.Counts.{lawful_take}
use Rattle.overlay.proofs.pending.Changes.first.Goals as goal

pub invariant_of-result : goal.invariant_of-result
invariant_of-result c =
    let n = length-take-le c.args.n c.args.self.now.list.now c.requires in
    let few = c.args.self.now.few in
    record { few = (let r = c.requires in omega arith); lawful = lawful_take c.args.n c.args.self.now.list.now c.args.self.now.lawful }
