use Rattle.std.proofs.Common.{refl, rules}
use Rattle.ordered.proofs.Whole.{same_slots}
use Rattle.ordered.proofs.Halves.{found_front}
use Rattle.ordered.proofs.slots.Slots.seek.Goals as goal

pub returns-clause-same : goal.returns-clause-same
returns-clause-same g c = same_slots _ _ (search rules) refl

pub returns-clause-found : goal.returns-clause-found
returns-clause-found g c = λ up. found_front g.E.Key.KeyOrder.before g.E.Keyed.keyed c.args.self.now up c.lower_bound.result c.lower_bound.ensures.within c.lower_bound.ensures.found
