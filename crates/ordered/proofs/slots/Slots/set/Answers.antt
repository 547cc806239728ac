use Rattle.ordered.proofs.Shifts.{take_set_in}
use Rattle.ordered.proofs.slots.Slots.set.Goals as goal

pub returns-then-place-self-clause-items : goal.returns-then-place-self-clause-items
returns-then-place-self-clause-items g c = take_set_in c.args.self.now.len c.args.self.now.slots.now c.args.place c.args.entry
