use Rattle.std.proofs.Common.{◌-◌, take, drop, ap, ◌∙◌}
use Rattle.ordered.proofs.Shifts.{shifted_out, rest_out}
use Rattle.ordered.proofs.shift.remove_at.Goals as goal

pub returns : goal.returns
returns g c = record {
  items = ap (take (c.args.len - 1)) c.copy_within.ensures.after ∙ shifted_out c.args.slots.now c.args.len c.args.place c.requires.within c.requires.fits;
  rest = ap (drop (c.args.len - 1)) c.copy_within.ensures.after ∙ rest_out c.args.slots.now c.args.len c.args.place c.requires.within c.requires.fits;
}
