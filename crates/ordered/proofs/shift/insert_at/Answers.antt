use Rattle.std.proofs.Common.{◌+◌, take, drop, set, ap, ◌∙◌}
use Rattle.ordered.proofs.Shifts.{shifted_in, rest_in}
use Rattle.ordered.proofs.shift.insert_at.Goals as goal

pub returns : goal.returns
returns g c = record {
  items =
      ap (λ t. take (c.args.len + 1) (set t c.args.place c.args.entry)) c.copy_within.ensures.after
      ∙ shifted_in c.args.slots.now c.args.len c.args.place c.args.entry c.requires.within c.requires.room;
  rest =
      ap (λ t. drop (c.args.len + 1) (set t c.args.place c.args.entry)) c.copy_within.ensures.after
      ∙ rest_in c.args.slots.now c.args.len c.args.place c.args.entry c.requires.within c.requires.room;
}
