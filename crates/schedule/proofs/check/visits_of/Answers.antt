use Rattle.std.proofs.Common.{rules, sym, ◌∙◌}
use Rattle.schedule.proofs.Steps.{visits_counted}
use Rattle.schedule.proofs.check.visits_of.Goals as goal

pub returns : goal.returns
returns c = search rules ∙ sym (visits_counted c.args.tiploc.now c.args.calls.now)
