use Rattle.std.proofs.Common.{rules, ◌∙◌}
use Rattle.std.proofs.lemmas.List.{length-take-le}
use Rattle.ordered.proofs.Changes.{key_there}
use Rattle.ordered.proofs.Laws.{lawful}
use Rattle.ordered.proofs.Whole.{same_ordered}
use Rattle.ordered.proofs.table.OrderedMapped.not_before.Goals as goal

pub returns-clause-value : goal.returns-clause-value
returns-clause-value g c =
    let s = c.args.self.now.elements in
    let found = c.seek-place.ensures.found c.args.self.now.rising in
    let there = key_there g.E.Key.KeyOrder.before g.E.Keyed.keyed (lawful g.met.E.Key.KeyOrder) _ s.len c.seek-place.result _ c.get.result (length-take-le s.len s.slots.now s.fits) c.seek-place.ensures.within found.under found.over (search (rules, c.get.ensures.value, c.seek-place.ensures.same)) in
    search rules

pub returns-clause-same : goal.returns-clause-same
returns-clause-same g c = same_ordered _ _ (c.get.ensures.same ∙ c.seek-place.ensures.same)
