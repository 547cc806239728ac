use Rattle.std.proofs.Common.{slice_get, sym, ap, ◌∙◌}
use Rattle.maps.proofs.Sorted.{miss_lookup}
use Rattle.ordered.specs.Tables.{items}
use Rattle.ordered.proofs.Changes.{hit_get}
use Rattle.ordered.proofs.Laws.{lawful}
use Rattle.ordered.proofs.Whole.{same_ordered}
use Rattle.ordered.proofs.table.OrderedMapped.find.Goals as goal

pub returns-in-Ok-clause-value : goal.returns-in-Ok-clause-value
returns-in-Ok-clause-value g c =
    c.get.ensures.value
    ∙ ap (λ s. slice_get (items s) c.in-Ok.place) c.in-Ok.ensures.same
    ∙ hit_get (lawful g.met.E.Key.KeyOrder) _ _ _ (c.in-Ok.ensures.place c.args.self.now.rising)

pub returns-in-Ok-clause-same : goal.returns-in-Ok-clause-same
returns-in-Ok-clause-same g c = same_ordered _ _ (c.get.ensures.same ∙ c.in-Ok.ensures.same)

pub returns-in-Err-clause-value : goal.returns-in-Err-clause-value
returns-in-Err-clause-value g c = sym (miss_lookup _ _ (lawful g.met.E.Key.KeyOrder) _ _ _ c.args.self.now.rising (c.in-Err.ensures.place c.args.self.now.rising))

pub returns-in-Err-clause-same : goal.returns-in-Err-clause-same
returns-in-Err-clause-same g c = same_ordered _ _ c.in-Err.ensures.same
