use Rattle.std.proofs.Common.{ap, ◌∙◌, subst}
use Rattle.std.specs.List.{remove}
use Rattle.ordered.specs.Tables.{items, RestKept}
use Rattle.ordered.proofs.Edited.{removal_edited, kept_itself}
use Rattle.ordered.proofs.Changes.{removed_hit, removed_miss, without_rises}
use Rattle.ordered.proofs.Laws.{lawful}
use Rattle.ordered.proofs.Whole.{same_ordered}
use Rattle.ordered.proofs.table.OrderedMapped.remove.Goals as goal

pub returns-in-Ok-clause-removed : goal.returns-in-Ok-clause-removed
returns-in-Ok-clause-removed g c =
    removed_hit (lawful g.met.E.Key.KeyOrder) _ _ _ _ (c.in-Ok.ensures.place c.args.self.now.rising)
    (c.remove.ensures.items ∙ ap (λ s. remove (items s) c.in-Ok.place) c.in-Ok.ensures.same)

pub invariant_of-self : goal.invariant_of-self
invariant_of-self g c = record {
  rising =
      without_rises (lawful g.met.E.Key.KeyOrder) _ _ _ _ (c.in-Ok.ensures.place c.args.self.now.rising)
      (c.remove.ensures.items ∙ ap (λ s. remove (items s) c.in-Ok.place) c.in-Ok.ensures.same) c.args.self.now.rising;
}

pub returns-in-Err-clause-removed : goal.returns-in-Err-clause-removed
returns-in-Err-clause-removed g c = removed_miss (lawful g.met.E.Key.KeyOrder) _ _ _ _ c.args.self.now.rising (c.in-Err.ensures.place c.args.self.now.rising) (ap items c.in-Err.ensures.same)

pub returns-in-Err-clause-unchanged : goal.returns-in-Err-clause-unchanged
returns-in-Err-clause-unchanged g c = same_ordered _ _ c.in-Err.ensures.same

pub returns-in-Ok-clause-edited : goal.returns-in-Ok-clause-edited
returns-in-Ok-clause-edited g c = removal_edited _ _ _ _ _ _ (subst (λ s. RestKept s c.remove.new.self) c.in-Ok.ensures.same c.remove.ensures.rest) c.args.key (returns-in-Ok-clause-removed g c).gives

pub returns-in-Err-clause-edited : goal.returns-in-Err-clause-edited
returns-in-Err-clause-edited g c = removal_edited _ _ _ _ _ _ (subst (λ s. RestKept s c.search.new.self) c.in-Err.ensures.same (kept_itself c.search.new.self)) c.args.key (returns-in-Err-clause-removed g c).gives
