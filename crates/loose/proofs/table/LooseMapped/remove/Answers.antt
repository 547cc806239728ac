use Rattle.std.proofs.Common.{length, refl, subst}
use Rattle.maps.specs.Places.{NoneOfKey, StandsFirstAt}
use Rattle.ordered.proofs.Edited.{removal_edited, kept_itself}
use Rattle.ordered.proofs.Laws.{lawful}
use Rattle.loose.proofs.Orders.{last_stands, all_stand}
use Rattle.loose.proofs.Piles.{removed_found, removed_passed, swap_apart}
use Rattle.loose.proofs.table.LooseMapped.remove.Goals as goal

pub invariant_of-self : goal.invariant_of-self
invariant_of-self g c =
    let found = subst (λ xs. StandsFirstAt g.E.Key.KeyOrder.before g.E.Keyed.keyed xs c.args.key c.in-Some.place) c.as_slice.ensures c.in-Some.ensures in
    record { distinct = swap_apart g.E.Key.KeyOrder.before g.E.Keyed.keyed (lawful g.met.E.Key.KeyOrder) _ _ _ _ found c.take_out.ensures.items c.args.self.now.distinct }

pub returns-in-Some-clause-removed : goal.returns-in-Some-clause-removed
returns-in-Some-clause-removed g c =
    let found = subst (λ xs. StandsFirstAt g.E.Key.KeyOrder.before g.E.Keyed.keyed xs c.args.key c.in-Some.place) c.as_slice.ensures c.in-Some.ensures in
    removed_found g.E.Key.KeyOrder.before g.E.Keyed.keyed (lawful g.met.E.Key.KeyOrder) _ _ _ _ found c.take_out.ensures.items c.args.self.now.distinct

pub returns-in-None-clause-removed : goal.returns-in-None-clause-removed
returns-in-None-clause-removed g c =
    removed_passed g.E.Key.KeyOrder.before g.E.Keyed.keyed (lawful g.met.E.Key.KeyOrder) _ _ c.args.key
    (subst (λ xs. NoneOfKey g.E.Key.KeyOrder.before g.E.Keyed.keyed xs c.args.key (length xs)) c.as_slice.ensures c.in-None.ensures) refl

pub returns-in-Some-clause-edited : goal.returns-in-Some-clause-edited
returns-in-Some-clause-edited g c =
    let found = subst (λ xs. StandsFirstAt g.E.Key.KeyOrder.before g.E.Keyed.keyed xs c.args.key c.in-Some.place) c.as_slice.ensures c.in-Some.ensures in
    removal_edited _ _ _ _ _ _ c.take_out.ensures.rest c.args.key (last_stands g.E.Key.KeyOrder.before g.E.Keyed.keyed (lawful g.met.E.Key.KeyOrder) _ _ _ _ found c.take_out.ensures.items)

pub returns-in-None-clause-edited : goal.returns-in-None-clause-edited
returns-in-None-clause-edited g c =
    removal_edited _ _ _ _ _ _ (kept_itself c.args.self.now.elements) c.args.key
    (all_stand g.E.Key.KeyOrder.before g.E.Keyed.keyed (lawful g.met.E.Key.KeyOrder) _ c.args.key
    (subst (λ xs. NoneOfKey g.E.Key.KeyOrder.before g.E.Keyed.keyed xs c.args.key (length xs)) c.as_slice.ensures c.in-None.ensures))
