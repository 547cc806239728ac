use Rattle.std.proofs.Common.{true, is_ok, length, subst, ap, ◌∙◌}
use Rattle.std.proofs.lemmas.Result.{on_err_weaker}
use Rattle.maps.specs.Places.{NoneOfKey, StandsFirstAt}
use Rattle.ordered.specs.Tables.{items}
use Rattle.ordered.proofs.Edited.{put_edited}
use Rattle.ordered.proofs.Laws.{lawful}
use Rattle.loose.proofs.Orders.{stands_in_place, stands_last, placed}
use Rattle.loose.proofs.Piles.{put_found, found_apart, put_passed, passed_apart}
use Rattle.loose.proofs.Whole.{same_loose}
use Rattle.loose.proofs.table.LooseMapped.put.Goals as goal

pub invariant_of-self : goal.invariant_of-self
invariant_of-self g c =
    let found = subst (λ xs. StandsFirstAt g.E.Key.KeyOrder.before g.E.Keyed.keyed xs c.key.result c.in-Some.place) c.as_slice.ensures c.in-Some.ensures in
    record { distinct = found_apart g.E.Key.KeyOrder.before g.E.Keyed.keyed (lawful g.met.E.Key.KeyOrder) _ _ _ _ _ c.key.ensures found c.set.ensures.items c.args.self.now.distinct }

pub invariant_of-self-in-None : goal.invariant_of-self-in-None
invariant_of-self-in-None g c =
    let passed = subst (λ xs. NoneOfKey g.E.Key.KeyOrder.before g.E.Keyed.keyed xs c.key.result (length xs)) c.as_slice.ensures c.in-None.ensures in
    record { distinct = passed_apart g.E.Key.KeyOrder.before g.E.Keyed.keyed (lawful g.met.E.Key.KeyOrder) _ _ _ _ c.try_push.result c.args.self.now.distinct c.key.ensures passed c.try_push.ensures.items (on_err_weaker c.try_push.result (ap items) c.try_push.ensures.unchanged) }

pub returns-in-Some-clause-put : goal.returns-in-Some-clause-put
returns-in-Some-clause-put g c =
    let found = subst (λ xs. StandsFirstAt g.E.Key.KeyOrder.before g.E.Keyed.keyed xs c.key.result c.in-Some.place) c.as_slice.ensures c.in-Some.ensures in
    put_found g.E.Key.KeyOrder.before g.E.Keyed.keyed (lawful g.met.E.Key.KeyOrder) _ _ _ _ _ _ c.key.ensures found c.set.ensures.items

pub returns-in-None-clause-put : goal.returns-in-None-clause-put
returns-in-None-clause-put g c =
    let passed = subst (λ xs. NoneOfKey g.E.Key.KeyOrder.before g.E.Keyed.keyed xs c.key.result (length xs)) c.as_slice.ensures c.in-None.ensures in
    put_passed g.E.Key.KeyOrder.before g.E.Keyed.keyed (lawful g.met.E.Key.KeyOrder) _ _ _ _ _ c.try_push.result c.args.self.now.distinct c.key.ensures passed c.try_push.ensures.done c.try_push.ensures.items (on_err_weaker c.try_push.result (ap items) c.try_push.ensures.unchanged)

pub returns-in-None-clause-unchanged : goal.returns-in-None-clause-unchanged
returns-in-None-clause-unchanged g c = on_err_weaker c.try_push.result (same_loose _ _) c.try_push.ensures.unchanged

pub returns-in-Some-clause-edited : goal.returns-in-Some-clause-edited
returns-in-Some-clause-edited g c =
    let order = lawful g.met.E.Key.KeyOrder in
    let found = subst (λ xs. StandsFirstAt g.E.Key.KeyOrder.before g.E.Keyed.keyed xs c.key.result c.in-Some.place) c.as_slice.ensures c.in-Some.ensures in
    put_edited _ _ _ _ _ _ c.set.ensures.rest c.args.entry true
    ((returns-in-Some-clause-put g c).done ∙ placed g.E.Key.KeyOrder.before g.E.Keyed.keyed order _ _ _ c.args.self.now.distinct)
    (stands_in_place g.E.Key.KeyOrder.before g.E.Keyed.keyed order _ _ _ _ _ c.key.ensures found c.set.ensures.items)

pub returns-in-None-clause-edited : goal.returns-in-None-clause-edited
returns-in-None-clause-edited g c =
    let order = lawful g.met.E.Key.KeyOrder in
    let passed = subst (λ xs. NoneOfKey g.E.Key.KeyOrder.before g.E.Keyed.keyed xs c.key.result (length xs)) c.as_slice.ensures c.in-None.ensures in
    put_edited _ _ _ _ _ _ c.try_push.ensures.rest c.args.entry (is_ok c.try_push.result)
    ((returns-in-None-clause-put g c).done ∙ placed g.E.Key.KeyOrder.before g.E.Keyed.keyed order _ _ _ c.args.self.now.distinct)
    (stands_last g.E.Key.KeyOrder.before g.E.Keyed.keyed order _ _ _ _ c.try_push.result c.key.ensures passed c.try_push.ensures.items (on_err_weaker c.try_push.result (ap items) c.try_push.ensures.unchanged))
