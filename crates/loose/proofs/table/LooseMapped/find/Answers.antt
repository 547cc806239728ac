use Rattle.std.proofs.Common.{slice_get, sym, ap, ◌∙◌}
use Rattle.maps.specs.Maps.{lookup}
use Rattle.maps.proofs.Maps.{lookup_gathered}
use Rattle.maps.proofs.Heaped.{passed_lookup}
use Rattle.ordered.proofs.Laws.{lawful}
use Rattle.loose.proofs.Piles.{found_get}
use Rattle.loose.proofs.Whole.{same_loose}
use Rattle.loose.proofs.table.LooseMapped.find.Goals as goal

pub returns-in-Some-clause-held : goal.returns-in-Some-clause-held
returns-in-Some-clause-held g c =
    c.get.ensures.value
    ∙ ap (λ xs. slice_get xs c.in-Some.place) (sym c.as_slice.ensures)
    ∙ found_get g.E.Key.KeyOrder.before g.E.Keyed.keyed (lawful g.met.E.Key.KeyOrder) _ _ _ c.in-Some.ensures
    ∙ ap (λ xs. lookup g.E.Key.KeyOrder.before g.E.Keyed.keyed xs c.args.key) c.as_slice.ensures

pub returns-in-Some-clause-value : goal.returns-in-Some-clause-value
returns-in-Some-clause-value g c = returns-in-Some-clause-held g c ∙ sym (lookup_gathered g.E.Key.KeyOrder.before g.E.Keyed.keyed (lawful g.met.E.Key.KeyOrder) _ c.args.key)

pub returns-in-Some-clause-same : goal.returns-in-Some-clause-same
returns-in-Some-clause-same g c = same_loose _ _ c.get.ensures.same

pub returns-in-None-clause-held : goal.returns-in-None-clause-held
returns-in-None-clause-held g c =
    sym (passed_lookup g.E.Key.KeyOrder.before g.E.Keyed.keyed (lawful g.met.E.Key.KeyOrder) _ c.args.key c.in-None.ensures)
    ∙ ap (λ xs. lookup g.E.Key.KeyOrder.before g.E.Keyed.keyed xs c.args.key) c.as_slice.ensures

pub returns-in-None-clause-value : goal.returns-in-None-clause-value
returns-in-None-clause-value g c = returns-in-None-clause-held g c ∙ sym (lookup_gathered g.E.Key.KeyOrder.before g.E.Keyed.keyed (lawful g.met.E.Key.KeyOrder) _ c.args.key)
