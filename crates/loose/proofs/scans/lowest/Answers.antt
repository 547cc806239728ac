use Rattle.std.proofs.Common.{◌≡◌, refl, subst, rules}
use Rattle.std.proofs.lemmas.Fn.{fold_over, slice_gives, fronts}
use Rattle.maps.specs.Maps.{ceiling, map_from}
use Rattle.maps.proofs.Lowest.{ceiling_push}
use Rattle.ordered.proofs.Laws.{lawful}
use Rattle.loose.proofs.scans.lowest.Goals as goal

pub returns : goal.returns
returns g c =
    subst (λ l. c.fold.result ≡ ceiling g.E.Key.KeyOrder.before g.E.Keyed.keyed (map_from g.E.Key.KeyOrder.before g.E.Keyed.keyed l) c.args.probe) c.iter.ensures.rest
    (fold_over fronts (λ y. y.now) _ (λ ys o. o ≡ ceiling g.E.Key.KeyOrder.before g.E.Keyed.keyed (map_from g.E.Key.KeyOrder.before g.E.Keyed.keyed ys) c.args.probe) _
    (λ ys a x b f' j k. let more = ceiling_push g.E.Key.KeyOrder.before g.E.Keyed.keyed (lawful g.met.E.Key.KeyOrder) ys x.now c.args.probe in search rules)
    _ _ _ _ (slice_gives c.iter.result) refl c.fold.ensures.ran)
