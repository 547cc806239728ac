use Rattle.std.proofs.Common.{sym, ◌∙◌}
use Rattle.maps.proofs.Heaped.{length_gathered}
use Rattle.ordered.proofs.Laws.{lawful}
use Rattle.loose.proofs.Whole.{same_loose}
use Rattle.loose.proofs.table.LooseMapped.len.Goals as goal

pub returns-clause-value : goal.returns-clause-value
returns-clause-value g c = c.len.ensures.value ∙ sym (length_gathered g.E.Key.KeyOrder.before g.E.Keyed.keyed (lawful g.met.E.Key.KeyOrder) _ c.args.self.now.distinct)

pub returns-clause-same : goal.returns-clause-same
returns-clause-same g c = same_loose _ _ c.len.ensures.same
