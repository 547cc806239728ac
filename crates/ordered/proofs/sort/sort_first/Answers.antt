use Rattle.std.proofs.Common.{rules, ◌++◌, take, drop, ap, sym, ◌∙◌}
use Rattle.std.proofs.Math.Seq.{take-append_seam}
use Rattle.std.proofs.lemmas.List.{length-take-le}
use Rattle.std.proofs.lemmas.Fn.{always_returns_same}
use Rattle.ordered.proofs.Sorts.{weak_order, sorted_gathered}
use Rattle.ordered.proofs.Laws.{lawful}
use Rattle.ordered.proofs.sort.sort_first.Goals as goal

pub returns-clause-items : goal.returns-clause-items
returns-clause-items g c = λ a.
    let law = lawful g.met.E.Key.KeyOrder in
    let xs = take c.args.len c.args.slots.now in
    let ys = c.sort_unstable_by.new.self in
    let long = c.sort_unstable_by.ensures.len ∙ length-take-le c.args.len c.args.slots.now c.requires in
    ap (λ n. take n (ys ++ drop c.args.len c.args.slots.now)) (sym long)
    ∙ take-append_seam ys (drop c.args.len c.args.slots.now)
    ∙ sorted_gathered g.E.Key.KeyOrder.before g.E.Keyed.keyed law xs ys a c.sort_unstable_by.ensures.permutation
    (c.sort_unstable_by.ensures.sorted _ (weak_order g.E.Key.KeyOrder.before g.E.Keyed.keyed law) (always_returns_same _ _ _ (λ a r f' k. search rules)))
