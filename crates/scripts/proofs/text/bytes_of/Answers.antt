use Rattle.std.proofs.Common.{List, ℕ, ◌++◌, ap, sym, ◌∙◌}
use Rattle.std.specs.Option.{option_map}
use Rattle.scripts.specs.Texts.{bytes_of}
use Rattle.scripts.proofs.Meaning.{turn_more}
use Rattle.scripts.proofs.text.bytes_of.Goals as goal

pub loop-rest-preserved : goal.loop-rest-preserved
loop-rest-preserved c =
    let step = turn_more c.loop-rest.bytes.items c.loop-rest.rest.now c.in-Some.others.now c.in-Some.byte (sym c.in-Some.ensures.first) in
    ap (λ (xs : List ℕ). option_map (λ bs. xs ++ bs) (bytes_of c.in-Some.others.now)) c.in_ok-push.ensures.items ∙ (step ∙ c.loop-rest.invariant)
