use Rattle.std.proofs.Common.{◌∙◌, ◌+◌, ◌∷◌, ℕ, List, take, drop, ap, sym, Global}
use Rattle.std.specs.declared.string.String.{String}
use Rattle.std.proofs.lemmas.List.{take_rest}
use Rattle.command_line.specs.Requests.{parts}
use Rattle.command_line.proofs.PartLemmas.{found_at, found_none, parts_alone, parts_found, spelled}
use Rattle.command_line.proofs.reading.first_part.Goals as goal

pub returns-in-Some-clause-parts : goal.returns-in-Some-clause-parts
returns-in-Some-clause-parts c =
    let words = c.args.words.now in
    let found = found_at c.in-Some.n words (sym c.in-Some.is ∙ c.dashes_in.ensures) in
    parts_found words found.1
    ∙ ap (λ (n : ℕ). spelled (take n words) ∷ parts (spelled (drop (n + 1) words))) (sym found.0)
    ∙ ap (λ (rest : List (String Global)). spelled (take c.in-Some.n words) ∷ parts (spelled rest)) (sym (take_rest words (c.in-Some.n + 1)))

pub returns-in-None-clause-parts : goal.returns-in-None-clause-parts
returns-in-None-clause-parts c = parts_alone c.args.words.now (found_none c.args.words.now (sym c.in-None.is ∙ c.dashes_in.ensures))
