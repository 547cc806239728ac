use Rattle.std.proofs.Common.{rules, ◌≡◌, option_map, List, ℕ, sym, ◌∙◌, Bor}
use Rattle.scripts.specs.Lines.{meaning_in, meaning_by_word}
use Rattle.scripts.proofs.Words.{meaning_by, no_word}
use Rattle.scripts.proofs.reading.script_line.Goals as goal
use Rattle.scripts.proofs.reading.script_line.Goals.{After-split_blank}

by_word : (c : After-split_blank) → meaning_in c.args.line.now ≡ meaning_by_word c.split_blank.result.0.now (option_map {T = Bor (List ℕ)} {U = List ℕ} (λ r. r.now) c.split_blank.result.1)
by_word c =
    let from = meaning_by c.args.line.now (search rules) (search rules) in
    let w = c.split_blank.ensures.word in
    let b = c.split_blank.ensures.behind in
    cc

pub returns-in_default : goal.returns-in_default
returns-in_default c = sym (by_word (goal.at.returns-in_default c).After-split_blank ∙ no_word _ (option_map {T = Bor (List ℕ)} {U = List ℕ} (λ r. r.now) c.split_blank.result.1) c.in_default.ensures.cases.0)

pub returns : goal.returns
returns c = let e = by_word (goal.at.returns c).After-split_blank in rw e (search rules)
