use Rattle.std.proofs.Common.{◌≡◌, ◌+◌, ℕ, cond, eqb, ltb, List, length, take, drop, Some, None, ap, ◌∙◌, sym, rules}
use borrow.Author.Tests.{tests}
use Rattle.std.proofs.lemmas.List.{take_rest}
use Rattle.std.proofs.lemmas.Iterator.{YieldsList-from_slice}
use Rattle.std.proofs.lemmas.Iterator.Search.{position_from_yields_List}
use Rattle.scripts.proofs.Words.{blank_in, word_before, found_behind, whole_word, nothing_behind, found_at, found_none}
use Rattle.scripts.proofs.text.split_blank.Goals as goal
use Rattle.scripts.proofs.text.split_blank.Goals.{After-position}

place : (c : After-position) → c.position.result ≡ cond (ltb (blank_in c.args.line.now) (length c.args.line.now)) (Some (blank_in c.args.line.now)) None
place c = position_from_yields_List (λ b. eqb b 32) _ _ c.position.result c.position.ensures.ran (YieldsList-from_slice c.args.line.now cc) (λ x b q k. search (rules, tests))

pub returns-in-Some-clause-word : goal.returns-in-Some-clause-word
returns-in-Some-clause-word c =
    let found = found_at _ _ _ (sym c.in-Some.is ∙ place (goal.at.returns-in-Some-clause-word c).After-position) in
    ap (λ (n : ℕ). take n c.args.line.now) found.0 ∙ word_before c.args.line.now

pub returns-in-Some-clause-behind : goal.returns-in-Some-clause-behind
returns-in-Some-clause-behind c =
    let line = c.args.line.now in
    let found = found_at _ _ _ (sym c.in-Some.is ∙ place (goal.at.returns-in-Some-clause-behind c).After-position) in
    ap (λ (xs : List ℕ). Some xs) (take_rest line (c.in-Some.n + 1)) ∙ ap (λ (n : ℕ). Some (drop (n + 1) line)) found.0 ∙ found_behind line found.1

pub returns-in-None-clause-word : goal.returns-in-None-clause-word
returns-in-None-clause-word c = whole_word c.args.line.now (found_none _ _ (sym c.in-None.is ∙ place (goal.at.returns-in-None-clause-word c).After-position))

pub returns-in-None-clause-behind : goal.returns-in-None-clause-behind
returns-in-None-clause-behind c = nothing_behind c.args.line.now (found_none _ _ (sym c.in-None.is ∙ place (goal.at.returns-in-None-clause-behind c).After-position))
