use Rattle.std.proofs.Common.{◌≡◌, ◌+◌, ℕ, Bool, true, false, not, cond, eqb, List, take, drop, ap, ◌∙◌, sym, refl, rules, arith}
use borrow.Author.Tests.{tests}
use Rattle.std.specs.List.{position_or_len}
use Rattle.std.proofs.lemmas.Iterator.{YieldsList-from_slice, IsFirst-from_position, index_from_first}
use Rattle.files.proofs.Splits.{row_before, rest_after}
use Rattle.files.proofs.row_length.Goals as goal

pub returns : goal.returns
returns c =
    let is_feed = λ (b : ℕ). eqb b 10 in
    let first =
    IsFirst-from_position _ _ c.position.result (λ b. is_feed b ≡ true) (λ b. is_feed b ≡ false) c.position.ensures.ran (YieldsList-from_slice c.args.bytes.now cc) (λ x q k. search (rules, tests)) (λ x q k. search (rules, tests))
    in
    let at_feed = λ (x : ℕ) (xs : List ℕ) (yes : is_feed x ≡ true). ap (λ (b : Bool). cond (not b) (1 + position_or_len is_feed xs) 0) yes in
    let past = λ (x : ℕ) (xs : List ℕ) (no : is_feed x ≡ false). ap (λ (b : Bool). cond (not b) (1 + position_or_len is_feed xs) 0) no ∙ omega arith in
    let place : c.unwrap_or.result ≡ position_or_len is_feed c.args.bytes.now =
    c.unwrap_or.ensures ∙ sym (index_from_first (position_or_len is_feed) (λ b. is_feed b ≡ true) (λ b. is_feed b ≡ false) refl at_feed past c.args.bytes.now _ first)
    in
    record {
      within = search rules;
      row = ap (λ (n : ℕ). take n c.args.bytes.now) place ∙ row_before c.args.bytes.now;
      rest = ap (λ (n : ℕ). drop (n + 1) c.args.bytes.now) place ∙ rest_after c.args.bytes.now;
    }
