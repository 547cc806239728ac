use Rattle.std.proofs.Common.{ℕ, ◌+◌, not, rules, ap, ◌∙◌}
use Rattle.std.specs.Option.{option_map}
use Rattle.std.proofs.lemmas.Iterator.{YieldsList-from_slice}
use Rattle.std.proofs.lemmas.Iterator.Adapters.{position_from-zero}
use Rattle.std.proofs.lemmas.Iterator.Search.{position_from_yields_List}
use Rattle.cif.specs.Rows.{is_printable}
use Rattle.cif.proofs.whole.first_bad.Goals as goal

pub returns-in_err-index : goal.returns-in_err-index
returns-in_err-index c =
    c.from_residual.ensures
    ∙ ap (option_map (λ (i : ℕ). i + 1))
    (position_from_yields_List (λ b. not (is_printable b)) _ _ _ c.in_err-index.ensures.ran (YieldsList-from_slice c.args.bytes.now cc) (λ x b q k. search rules)
    ∙ position_from-zero (λ b. not (is_printable b)) c.args.bytes.now)

pub returns : goal.returns
returns c =
    ap (option_map (λ (i : ℕ). i + 1))
    (position_from_yields_List (λ b. not (is_printable b)) _ _ _ c.in_ok-index.ensures.ran (YieldsList-from_slice c.args.bytes.now cc) (λ x b q k. search rules)
    ∙ position_from-zero (λ b. not (is_printable b)) c.args.bytes.now)
