use Rattle.std.proofs.Common.{sym, ap, ◌∙◌}
use Rattle.std.proofs.lemmas.Bool.{cond-true, cond-false, eq-eqb, ne_eqb}
use Rattle.std.proofs.lemmas.List.{at_drop_more}
use Rattle.cif.specs.declared.identity.Identity.TheVariants.{Header}
use Rattle.cif.specs.declared.identity.TheConstants.Identity.{LETTERS}
use Rattle.forms.specs.Letters.{case_of}
use Rattle.cif.proofs.identity.IdentityTryFromArrayU82.try_from.Goals as goal

-- the entry at hand has the letters
pub returns-then-own-number : goal.returns-then-own-number
returns-then-own-number c =
    let n = c.from_be_bytes-number.result in
    ap (case_of LETTERS) (sym c.from_be_bytes-number.ensures)
    ∙ c.loop-identity.invariant
    ∙ at_drop_more (λ ts. case_of ts n) LETTERS c.loop-identity.identity-index (Header, 0) c.loop-identity-test.true
    ∙ cond-true _ _ _ (eq-eqb _ _ c.if-own-number.true)

-- it has others
pub loop-identity-preserved : goal.loop-identity-preserved
loop-identity-preserved c =
    let n = c.from_be_bytes-number.result in
    c.loop-identity.invariant
    ∙ at_drop_more (λ ts. case_of ts n) LETTERS c.loop-identity.identity-index (Header, 0) c.loop-identity-test.true
    ∙ cond-false _ _ _ (ne_eqb _ _ c.if-own-number.false)
