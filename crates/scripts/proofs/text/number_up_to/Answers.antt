use Rattle.std.proofs.Common.{sym, ◌∙◌, arith}
use Rattle.scripts.proofs.Meaning.{up_to_reads, too_large_at}
use Rattle.scripts.proofs.text.number_up_to.Goals as goal

pub returns-then-number-from-clause-value : goal.returns-then-number-from-clause-value
returns-then-number-from-clause-value c =
    let digits = c.args.digits.now in
    sym (
    up_to_reads c.args.most digits (omega arith) ∙ sym c.loop-digit.invariant.0
    ∙ too_large_at c.loop-digit.number c.loop-digit.digit-index c.args.most digits c.loop-digit-test.true c.if-not-is_ascii_digit.ensures.value (omega arith)
    )
