use Rattle.std.proofs.Common.{◌^◌, ◌≤◌, length, get_or, sym, ◌∙◌, arith}
use Rattle.std.proofs.lemmas.List.{at_drop_all}
use Rattle.forms.specs.Forms.{number_after}
use Rattle.forms.proofs.Steps.{digit_small, number_more, number_stop, ten_more, ten_cap}
use Rattle.forms.proofs.numbers.number.Goals as goal

pub returns-then-not-has : goal.returns-then-not-has
returns-then-not-has c =
    record {
      reads = sym (number_stop c.loop-b.n c.loop-b.b-index c.args.bytes.now c.loop-b-test.true c.if-not-has.ensures) ∙ c.loop-b.invariant.0;
      below = tt;
    }

pub overflow_mul-n : goal.overflow_mul-n
overflow_mul-n c = omega (arith, ten_cap c.loop-b.b-index 8 (omega arith))

pub overflow_sub-n : goal.overflow_sub-n
overflow_sub-n c = omega (arith, digit_small (get_or c.args.bytes.now c.loop-b.b-index 0) c.if-not-has.ensures)

pub overflow_add-n : goal.overflow_add-n
overflow_add-n c = omega (arith, ten_cap c.loop-b.b-index 8 (omega arith), digit_small (get_or c.args.bytes.now c.loop-b.b-index 0) c.if-not-has.ensures)

pub loop-b-preserved : goal.loop-b-preserved
loop-b-preserved c =
    let h = c.if-not-has.ensures in (
      sym (number_more c.loop-b.n c.loop-b.b-index c.args.bytes.now c.loop-b-test.true h) ∙ c.loop-b.invariant.0,
      omega (arith, ten_more c.loop-b.b-index, digit_small (get_or c.args.bytes.now c.loop-b.b-index 0) h),
    )

pub returns : goal.returns
returns c =
    record {
      reads = sym (at_drop_all (number_after c.loop-b.n) c.args.bytes.now c.loop-b.b-index c.loop-b-test.false) ∙ c.loop-b.invariant.0;
      below = let h : 10 ^ c.loop-b.b-index ≤ 10 ^ length c.args.bytes.now = ten_cap _ _ (omega arith) in omega arith;
    }
