use Rattle.std.proofs.Common.{arith, ◌≤◌, ◌∙◌, ap, sym}
use Rattle.std.specs.Prelude.{Some}
use Rattle.std.specs.Str.Parse.{digits_value, without_leading_plus}
use Rattle.command_line.proofs.Numbers.{number_up_to-none, number_up_to-some}
use Rattle.command_line.proofs.matches.number_up_to.Goals as goal

pub returns-then-number-most : goal.returns-then-number-most
returns-then-number-most c =
    let parsed = c.in-Ok.ensures.value.0 in
    let within : digits_value 10 (without_leading_plus c.args.word.now) ≤ c.args.most = omega (arith, parsed.1, c.if-number-most.true) in
    ap Some parsed.1 ∙ sym (number_up_to-some c.args.most c.args.word.now parsed.0.0 parsed.0.1 within)

pub returns-in-Err : goal.returns-in-Err
returns-in-Err c = sym (number_up_to-none c.args.most c.args.word.now (λ numeral within. c.in-Err.ensures.value.0 numeral))
