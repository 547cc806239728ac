-- What holes with a width write.
use Rattle.std.proofs.Common.{◌≡◌, ℕ, ◌-◌, ◌^◌, length, decimal, arith, append-nil}
use Rattle.std.specs.Fmt.{styled_decimal, padded_integral, format_spec, char_count}
use Rattle.wording.specs.Texts.{in_digits}

-- what `{:02}` writes
pub two_digits : (n : ℕ) → styled_decimal (format_spec 32 0 4 2 (2 ^ 64 - 1)) n ≡ in_digits 2 n
unfolding padded_integral char_count
two_digits n =
    let short : 2 - length (decimal n) - 0 - 0 ≡ 2 - length (decimal n) = omega arith in
    rw (short, append-nil (decimal n))

-- what `{:05}` writes
pub five_digits : (n : ℕ) → styled_decimal (format_spec 32 0 4 5 (2 ^ 64 - 1)) n ≡ in_digits 5 n
unfolding padded_integral char_count
five_digits n =
    let short : 5 - length (decimal n) - 0 - 0 ≡ 5 - length (decimal n) = omega arith in
    rw (short, append-nil (decimal n))
