-- The number that a word writes.
use Rattle.std.proofs.Common.{◌≡◌, ℕ, ◌<◌, ◌≤◌, ◌^◌, Bool, true, false, refl, arith}
use Rattle.std.specs.Prelude.{Some, None}
use Rattle.std.specs.Str.Parse.{IsNumeral, digits_value, without_leading_plus}
use Rattle.clap.specs.Walk.{Text}
use Rattle.clap.specs.ValueTests.{is_unsigned_in}
use Rattle.clap.specs.declared.builder.value_parser.ValueParser.TheVariants as vp
use Rattle.clap.proofs.ValueTestLemmas.{Accepts-accepts, accepts-Accepts}
use Rattle.command_line.specs.Requests.{number_up_to}

-- a word that writes a number up to the limit
pub number_up_to-some : (most : ℕ) (word : Text) → IsNumeral 10 (without_leading_plus word)
    → digits_value 10 (without_leading_plus word) < 2 ^ 64 → digits_value 10 (without_leading_plus word) ≤ most
    → number_up_to most word ≡ Some (digits_value 10 (without_leading_plus word))
number_up_to-some most word numeral fits within =
    let taken : is_unsigned_in 0 most word ≡ true = Accepts-accepts false (vp.Unsigned 0 most) word (numeral, fits, omega arith, within) in
    rw taken refl

-- a word that writes none, or one above the limit
pub number_up_to-none : (most : ℕ) (word : Text)
    → (IsNumeral 10 (without_leading_plus word) × (digits_value 10 (without_leading_plus word) < 2 ^ 64)
    → digits_value 10 (without_leading_plus word) ≤ most → ⊥)
    → number_up_to most word ≡ None
number_up_to-none most word none = go (is_unsigned_in 0 most word) refl
  where
    go : (b : Bool) → is_unsigned_in 0 most word ≡ b → number_up_to most word ≡ None
    go true e = let taken = accepts-Accepts false (vp.Unsigned 0 most) word e in absurd (none (taken.0, taken.1) taken.3)
    go false e = rw e refl
