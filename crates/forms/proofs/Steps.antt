-- One turn of the loop over digits.
use Rattle.std.proofs.Common.{◌≡◌, ℕ, ◌+◌, ◌-◌, ◌*◌, ◌^◌, ◌<◌, ◌≤◌, true, false, List, length, get_or, drop, None, sym, ◌∙◌, pow-suc, add-one, arith, lit<}
use Rattle.std.proofs.lemmas.List.{at_drop_more}
use native.Mathlib.Nat.{pow-le-pow_right}
use Rattle.std.proofs.lemmas.Bool.{cond-true, cond-false}
use Rattle.std.proofs.lemmas.Bool.Decides.{nat_tests}
use Rattle.forms.specs.Bytes.{is_digit}
use Rattle.forms.specs.Forms.{number_after}

-- a digit is taken into the number
pub number_more : (n i : ℕ) (cs : List ℕ) → i < length cs → true ≡ is_digit (get_or cs i 0) → number_after n (drop i cs) ≡ number_after (n * 10 + (get_or cs i 0 - 48)) (drop (i + 1) cs)
number_more n i cs l h = at_drop_more (number_after n) cs i 0 l ∙ cond-true (is_digit (get_or cs i 0)) _ _ (sym h)

-- and any other byte ends the reading
pub number_stop : (n i : ℕ) (cs : List ℕ) → i < length cs → false ≡ is_digit (get_or cs i 0) → number_after n (drop i cs) ≡ None
number_stop n i cs l h = at_drop_more (number_after n) cs i 0 l ∙ cond-false (is_digit (get_or cs i 0)) _ _ (sym h)

pub digit_small : (c : ℕ) → true ≡ is_digit c → (48 ≤ c) × (c ≤ 57)
digit_small c h = (grind (arith, nat_tests), grind (arith, nat_tests))

pub ten_more : (i : ℕ) → 10 ^ (i + 1) ≡ 10 ^ i * 10
ten_more i = rw add-one (pow-suc 10 i)

pub ten_cap : (i k : ℕ) → i ≤ k → 10 ^ i ≤ 10 ^ k
ten_cap i k h = pow-le-pow_right {n = 10} (lit< tt) h
