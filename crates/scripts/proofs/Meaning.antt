-- What texts and digits stand for, step by step.
use Rattle.std.proofs.Common.{◌≡◌, ℕ, ◌+◌, ◌-◌, ◌*◌, ◌<◌, Bool, true, false, cond, List, get_or, drop, [], ◌∷◌, ◌++◌, length, Some, None, Option, refl, ap, sym, ◌∙◌, append_assoc, arith}
use Rattle.std.specs.Option.{option_map}
use Rattle.std.proofs.lemmas.List.{at_drop_more}
use Rattle.std.proofs.lemmas.Bool.{cond-true}
use Rattle.std.proofs.lemmas.Bool.Decides.{nat_tests}
use Rattle.std.specs.Prelude.{◌==◌}
use Rattle.forms.specs.Bytes.{is_digit, and_then}
use Rattle.forms.specs.Forms.{number_after}
use Rattle.scripts.specs.Texts.{hex_byte, first_byte_of, escaped, bytes_of, escaped_bytes_of, at_most, number_up_to}

-- a byte with a rest is told apart from every other, and from none
pub same_first : (x b : ℕ) (xs rest : List ℕ) → ◌≡◌ {A = Option (ℕ × List ℕ)} (Some (x, xs)) (Some (b, rest)) → option_map (λ bs. x ∷ bs) (bytes_of xs) ≡ option_map (λ bs. b ∷ bs) (bytes_of rest)
same_first x b xs rest e =
    let pair : ◌≡◌ {A = ℕ × List ℕ} (x, xs) (b, rest) = cc in
    let p : x ≡ b = ap (λ (v : ℕ × List ℕ). v.0) pair in
    let q : xs ≡ rest = ap (λ (v : ℕ × List ℕ). v.1) pair in
    ap (λ (y : ℕ). option_map (λ bs. y ∷ bs) (bytes_of xs)) p ∙ ap (λ (ys : List ℕ). option_map (λ bs. b ∷ bs) (bytes_of ys)) q

pub no_first : (x : ℕ) (xs : List ℕ) → ◌≡◌ {A = Option (ℕ × List ℕ)} (Some (x, xs)) None → ⊥
no_first x xs e = cc

-- behind a `\`, the first byte and then the rest
pub bytes_behind : (text : List ℕ) (b : ℕ) (rest : List ℕ) → escaped text ≡ Some (b, rest) → escaped_bytes_of text ≡ option_map (λ bs. b ∷ bs) (bytes_of rest)
bytes_behind [] b rest h = cc
bytes_behind (high ∷ []) b rest h = cc
bytes_behind (high ∷ low ∷ others) b rest h =
    elim (hex_byte high low) as (λ (o : Option ℕ). option_map {U = ℕ × List ℕ} (λ x. (x, others)) o ≡ Some (b, rest) → and_then o (λ x. option_map (λ bs. x ∷ bs) (bytes_of others)) ≡ option_map (λ bs. b ∷ bs) (bytes_of rest)) [
      | Some x ↦ λ e. same_first x b others rest e
      | None ↦ λ e. absurd (no_first b rest (sym e))
    ]
    h

-- a text stands for its first byte and then for what the rest stands for
pub bytes_first : (text : List ℕ) (b : ℕ) (rest : List ℕ) → first_byte_of text ≡ Some (b, rest) → bytes_of text ≡ option_map (λ bs. b ∷ bs) (bytes_of rest)
bytes_first [] b rest h = cc
bytes_first (c ∷ cs) b rest h =
    elim (c == 92) as (λ (t : Bool). cond t (escaped cs) (Some (c, cs)) ≡ Some (b, rest) → cond t (escaped_bytes_of cs) (option_map (λ bs. c ∷ bs) (bytes_of cs)) ≡ option_map (λ bs. b ∷ bs) (bytes_of rest)) [
      | true ↦ λ e. bytes_behind cs b rest e
      | false ↦ λ e. same_first c b cs rest e
    ]
    h

-- a byte that is put behind those before it
pub one_more : (out : List ℕ) (b : ℕ) (more : Option (List ℕ)) → option_map (λ bs. (out ++ b ∷ []) ++ bs) more ≡ option_map (λ bs. out ++ bs) (option_map (λ bs. b ∷ bs) more)
one_more out b (Some bs) = ap (λ (x : List ℕ). Some x) (append_assoc out (b ∷ []) bs)
one_more out b None = refl

-- a number above the limit stays above it
pub too_large : (cs : List ℕ) (n most : ℕ) → most < n → at_most most (number_after n cs) ≡ None
too_large [] n most h = grind (arith, nat_tests)
too_large (c ∷ cs) n most h =
    elim (is_digit c) as (λ (t : Bool). at_most most (cond t (number_after (n * 10 + (c - 48)) cs) None) ≡ None) [
      | true ↦ too_large cs (n * 10 + (c - 48)) most (omega arith)
      | false ↦ refl
    ]

-- digits, one at least, are read from the first on
pub up_to_reads : (most : ℕ) (cs : List ℕ) → 0 < length cs → number_up_to most cs ≡ at_most most (number_after 0 cs)
up_to_reads most [] l = absurd (omega arith)
up_to_reads most (c ∷ cs) l = refl

-- a number that has come above the limit is none within it
pub too_large_at : (n i most : ℕ) (cs : List ℕ) → i < length cs → true ≡ is_digit (get_or cs i 0) → most < n * 10 + (get_or cs i 0 - 48) → at_most most (number_after n (drop i cs)) ≡ None
too_large_at n i most cs l h above =
    ap (at_most most) (at_drop_more (number_after n) cs i 0 l ∙ cond-true (is_digit (get_or cs i 0)) _ _ (sym h)) ∙ too_large (drop (i + 1) cs) (n * 10 + (get_or cs i 0 - 48)) most above

-- one turn of the loop: the first byte of what is left is put behind those before it
pub turn_more : (out text rest : List ℕ) (b : ℕ) → first_byte_of text ≡ Some (b, rest) → option_map (λ bs. (out ++ b ∷ []) ++ bs) (bytes_of rest) ≡ option_map (λ bs. out ++ bs) (bytes_of text)
turn_more out text rest b h = one_more out b (bytes_of rest) ∙ sym (ap (option_map (λ bs. out ++ bs)) (bytes_first text b rest h))
