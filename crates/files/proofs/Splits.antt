-- Where a file's first row ends.
use Rattle.std.proofs.Common.{◌≡◌, ℕ, ◌+◌, true, false, not, cond, eqb, List, [], ◌∷◌, take, drop, refl, ap, ◌∙◌, suc, arith}
use Rattle.std.specs.List.{position_or_len}
use Rattle.files.specs.Files.{first_row, other_rows}

-- the row is what stands before the first line feed
pub row_before : (cs : List ℕ) → take (position_or_len (λ c. eqb c 10) cs) cs ≡ first_row cs
row_before [] = refl
row_before (c ∷ cs) =
    let n = position_or_len (λ c. eqb c 10) cs in
    let more : 1 + n ≡ suc n = omega arith in
    elim (eqb c 10) as (λ b. take (cond (not b) (1 + n) 0) (c ∷ cs) ≡ cond b [] (c ∷ first_row cs)) [
      | true ↦ refl
      | false ↦ ap (λ (k : ℕ). take k (c ∷ cs)) more ∙ ap (λ (xs : List ℕ). c ∷ xs) (row_before cs)
    ]

-- and the other rows are what stands after it
pub rest_after : (cs : List ℕ) → drop (position_or_len (λ c. eqb c 10) cs + 1) cs ≡ other_rows cs
rest_after [] = refl
rest_after (c ∷ cs) =
    let n = position_or_len (λ c. eqb c 10) cs in
    let more : 1 + n + 1 ≡ suc (n + 1) = omega arith in
    elim (eqb c 10) as (λ b. drop (cond (not b) (1 + n) 0 + 1) (c ∷ cs) ≡ cond b cs (other_rows cs)) [
      | true ↦ refl
      | false ↦ ap (λ (k : ℕ). drop k (c ∷ cs)) more ∙ rest_after cs
    ]
