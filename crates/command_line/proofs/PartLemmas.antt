-- Where the words of a task end.
use Rattle.std.proofs.Common.{◌≡◌, ◌∙◌, ℕ, ◌+◌, ◌<◌, ◌≤◌, suc, Bool, true, false, not, cond, List, [], ◌∷◌, map, length, take, drop, refl, ap, sym, arith, codes, string_bytes, Global}
use Rattle.std.specs.declared.string.String.{String}
use Rattle.std.specs.Prelude.{Some, None, nat_lt}
use Rattle.std.specs.List.{position, position_or_len}
use Rattle.std.proofs.lemmas.Bool.{ltb-true, ltb-false}
use Rattle.std.specs.Str.{bytes_eq}
use Rattle.clap.specs.Walk.{Text}
use Rattle.command_line.specs.Requests.{parts, with_first}

abbrev pub is_dashes : String Global → Bool
is_dashes word = bytes_eq (string_bytes word) (codes "--")

-- the place of the first `--`, or the length where there is none
abbrev pub dashes_in : List (String Global) → ℕ
dashes_in words = position_or_len is_dashes words

abbrev pub spelled : List (String Global) → List Text
spelled words = map string_bytes words

-- the first task has the words before it, and the others those behind it
pub parts_found : (words : List (String Global)) → dashes_in words < length words
    → parts (spelled words) ≡ spelled (take (dashes_in words) words) ∷ parts (spelled (drop (dashes_in words + 1) words))
parts_found [] h = absurd (omega arith)
parts_found (w ∷ ws) h =
    let n = dashes_in ws in
    let more : 1 + n + 1 ≡ suc (n + 1) = omega arith in
    let one : 1 + n ≡ suc n = omega arith in
    elim (is_dashes w) as (λ b. cond (not b) (1 + n) 0 < suc (length ws)
    → cond b ([] ∷ parts (spelled ws)) (with_first (string_bytes w) (parts (spelled ws)))
    ≡ spelled (take (cond (not b) (1 + n) 0) (w ∷ ws)) ∷ parts (spelled (drop (cond (not b) (1 + n) 0 + 1) (w ∷ ws)))) [
      | true ↦ λ k. refl
      | false ↦ λ k. ap (λ (ps : List (List Text)). with_first (string_bytes w) ps) (parts_found ws (omega arith))
          ∙ ap (λ (i : ℕ). spelled (take i (w ∷ ws)) ∷ parts (spelled (drop (n + 1) ws))) (sym one)
          ∙ ap (λ (i : ℕ). spelled (take (1 + n) (w ∷ ws)) ∷ parts (spelled (drop i (w ∷ ws)))) (sym more)
    ]
    h

-- without `--` there is one task
pub parts_alone : (words : List (String Global)) → length words ≤ dashes_in words → parts (spelled words) ≡ spelled words ∷ []
parts_alone [] h = refl
parts_alone (w ∷ ws) h =
    let n = dashes_in ws in
    elim (is_dashes w) as (λ b. suc (length ws) ≤ cond (not b) (1 + n) 0
    → cond b ([] ∷ parts (spelled ws)) (with_first (string_bytes w) (parts (spelled ws))) ≡ spelled (w ∷ ws) ∷ []) [
      | true ↦ λ k. absurd (omega arith)
      | false ↦ λ k. ap (λ (ps : List (List Text)). with_first (string_bytes w) ps) (parts_alone ws (omega arith))
    ]
    h

-- where a `--` was found, it stands at its place, and where none was there is none
pub found_at : (n : ℕ) (words : List (String Global)) → Some n ≡ position is_dashes words
    → (n ≡ dashes_in words) × (dashes_in words < length words)
found_at n words = go (nat_lt (dashes_in words) (length words)) refl
  where
    go : (b : Bool) → nat_lt (dashes_in words) (length words) ≡ b → Some n ≡ cond b (Some (dashes_in words)) None
        → (n ≡ dashes_in words) × (dashes_in words < length words)
    go true below same = (cc, ltb-true _ _ below)
    go false not_below same = cc

pub found_none : (words : List (String Global)) → None ≡ position is_dashes words → length words ≤ dashes_in words
found_none words = go (nat_lt (dashes_in words) (length words)) refl
  where
    go : (b : Bool) → nat_lt (dashes_in words) (length words) ≡ b → None ≡ cond b (Some (dashes_in words)) None
        → length words ≤ dashes_in words
    go true below same = cc
    go false not_below same = ltb-false _ _ not_below
