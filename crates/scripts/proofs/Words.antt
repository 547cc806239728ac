-- Where the word of a line ends, and what a line says by its word.
use Rattle.std.proofs.Common.{◌≡◌, ◌≢◌, ℕ, ◌+◌, ◌<◌, ◌≤◌, Bool, true, false, not, cond, eqb, ltb, List, [], ◌∷◌, length, take, drop, get_or, Some, None, Option, refl, ap, sym, subst, ◌∙◌, suc, arith}
use Rattle.std.specs.List.{position_or_len}
use Rattle.std.proofs.lemmas.Bool.Decides.{nat_tests}
use Rattle.std.specs.Prelude.{codes}
use Rattle.std.specs.Str.{bytes_eq, IsUtf8}
use Rattle.std.proofs.lemmas.Slice.Eq.{bytes_eq-Decides}
use Rattle.scripts.specs.Lines.{word_in, behind_word, meaning_in, meaning_by_word}

-- the place of the first blank, or the length where there is none
abbrev pub blank_in : List ℕ → ℕ
blank_in cs = position_or_len (λ c. eqb c 32) cs

-- the word is what stands before the first blank
pub word_before : (cs : List ℕ) → take (blank_in cs) cs ≡ word_in cs
word_before [] = refl
word_before (c ∷ cs) =
    let n = blank_in cs in
    let more : 1 + n ≡ suc n = omega arith in
    elim (eqb c 32) as (λ b. take (cond (not b) (1 + n) 0) (c ∷ cs) ≡ cond b [] (c ∷ word_in cs)) [
      | true ↦ refl
      | false ↦ ap (λ (k : ℕ). take k (c ∷ cs)) more ∙ ap (λ (xs : List ℕ). c ∷ xs) (word_before cs)
    ]

-- and what follows it stands behind the blank
pub found_behind : (cs : List ℕ) → blank_in cs < length cs → Some (drop (blank_in cs + 1) cs) ≡ behind_word cs
found_behind [] h = absurd (omega arith)
found_behind (c ∷ cs) h =
    let n = blank_in cs in
    let more : 1 + n + 1 ≡ suc (n + 1) = omega arith in
    elim (eqb c 32) as (λ b. cond (not b) (1 + n) 0 < suc (length cs) → Some (drop (cond (not b) (1 + n) 0 + 1) (c ∷ cs)) ≡ cond b (Some cs) (behind_word cs)) [
      | true ↦ λ k. refl
      | false ↦ λ k. ap (λ (i : ℕ). Some (drop i (c ∷ cs))) more ∙ found_behind cs (omega arith)
    ]
    h

-- a line without a blank is a word and nothing else
pub whole_word : (cs : List ℕ) → length cs ≤ blank_in cs → cs ≡ word_in cs
whole_word [] h = refl
whole_word (c ∷ cs) h =
    let n = blank_in cs in
    elim (eqb c 32) as (λ b. suc (length cs) ≤ cond (not b) (1 + n) 0 → c ∷ cs ≡ cond b [] (c ∷ word_in cs)) [
      | true ↦ λ k. absurd (omega arith)
      | false ↦ λ k. ap (λ (xs : List ℕ). c ∷ xs) (whole_word cs (omega arith))
    ]
    h

pub nothing_behind : (cs : List ℕ) → length cs ≤ blank_in cs → None ≡ behind_word cs
nothing_behind [] h = refl
nothing_behind (c ∷ cs) h =
    let n = blank_in cs in
    elim (eqb c 32) as (λ b. suc (length cs) ≤ cond (not b) (1 + n) 0 → None ≡ cond b (Some cs) (behind_word cs)) [
      | true ↦ λ k. absurd (omega arith)
      | false ↦ λ k. nothing_behind cs (omega arith)
    ]
    h

-- what a search for the first blank found
pub found_at : (n p len : ℕ) → Some n ≡ cond (ltb p len) (Some p) None → (n ≡ p) × (p < len)
found_at n p len h = grind (arith, nat_tests)

pub found_none : (p len : ℕ) → ◌≡◌ {A = Option ℕ} None (cond (ltb p len) (Some p) None) → len ≤ p
found_none p len h = grind (arith, nat_tests)

-- a line that is not passed over says what its word and what follows it say
pub meaning_by : (line : List ℕ) → 0 < length line → get_or line 0 0 ≢ 35 → meaning_in line ≡ meaning_by_word (word_in line) (behind_word line)
meaning_by [] h k = absurd (omega arith)
meaning_by (c ∷ cs) h k = grind (arith, nat_tests)

-- a text that is none is none of the words
no_true : (b : Bool) → (b ≡ true → ⊥) → b ≡ false
no_true true h = absurd (h refl)
no_true false h = refl

pub other_word : (word name : List ℕ) → (IsUtf8 word → ⊥) → IsUtf8 name → bytes_eq word name ≡ false
other_word word name h u = no_true (bytes_eq word name) (λ t. h (subst IsUtf8 (sym ((bytes_eq-Decides word name).0 t)) u))

pub no_word : (word : List ℕ) (rest : Option (List ℕ)) → (IsUtf8 word → ⊥) → meaning_by_word word rest ≡ None
unfolding lib.Utf8.encode
no_word word rest h =
    let apart = λ (name : List ℕ) (u : IsUtf8 name). other_word word name h u in
    simp (
      apart (codes "new") (codes "new", (refl, refl)),
      apart (codes "other") (codes "other", (refl, refl)),
      apart (codes "open") (codes "open", (refl, refl)),
      apart (codes "row") (codes "row", (refl, refl)),
      apart (codes "confirm") (codes "confirm", (refl, refl)),
      apart (codes "abandon") (codes "abandon", (refl, refl)),
      apart (codes "tally") (codes "tally", (refl, refl)),
      apart (codes "turn") (codes "turn", (refl, refl)),
      apart (codes "page") (codes "page", (refl, refl)),
      apart (codes "tell") (codes "tell", (refl, refl)),
    )
