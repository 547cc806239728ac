-- How the lines of a script follow one another.
use Rattle.std.proofs.Common.{◌≡◌, ℕ, ◌+◌, ◌<◌, Bool, true, false, cond, List, [], ◌∷◌, length, Some, None, Option, Err, refl, ap, sym, ◌∙◌, arith}
use Rattle.std.specs.Prelude.{◌==◌}
use Rattle.files.specs.Files.{first_row, other_rows}
use Rattle.forms.specs.Bytes.{and_then}
use Rattle.scripts.specs.Lines.{LineMeaning, meaning_in}
use Rattle.scripts.specs.Histories.{ScriptHistory, histories_after, before_first, lines_of, or_line, histories_after_all}

-- the first line of a text is its first row, and the others are those of the other rows
pub first_line : (text : List ℕ) → 0 < length text → lines_of text ≡ first_row text ∷ lines_of (other_rows text)
first_line [] h = absurd (omega arith)
first_line (c ∷ []) h =
    elim (c == 10) as (λ (t : Bool). cond t ([] ∷ []) ((c ∷ []) ∷ []) ≡ cond t [] (c ∷ []) ∷ lines_of (cond t [] [])) [ true ↦ refl | false ↦ refl ]
first_line (c ∷ d ∷ cs) h =
    let more = first_line (d ∷ cs) (omega arith) in
    elim (c == 10) as (λ (t : Bool). cond t ([] ∷ lines_of (d ∷ cs)) (before_first c (lines_of (d ∷ cs))) ≡ cond t [] (c ∷ first_row (d ∷ cs)) ∷ lines_of (cond t (d ∷ cs) (other_rows (d ∷ cs)))) [
      | true ↦ refl
      | false ↦ ap (before_first c) more
    ]

-- one line is read, and then those behind it
pub line_more : (number : ℕ) (histories : List ScriptHistory) (text line rest : List ℕ) → 0 < length text → line ≡ first_row text → rest ≡ other_rows text → histories_after_all number histories (lines_of text) ≡ or_line number (and_then (meaning_in line) (histories_after histories)) (λ next. histories_after_all (number + 1) next (lines_of rest))
line_more number histories text line rest h p q =
    ap (histories_after_all number histories) (first_line text h ∙ ap (λ (l : List ℕ). l ∷ lines_of (other_rows text)) (sym p) ∙ ap (λ (r : List ℕ). line ∷ lines_of r) (sym q))

-- a line that may stand where it does is followed by the others
pub line_taken : (number : ℕ) (histories next : List ScriptHistory) (text line rest : List ℕ) (said : LineMeaning) → 0 < length text → line ≡ first_row text → rest ≡ other_rows text → meaning_in line ≡ Some said → histories_after histories said ≡ Some next → histories_after_all number histories (lines_of text) ≡ histories_after_all (number + 1) next (lines_of rest)
line_taken number histories next text line rest said h p q s t =
    line_more number histories text line rest h p q
    ∙ ap (λ (o : Option LineMeaning). or_line number (and_then o (histories_after histories)) (λ x. histories_after_all (number + 1) x (lines_of rest))) s
    ∙ ap (λ (o : Option (List ScriptHistory)). or_line number o (λ x. histories_after_all (number + 1) x (lines_of rest))) t

-- a line that says nothing ends them, and so does one that may not stand there
pub line_none : (number : ℕ) (histories : List ScriptHistory) (text line rest : List ℕ) → 0 < length text → line ≡ first_row text → rest ≡ other_rows text → meaning_in line ≡ None → histories_after_all number histories (lines_of text) ≡ Err number
line_none number histories text line rest h p q s =
    line_more number histories text line rest h p q
    ∙ ap (λ (o : Option LineMeaning). or_line number (and_then o (histories_after histories)) (λ x. histories_after_all (number + 1) x (lines_of rest))) s

pub line_refused : (number : ℕ) (histories : List ScriptHistory) (text line rest : List ℕ) (said : LineMeaning) → 0 < length text → line ≡ first_row text → rest ≡ other_rows text → meaning_in line ≡ Some said → histories_after histories said ≡ None → histories_after_all number histories (lines_of text) ≡ Err number
line_refused number histories text line rest said h p q s t =
    line_more number histories text line rest h p q
    ∙ ap (λ (o : Option LineMeaning). or_line number (and_then o (histories_after histories)) (λ x. histories_after_all (number + 1) x (lines_of rest))) s
    ∙ ap (λ (o : Option (List ScriptHistory)). or_line number o (λ x. histories_after_all (number + 1) x (lines_of rest))) t
