-- What is left of a text without the blanks at its ends.
use Rattle.std.proofs.Common.{◌≡◌, ℕ, ◌+◌, ◌<◌, ◌≤◌, true, false, ◌&&◌, List, [], ◌∷◌, ◌++◌, length, reverse, get_or, refl, ap, sym, ◌∙◌, inl, inr, arith}
use Rattle.std.specs.List.{list_all}
use Rattle.std.proofs.lemmas.Bool.{cases_Bool, and_from, and_parts, and_left, and_right}
use Rattle.std.proofs.lemmas.List.{append-nil, append_assoc, reverse-append, reverse-reverse, get_or_append_left, length-append, length-reverse}
use Rattle.std.proofs.lemmas.List.Folds.{list_all-append}
use Rattle.forms.specs.Bytes.{is_blank}
use Rattle.page.specs.Headings.{without_first_blanks, trimmed, unless_empty, heading_of}
use Rattle.page.specs.Laws.{TrimmedFrom, HeadingFrom}

-- what a text has before what is left of it without the blanks that it begins with
record Front (text rest : List ℕ) : Type 0 where
  before : List ℕ
  are : text ≡ before ++ rest
  blank : list_all is_blank before ≡ true
  ends : (0 < length rest) → is_blank (get_or rest 0 32) ≡ false

front : (text : List ℕ) → Front text (without_first_blanks text)
front [] = record { before = []; are = refl; blank = refl; ends = λ h. absurd (omega arith) }
front (b ∷ text) = elim (cases_Bool (is_blank b)) [
  | inl t ↦ rw t (
      let f = front text in
      record { before = b ∷ f.before; are = ap (λ l. b ∷ l) f.are; blank = and_from (is_blank b) (list_all is_blank f.before) t f.blank; ends = f.ends })
  | inr t ↦ rw t (record { before = []; are = refl; blank = refl; ends = λ h. t })
]

pub all_reversed : (xs : List ℕ) → list_all is_blank xs ≡ true → list_all is_blank (reverse xs) ≡ true
all_reversed [] h = refl
all_reversed (b ∷ xs) h =
    let parts = and_parts (is_blank b) (list_all is_blank xs) h in
    ap (list_all is_blank) (reverse-append (b ∷ []) xs)
    ∙ list_all-append is_blank (reverse xs) (b ∷ [])
    ∙ and_from (list_all is_blank (reverse xs)) (is_blank b && true) (all_reversed xs parts.1) (and_from (is_blank b) true parts.0 refl)

trimmed_from : (text : List ℕ) → TrimmedFrom text (trimmed text)
trimmed_from text =
    let f = front text in
    let rest = without_first_blanks text in
    let g = front (reverse rest) in
    let w = without_first_blanks (reverse rest) in
    let parts : rest ≡ reverse w ++ reverse g.before = sym (reverse-reverse rest) ∙ ap reverse g.are ∙ reverse-append g.before w in
    let longs : length rest ≡ length (reverse w) + length (reverse g.before) = ap length parts ∙ length-append (reverse w) (reverse g.before) in
    record {
      before = f.before;
      behind = reverse g.before;
      are = f.are ∙ ap (λ l. f.before ++ l) parts ∙ sym (append_assoc f.before (reverse w) (reverse g.before));
      blank_before = f.blank;
      blank_behind = all_reversed g.before g.blank;
      ends = record {
        first = λ (h : 0 < length (reverse w)).
            sym (ap (λ l. is_blank (get_or l 0 32)) parts ∙ ap is_blank (get_or_append_left (reverse w) (reverse g.before) 32 0 h)) ∙ f.ends (omega arith);
        last = λ (h : 0 < length (reverse w)).
            ap (λ l. is_blank (get_or l 0 32)) (reverse-reverse w) ∙ g.ends (omega (arith, length-reverse w));
      };
    }

-- a heading is trimmed from the name or, where that has only blanks, from the TIPLOC
pub heading_from : (name tiploc : List ℕ) → HeadingFrom name tiploc (heading_of name tiploc)
heading_from name tiploc = chosen (trimmed name) (trimmed_from name)
  where
    chosen : (t : List ℕ) → TrimmedFrom name t → HeadingFrom name tiploc (unless_empty t (trimmed tiploc))
    chosen [] f = inr (
      trimmed_from tiploc,
      ap (list_all is_blank) f.are
          ∙ list_all-append is_blank (f.before ++ []) f.behind
          ∙ and_from (list_all is_blank (f.before ++ [])) (list_all is_blank f.behind) (ap (list_all is_blank) (append-nil f.before) ∙ f.blank_before) f.blank_behind,
    )
    chosen (b ∷ t) f = inl (
      f,
      ap (list_all is_blank) f.are
          ∙ list_all-append is_blank (f.before ++ b ∷ t) f.behind
          ∙ and_left (list_all is_blank (f.before ++ b ∷ t)) (list_all is_blank f.behind) (
          list_all-append is_blank f.before (b ∷ t)
          ∙ and_right (list_all is_blank f.before) (is_blank b && list_all is_blank t) (and_left (is_blank b) (list_all is_blank t) (f.ends.first (omega arith)))),
    )

-- which of two texts is the heading, by the length of the first
pub other_text : (text other : List ℕ) → length text < 1 → unless_empty text other ≡ other
other_text [] other h = refl
other_text (b ∷ text) other h = absurd (omega arith)

pub first_text : (text other : List ℕ) → 1 ≤ length text → unless_empty text other ≡ text
first_text [] other h = absurd (omega arith)
first_text (b ∷ text) other h = refl
