-- The rules of a page leave no choice.
use Rattle.std.proofs.Common.{◌≡◌, ℕ, zero, suc, ◌+◌, ◌-◌, ◌*◌, ◌/◌, ◌%◌, ◌<◌, ◌≤◌, ◌⊎◌, Bool, true, false, not, cond, List, [], ◌∷◌, ◌++◌, length, reverse, take, get_or, refl, ap, sym, ◌∙◌, inl, inr, arith}
use Rattle.std.specs.List.{list_all}
use Rattle.std.proofs.lemmas.Bool.{cases_lt, and_parts, both_ways, not-true}
use Rattle.std.proofs.lemmas.List.{same_lists, get_or_default, append-nil, append_assoc, reverse-append, reverse-reverse, take_all, take_at}
use Rattle.std.proofs.lemmas.Option.{slice_get_cases}
use Rattle.forms.specs.Bytes.{is_blank}
use Rattle.board.specs.declared.line.Line.{Line}
use Rattle.page.specs.Headings.{without_first_blanks, without_last_blanks, trimmed}
use Rattle.page.specs.Rows.{hour_minute}
use Rattle.page.specs.Pages.{departs_from}
use Rattle.page.specs.Laws.{at, Has, ShowsLine, LaidOut, ShownFrom, TrimmedFrom, HeadingFrom}
use Rattle.page.proofs.Blanks.{all_reversed}

-- rows that have one text at the same places agree there
same_within :
    (page other : List ℕ) (row from n : ℕ) (text : List ℕ) → Has page row from n text → Has other row from n text → (place : ℕ) → from ≤ place → place < from + n
    → at page row place ≡ at other row place
same_within page other row from n text a b place low high =
    let here : from + (place - from) ≡ place = omega arith in
    let within : place - from < n = omega arith in
    ap (at page row) (sym here) ∙ a (place - from) within ∙ sym (b (place - from) within) ∙ ap (at other row) here

same_line : (page other : List ℕ) (row : ℕ) (l : Line) → ShowsLine page row l → ShowsLine other row l → (place : ℕ) → place < 24 → at page row place ≡ at other row place
same_line page other row l a b place h = elim (cases_lt place 4) [
  | inl q ↦ same_within page other row 0 4 (hour_minute l.key.minute) a.hour_minute b.hour_minute place (omega arith) (omega arith)
  | inr p1 ↦ elim (cases_lt place 5) [
    | inl q ↦ same_within page other row 4 1 [] a.fifth b.fifth place p1 (omega arith)
    | inr p2 ↦ elim (cases_lt place 12) [
      | inl q ↦ same_within page other row 5 7 l.destination a.destination b.destination place p2 (omega arith)
      | inr p3 ↦ elim (cases_lt place 13) [
        | inl q ↦ same_within page other row 12 1 [] a.thirteenth b.thirteenth place p3 (omega arith)
        | inr p4 ↦ elim (cases_lt place 16) [
          | inl q ↦ same_within page other row 13 3 l.platform a.platform b.platform place p4 (omega arith)
          | inr p5 ↦ elim (cases_lt place 17) [
            | inl q ↦ same_within page other row 16 1 [] a.seventeenth b.seventeenth place p5 (omega arith)
            | inr p6 ↦ elim (cases_lt place 19) [
              | inl q ↦ same_within page other row 17 2 l.operator a.operator b.operator place p6 (omega arith)
              | inr p7 ↦ elim (cases_lt place 20) [
                | inl q ↦ same_within page other row 19 1 [] a.twentieth b.twentieth place p7 (omega arith)
                | inr p8 ↦ same_within page other row 20 4 l.train a.train b.train place p8 (omega arith)
              ]
            ]
          ]
        ]
      ]
    ]
  ]
]

same_row : (heading : List ℕ) (lines : List Line) (page other : List ℕ) → LaidOut heading lines page → LaidOut heading lines other → (row place : ℕ) → row < 11 → place < 24 → at page row place ≡ at other row place
same_row heading lines page other a b zero place h p = same_within page other 0 0 24 heading a.first b.first place (omega arith) (omega arith)
same_row heading lines page other a b (suc k) place h p =
    let next : k + 1 ≡ suc k = omega arith in
    let few : k < 10 = omega arith in
    ap (λ r. at page r place) (sym next)
    ∙ (elim ((slice_get_cases lines k).1) [
      | inl there ↦ same_line page other (k + 1) there.0 (a.shown k there.0 few there.2) (b.shown k there.0 few there.2) place p
      | inr none ↦ same_within page other (k + 1) 0 24 [] (a.past k few none.0) (b.past k few none.0) place (omega arith) (omega arith)
    ])
    ∙ ap (λ r. at other r place) next

pub one_page : (heading : List ℕ) (lines : List Line) (xs ys : List ℕ) → LaidOut heading lines xs → LaidOut heading lines ys → xs ≡ ys
one_page heading lines xs ys a b =
    let m = a.bytes in
    let n = b.bytes in
    same_lists xs ys (m ∙ sym n) (λ i d h.
    let here : 24 * (i / 24) + i % 24 ≡ i = omega arith in
    get_or_default xs i d 0 h
    ∙ ap (λ k. get_or xs k 0) (sym here)
    ∙ same_row heading lines xs ys a b (i / 24) (i % 24) (omega arith) (omega arith)
    ∙ ap (λ k. get_or ys k 0) here
    ∙ sym (get_or_default ys i d 0 (omega arith)))

-- what is left of lines from the first on that passes a test
pub from_first : (Line → Bool) → List Line → List Line
from_first p [] = []
from_first p (l ∷ ls) = cond (p l) (l ∷ ls) (from_first p ls)

skipped : (p : Line → Bool) (before ls : List Line) → list_all (λ l. not (p l)) before ≡ true → from_first p (before ++ ls) ≡ from_first p ls
unfolding from_first
skipped p [] ls h = refl
skipped p (l ∷ before) ls h = let t = and_parts (not (p l)) (list_all (λ y. not (p y)) before) h in rw (not-true (p l) t.0) (skipped p before ls t.1)

cut_ten : (shown rest : List Line) → length shown ≤ 10 → (rest ≡ []) ⊎ (length shown ≡ 10) → take 10 (shown ++ rest) ≡ shown
cut_ten shown rest most (inl none) = ap (λ r. take 10 (shown ++ r)) none ∙ ap (take 10) (append-nil shown) ∙ take_all 10 shown most
cut_ten shown rest most (inr ten) = take_at shown rest 10 ten

left : (p : Line → Bool) (shown rest : List Line) → list_all p shown ≡ true → length shown ≤ 10 → (rest ≡ []) ⊎ (length shown ≡ 10) → take 10 (from_first p (shown ++ rest)) ≡ shown
unfolding from_first
left p [] rest h most (inl none) = ap (λ r. take 10 (from_first p r)) none
left p [] rest h most (inr ten) = absurd (let z : ⊥ = omega arith in z)
left p (l ∷ shown) rest h most whole = let t = and_parts (p l) (list_all p shown) h in rw t.0 (cut_ten (l ∷ shown) rest most whole)

pub shown_are : (m : ℕ) (lines shown : List Line) → ShownFrom m lines shown → take 10 (from_first (departs_from m) lines) ≡ shown
shown_are m lines shown f =
    ap (λ l. take 10 (from_first (departs_from m) l)) (f.are ∙ append_assoc f.before shown f.rest)
    ∙ ap (take 10) (skipped (departs_from m) f.before (shown ++ f.rest) f.earlier)
    ∙ left (departs_from m) shown f.rest f.later f.at_most f.whole

-- blanks before a text are passed over, and a text that begins with none stays
passed_over : (blanks text : List ℕ) → list_all is_blank blanks ≡ true → without_first_blanks (blanks ++ text) ≡ without_first_blanks text
passed_over [] text h = refl
passed_over (b ∷ blanks) text h = let t = and_parts (is_blank b) (list_all is_blank blanks) h in rw t.0 (passed_over blanks text t.1)

stays : (text : List ℕ) → ((0 < length text) → is_blank (get_or text 0 32) ≡ false) → without_first_blanks text ≡ text
stays [] h = refl
stays (b ∷ text) h = let t : is_blank b ≡ false = h (omega arith) in rw t refl

-- there is one text that is trimmed from another
pub trimmed_is : (text part : List ℕ) → TrimmedFrom text part → trimmed text ≡ part
trimmed_is text [] f =
    let blank : text ≡ f.before ++ (f.behind ++ []) = f.are ∙ ap (λ l. l ++ f.behind) (append-nil f.before) ∙ ap (λ l. f.before ++ l) (sym (append-nil f.behind)) in
    ap without_last_blanks (ap without_first_blanks blank ∙ passed_over f.before (f.behind ++ []) f.blank_before ∙ passed_over f.behind [] f.blank_behind)
trimmed_is text (b ∷ part) f =
    let whole = b ∷ part in
    ap without_last_blanks (
    ap without_first_blanks (f.are ∙ append_assoc f.before whole f.behind)
    ∙ passed_over f.before (whole ++ f.behind) f.blank_before
    ∙ stays (whole ++ f.behind) (λ h. f.ends.first (omega arith)))
    ∙ ap (λ l. reverse (without_first_blanks l)) (reverse-append whole f.behind)
    ∙ ap reverse (passed_over (reverse f.behind) (reverse whole) (all_reversed f.behind f.blank_behind) ∙ stays (reverse whole) (λ h. f.ends.last (omega arith)))
    ∙ reverse-reverse whole

pub one_heading : (name tiploc xs ys : List ℕ) → HeadingFrom name tiploc xs → HeadingFrom name tiploc ys → xs ≡ ys
one_heading name tiploc xs ys (inl a) (inl b) = sym (trimmed_is name xs a.0) ∙ trimmed_is name ys b.0
one_heading name tiploc xs ys (inl a) (inr b) = absurd (both_ways (list_all is_blank name) a.1 b.1)
one_heading name tiploc xs ys (inr a) (inl b) = absurd (both_ways (list_all is_blank name) b.1 a.1)
one_heading name tiploc xs ys (inr a) (inr b) = sym (trimmed_is tiploc xs a.0) ∙ trimmed_is tiploc ys b.0
