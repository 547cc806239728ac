-- A page by its rows.
use Rattle.std.proofs.Common.{◌≡◌, ◌≢◌, ℕ, zero, suc, ◌+◌, ◌-◌, ◌*◌, ◌<◌, ◌≤◌, cond, leb, List, [], ◌∷◌, ◌++◌, length, take, drop, get_or, replicate, refl, ap, sym, ◌∙◌, inl, inr, arith}
use Rattle.std.proofs.Common.{slice_get}
use Rattle.std.specs.List.{range_with_len, flat_map}
use Rattle.std.specs.Option.{option_map_or}
use Rattle.std.proofs.lemmas.Bool.{cases_lt, cond-true, cond-false, le-leb, lt-leb}
use Rattle.std.proofs.lemmas.List.{length-append, append_assoc, take_at, drop_at, get_or_append_left, get_or-append_right}
use Rattle.std.proofs.lemmas.List.Concat.{flat_map-append}
use Rattle.std.proofs.lemmas.List.FromFn.{length-map-range_with_len, get_or-map-range_with_len}
use Rattle.std.proofs.lemmas.Option.{slice_get_past, slice_get-get_or}
use Rattle.board.specs.declared.line.Line.{Line}
use Rattle.page.specs.Rows.{Field, byte_of, row_of, line_fields, heading_fields}
use Rattle.page.specs.Pages.{row_at, page_of}

-- a row has 24 bytes, each that of the fields at its column
pub row_long : (fields : List Field) → length (row_of fields) ≡ 24
row_long fields = length-map-range_with_len (byte_of fields) 1 24

pub row_byte : (fields : List Field) (place : ℕ) → place < 24 → get_or (row_of fields) place 0 ≡ byte_of fields (1 + place)
row_byte fields place h = get_or-map-range_with_len (byte_of fields) 1 24 place (1 + place) 0 h refl

-- rows one after another
module _ (f : ℕ → List ℕ) (each : (k : ℕ) → length (f k) ≡ 24) where
  pub rows_long : (a n : ℕ) → length (flat_map f (range_with_len a n)) ≡ 24 * n
  rows_long a zero = refl
  rows_long a (suc n) =
      let more = rows_long (a + 1) n in
      let here = each a in
      length-append (f a) (flat_map f (range_with_len (a + 1) n)) ∙ omega arith

  pub rows_byte : (a n k p : ℕ) → k < n → p < 24 → get_or (flat_map f (range_with_len a n)) (24 * k + p) 0 ≡ get_or (f (a + k)) p 0
  rows_byte a zero k p h q = absurd (let z : ⊥ = omega arith in z)
  rows_byte a (suc n) zero p h q =
      let here = each a in
      let rest = flat_map f (range_with_len (a + 1) n) in
      let e : 24 * 0 + p ≡ p = omega arith in
      let g : a ≡ a + 0 = omega arith in
      ap (λ i. get_or (f a ++ rest) i 0) e ∙ get_or_append_left (f a) rest 0 p (omega arith) ∙ ap (λ i. get_or (f i) p 0) g
  rows_byte a (suc n) (suc k) p h q =
      let rest = flat_map f (range_with_len (a + 1) n) in
      let e : 24 * suc k + p - 24 ≡ 24 * k + p = omega arith in
      let g : a + 1 + k ≡ a + suc k = omega arith in
      get_or-append_right (f a) rest 24 (24 * suc k + p) 0 (each a) (omega arith)
      ∙ ap (λ i. get_or rest i 0) e
      ∙ rows_byte (a + 1) n k p (omega arith) q
      ∙ ap (λ i. get_or (f i) p 0) g

range_split : (a m n t b : ℕ) → t ≡ m + suc n → b ≡ a + m → range_with_len a t ≡ range_with_len a m ++ b ∷ range_with_len (b + 1) n
range_split a zero n zero b e g = absurd (let z : ⊥ = omega arith in z)
range_split a zero n (suc t) b e g =
    let same : t ≡ n = omega arith in
    let here : a ≡ b = omega arith in
    ap (λ i. i ∷ range_with_len (i + 1) t) here ∙ ap (λ i. b ∷ range_with_len (b + 1) i) same
range_split a (suc m) n zero b e g = absurd (let z : ⊥ = omega arith in z)
range_split a (suc m) n (suc t) b e g = ap (λ l. a ∷ l) (range_split (a + 1) m n t b (omega arith) (omega arith))

same_rows : (f g : ℕ → List ℕ) (a n : ℕ) → ((k : ℕ) → a ≤ k → k < a + n → f k ≡ g k) → flat_map f (range_with_len a n) ≡ flat_map g (range_with_len a n)
same_rows f g a zero h = refl
same_rows f g a (suc n) h =
    ap (λ l. l ++ flat_map f (range_with_len (a + 1) n)) (h a (omega arith) (omega arith))
    ∙ ap (λ l. g a ++ l) (same_rows f g (a + 1) n (λ k p q. h k (omega arith) (omega arith)))

-- rows of which one is written anew
pub row_written :
    (f g : ℕ → List ℕ) → ((k : ℕ) → length (f k) ≡ 24) → (m n t : ℕ) → t ≡ m + suc n → ((k : ℕ) → k ≢ m → f k ≡ g k)
    → take (24 * m) (flat_map f (range_with_len 0 t)) ++ g m ++ drop (24 * (m + 1)) (flat_map f (range_with_len 0 t)) ≡ flat_map g (range_with_len 0 t)
row_written f g each m n t e others =
    let before = flat_map f (range_with_len 0 m) in
    let behind = flat_map f (range_with_len (m + 1) n) in
    let here : m ≡ 0 + m = omega arith in
    let split : range_with_len 0 t ≡ range_with_len 0 m ++ m ∷ range_with_len (m + 1) n = range_split 0 m n t m e here in
    let of_f : flat_map f (range_with_len 0 t) ≡ before ++ (f m ++ behind) = ap (flat_map f) split ∙ flat_map-append f (range_with_len 0 m) (m ∷ range_with_len (m + 1) n) in
    let of_g = ap (flat_map g) split ∙ flat_map-append g (range_with_len 0 m) (m ∷ range_with_len (m + 1) n) in
    let long = rows_long f each 0 m in
    let this = each m in
    let first : take (24 * m) (flat_map f (range_with_len 0 t)) ≡ before = ap (take (24 * m)) of_f ∙ take_at before (f m ++ behind) (24 * m) long in
    let last : drop (24 * (m + 1)) (flat_map f (range_with_len 0 t)) ≡ behind =
    ap (drop (24 * (m + 1))) (of_f ∙ sym (append_assoc before (f m) behind))
    ∙ drop_at (before ++ f m) behind (24 * (m + 1)) (length-append before (f m) ∙ (let z : length before + length (f m) ≡ 24 * (m + 1) = omega arith in z)) in
    ap (λ l. l ++ g m ++ drop (24 * (m + 1)) (flat_map f (range_with_len 0 t))) (first ∙ same_rows f g 0 m (λ k p q. others k (λ i. absurd (let z : ⊥ = omega arith in z))))
    ∙ ap (λ l. flat_map g (range_with_len 0 m) ++ g m ++ l) (last ∙ same_rows f g (m + 1) n (λ k p q. others k (λ i. absurd (let z : ⊥ = omega arith in z))))
    ∙ append_assoc (flat_map g (range_with_len 0 m)) (g m) (flat_map g (range_with_len (m + 1) n))
    ∙ sym of_g

-- the rows of a page: that of the heading, and those below it
unfoldable pub page_row : List ℕ → List Line → ℕ → List ℕ
page_row heading lines zero = row_of (heading_fields heading)
page_row heading lines (suc k) = row_at lines k

-- those rows, one after another, are the page
pub page_is : (heading : List ℕ) (lines : List Line) → flat_map (page_row heading lines) (range_with_len 0 11) ≡ page_of heading lines
unfolding page_row
page_is heading lines = refl

pub page_row_long : (heading : List ℕ) (lines : List Line) (k : ℕ) → length (page_row heading lines k) ≡ 24
unfolding page_row
page_row_long heading lines zero = row_long (heading_fields heading)
page_row_long heading lines (suc k) = row_long (option_map_or line_fields (slice_get lines k) [])

-- the rows of a page on which the first n lines are written so far
pub so_far : List ℕ → List Line → ℕ → ℕ → List ℕ
so_far heading lines n k = cond (leb k n) (page_row heading lines k) (row_of [])

-- such a page
pub page_so_far : List ℕ → List Line → ℕ → List ℕ
page_so_far heading lines n = flat_map (so_far heading lines n) (range_with_len 0 11)

so_far_long : (heading : List ℕ) (lines : List Line) (n k : ℕ) → length (so_far heading lines n k) ≡ 24
unfolding so_far
so_far_long heading lines n k = elim (cases_lt n k) [
  | inl h ↦ ap length (cond-false (leb k n) (page_row heading lines k) (row_of []) (lt-leb k n h)) ∙ row_long []
  | inr h ↦ ap length (cond-true (leb k n) (page_row heading lines k) (row_of []) (le-leb k n h)) ∙ page_row_long heading lines k
]

-- before any line
pub none_written : (heading : List ℕ) (lines : List Line) → row_of (heading_fields heading) ++ drop 24 (replicate 264 32) ≡ page_so_far heading lines 0
unfolding page_so_far so_far page_row
none_written heading lines = refl

-- one more line
pub one_written :
    (heading : List ℕ) (lines : List Line) (n : ℕ) (d : Line) (page row : List ℕ) → length lines ≤ 10 → n < length lines → row ≡ row_of (line_fields (get_or lines n d)) → page ≡ page_so_far heading lines n
    → take ((n + 1) * 24) page ++ row ++ drop ((n + 1 + 1) * 24) page ≡ page_so_far heading lines (n + 1)
unfolding page_so_far so_far page_row
one_written heading lines n d page row few within is so =
    let a : (n + 1) * 24 ≡ 24 * (n + 1) = omega arith in
    let b : (n + 1 + 1) * 24 ≡ 24 * (n + 1 + 1) = omega arith in
    let e : n + 1 ≡ suc n = omega arith in
    let written : row ≡ so_far heading lines (n + 1) (n + 1) =
    is ∙ sym (cond-true (leb (n + 1) (n + 1)) (page_row heading lines (n + 1)) (row_of []) (le-leb (n + 1) (n + 1) (omega arith))
    ∙ ap (page_row heading lines) e
    ∙ ap (λ o. row_of (option_map_or line_fields o [])) (slice_get-get_or lines n d within)) in
    ap (λ i. take i page ++ row ++ drop ((n + 1 + 1) * 24) page) a
    ∙ ap (λ i. take (24 * (n + 1)) page ++ row ++ drop i page) b
    ∙ ap (λ r. take (24 * (n + 1)) page ++ r ++ drop (24 * (n + 1 + 1)) page) written
    ∙ ap (λ p. take (24 * (n + 1)) p ++ so_far heading lines (n + 1) (n + 1) ++ drop (24 * (n + 1 + 1)) p) so
    ∙ row_written (so_far heading lines n) (so_far heading lines (n + 1)) (so_far_long heading lines n) (n + 1) (9 - n) 11 (omega arith) (λ k other. elim (cases_lt n k) [
      | inl h ↦
          cond-false (leb k n) (page_row heading lines k) (row_of []) (lt-leb k n h)
          ∙ sym (cond-false (leb k (n + 1)) (page_row heading lines k) (row_of []) (lt-leb k (n + 1) (omega arith)))
      | inr h ↦
          cond-true (leb k n) (page_row heading lines k) (row_of []) (le-leb k n h)
          ∙ sym (cond-true (leb k (n + 1)) (page_row heading lines k) (row_of []) (le-leb k (n + 1) (omega arith)))
    ])

-- after all lines
pub all_written : (heading : List ℕ) (lines : List Line) (n : ℕ) → length lines ≤ n → page_so_far heading lines n ≡ page_of heading lines
unfolding page_so_far so_far page_row
all_written heading lines n all = same_rows (so_far heading lines n) (page_row heading lines) 0 11 (λ k p q. elim (cases_lt n k) [
  | inl h ↦ cond-false (leb k n) (page_row heading lines k) (row_of []) (lt-leb k n h) ∙ blank k h
  | inr h ↦ cond-true (leb k n) (page_row heading lines k) (row_of []) (le-leb k n h)
]) ∙ page_is heading lines
  where
    blank : (k : ℕ) → n < k → row_of [] ≡ page_row heading lines k
    blank zero h = absurd (let z : ⊥ = omega arith in z)
    blank (suc k) h = sym (ap (λ o. row_of (option_map_or line_fields o [])) (slice_get_past lines k (omega arith)))
