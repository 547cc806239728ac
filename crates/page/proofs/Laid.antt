-- What stands where on a page.
use Rattle.std.proofs.Common.{◌≡◌, ℕ, suc, ◌+◌, ◌-◌, ◌<◌, ◌≤◌, ◌&&◌, leb, List, [], ◌∷◌, get_or, Some, refl, ap, sym, ◌∙◌, arith, slice_get}
use Rattle.std.specs.Option.{option_map_or}
use Rattle.std.proofs.lemmas.Bool.{cond-true, cond-false, and_from, and_left, and_right, le-leb, lt-leb}
use Rattle.std.proofs.lemmas.Option.{slice_get_past}
use Rattle.board.specs.declared.line.Line.{Line}
use Rattle.page.specs.Rows.{Field, columns, byte_in, byte_of, hour_minute, line_fields, heading_fields}
use Rattle.page.specs.Pages.{page_of}
use Rattle.page.specs.Laws.{at, ShowsLine, LaidOut}
use Rattle.page.proofs.PageRows.{row_byte, rows_byte, page_row, page_row_long, page_is}

-- the byte of a column: in the columns of a field, past them, and before them
within : (first last : ℕ) (text : List ℕ) (fs : List Field) (column k : ℕ) → column ≡ first + k → column ≤ last → byte_of (columns first last text ∷ fs) column ≡ get_or text k 32
within first last text fs column k e h =
    let from : column - first ≡ k = omega arith in
    cond-true (leb first column && leb column last) (byte_in (columns first last text) column) (byte_of fs column)
    (and_from (leb first column) (leb column last) (le-leb first column (omega arith)) (le-leb column last h))
    ∙ ap (λ i. get_or text i 32) from

past : (first last : ℕ) (text : List ℕ) (fs : List Field) (column : ℕ) → last < column → byte_of (columns first last text ∷ fs) column ≡ byte_of fs column
past first last text fs column h =
    cond-false (leb first column && leb column last) (byte_in (columns first last text) column) (byte_of fs column) (and_right (leb first column) (leb column last) (lt-leb column last h))

ahead : (first last : ℕ) (text : List ℕ) (fs : List Field) (column : ℕ) → column < first → byte_of (columns first last text ∷ fs) column ≡ byte_of fs column
ahead first last text fs column h =
    cond-false (leb first column && leb column last) (byte_in (columns first last text) column) (byte_of fs column) (and_left (leb first column) (leb column last) (lt-leb first column h))

-- the bytes of a page are those of its rows
at_row : (heading : List ℕ) (lines : List Line) (row place : ℕ) → row < 11 → place < 24 → at (page_of heading lines) row place ≡ get_or (page_row heading lines row) place 0
at_row heading lines row place h p =
    let here : 0 + row ≡ row = omega arith in
    ap (λ page. at page row place) (sym (page_is heading lines))
    ∙ rows_byte (page_row heading lines) (page_row_long heading lines) 0 11 row place h p
    ∙ ap (λ i. get_or (page_row heading lines i) place 0) here

heading_byte : (heading : List ℕ) (lines : List Line) (place : ℕ) → place < 24 → at (page_of heading lines) 0 place ≡ byte_of (heading_fields heading) (1 + place)
unfolding page_row
heading_byte heading lines place p = at_row heading lines 0 place (omega arith) p ∙ row_byte (heading_fields heading) place p

below_byte : (heading : List ℕ) (lines : List Line) (k place : ℕ) (fields : List Field) → k < 10 → place < 24 → option_map_or line_fields (slice_get lines k) [] ≡ fields
    → at (page_of heading lines) (k + 1) place ≡ byte_of fields (1 + place)
unfolding page_row
below_byte heading lines k place fields h p e =
    let next : k + 1 ≡ suc k = omega arith in
    at_row heading lines (k + 1) place (omega arith) p
    ∙ ap (λ i. get_or (page_row heading lines i) place 0) next
    ∙ row_byte (option_map_or line_fields (slice_get lines k) []) place p
    ∙ ap (λ f. byte_of f (1 + place)) e

shows_line : (heading : List ℕ) (lines : List Line) (k : ℕ) (l : Line) → k < 10 → slice_get lines k ≡ Some l → ShowsLine (page_of heading lines) (k + 1) l
shows_line heading lines k l h e =
    let time = hour_minute l.key.minute in
    let fs4 = columns 21 24 l.train ∷ [] in
    let fs3 = columns 18 19 l.operator ∷ fs4 in
    let fs2 = columns 14 16 l.platform ∷ fs3 in
    let fs1 = columns 6 12 l.destination ∷ fs2 in
    let byte = below_byte heading lines k in
    let is = ap (λ o. option_map_or line_fields o []) e in
    record {
      hour_minute = λ j q. byte (0 + j) (line_fields l) h (omega arith) is ∙ within 1 4 time fs1 (1 + (0 + j)) j (omega arith) (omega arith);
      fifth = λ j q.
          byte (4 + j) (line_fields l) h (omega arith) is
          ∙ past 1 4 time fs1 (1 + (4 + j)) (omega arith)
          ∙ ahead 6 12 l.destination fs2 (1 + (4 + j)) (omega arith)
          ∙ ahead 14 16 l.platform fs3 (1 + (4 + j)) (omega arith)
          ∙ ahead 18 19 l.operator fs4 (1 + (4 + j)) (omega arith)
          ∙ ahead 21 24 l.train [] (1 + (4 + j)) (omega arith);
      destination = λ j q.
          byte (5 + j) (line_fields l) h (omega arith) is
          ∙ past 1 4 time fs1 (1 + (5 + j)) (omega arith)
          ∙ within 6 12 l.destination fs2 (1 + (5 + j)) j (omega arith) (omega arith);
      thirteenth = λ j q.
          byte (12 + j) (line_fields l) h (omega arith) is
          ∙ past 1 4 time fs1 (1 + (12 + j)) (omega arith)
          ∙ past 6 12 l.destination fs2 (1 + (12 + j)) (omega arith)
          ∙ ahead 14 16 l.platform fs3 (1 + (12 + j)) (omega arith)
          ∙ ahead 18 19 l.operator fs4 (1 + (12 + j)) (omega arith)
          ∙ ahead 21 24 l.train [] (1 + (12 + j)) (omega arith);
      platform = λ j q.
          byte (13 + j) (line_fields l) h (omega arith) is
          ∙ past 1 4 time fs1 (1 + (13 + j)) (omega arith)
          ∙ past 6 12 l.destination fs2 (1 + (13 + j)) (omega arith)
          ∙ within 14 16 l.platform fs3 (1 + (13 + j)) j (omega arith) (omega arith);
      seventeenth = λ j q.
          byte (16 + j) (line_fields l) h (omega arith) is
          ∙ past 1 4 time fs1 (1 + (16 + j)) (omega arith)
          ∙ past 6 12 l.destination fs2 (1 + (16 + j)) (omega arith)
          ∙ past 14 16 l.platform fs3 (1 + (16 + j)) (omega arith)
          ∙ ahead 18 19 l.operator fs4 (1 + (16 + j)) (omega arith)
          ∙ ahead 21 24 l.train [] (1 + (16 + j)) (omega arith);
      operator = λ j q.
          byte (17 + j) (line_fields l) h (omega arith) is
          ∙ past 1 4 time fs1 (1 + (17 + j)) (omega arith)
          ∙ past 6 12 l.destination fs2 (1 + (17 + j)) (omega arith)
          ∙ past 14 16 l.platform fs3 (1 + (17 + j)) (omega arith)
          ∙ within 18 19 l.operator fs4 (1 + (17 + j)) j (omega arith) (omega arith);
      twentieth = λ j q.
          byte (19 + j) (line_fields l) h (omega arith) is
          ∙ past 1 4 time fs1 (1 + (19 + j)) (omega arith)
          ∙ past 6 12 l.destination fs2 (1 + (19 + j)) (omega arith)
          ∙ past 14 16 l.platform fs3 (1 + (19 + j)) (omega arith)
          ∙ past 18 19 l.operator fs4 (1 + (19 + j)) (omega arith)
          ∙ ahead 21 24 l.train [] (1 + (19 + j)) (omega arith);
      train = λ j q.
          byte (20 + j) (line_fields l) h (omega arith) is
          ∙ past 1 4 time fs1 (1 + (20 + j)) (omega arith)
          ∙ past 6 12 l.destination fs2 (1 + (20 + j)) (omega arith)
          ∙ past 14 16 l.platform fs3 (1 + (20 + j)) (omega arith)
          ∙ past 18 19 l.operator fs4 (1 + (20 + j)) (omega arith)
          ∙ within 21 24 l.train [] (1 + (20 + j)) j (omega arith) (omega arith);
    }

pub laid_out : (heading : List ℕ) (lines : List Line) → LaidOut heading lines (page_of heading lines)
laid_out heading lines = record {
  bytes = refl;
  first = λ k h. heading_byte heading lines (0 + k) (omega arith) ∙ within 1 24 heading [] (1 + (0 + k)) k (omega arith) (omega arith);
  shown = shows_line heading lines;
  past = λ k few none j h. below_byte heading lines k (0 + j) [] few (omega arith) (ap (λ o. option_map_or line_fields o []) (slice_get_past lines k none));
}
