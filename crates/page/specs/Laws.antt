-- What stands where on a page, which lines it shows, and what its heading is.
use Rattle.std.specs.Prelude.{◌≡◌, ℕ, ◌+◌, ◌*◌, ◌<◌, ◌≤◌, true, false, not, ◌⊎◌, List, [], ◌++◌, length, reverse, Some, get_or, slice_get}
use Rattle.std.specs.List.{list_all}
use Rattle.forms.specs.Bytes.{is_blank}
use Rattle.board.specs.declared.line.Line.{Line}
use Rattle.forms.specs.Forms.{time_in}
use Rattle.page.specs.Rows.{hour_minute}
use Rattle.page.specs.Pages.{departs_from, page_of}

-- the byte of a page at a row and a place within it, both counted from 0
abbrev pub at : List ℕ → ℕ → ℕ → ℕ
at page row place = get_or page (24 * row + place) 0

-- a row of a page has a text of so many bytes from a place on, and blanks past the text's end
abbrev pub Has : List ℕ → ℕ → ℕ → ℕ → List ℕ → Type 0
Has page row place n text = (k : ℕ) → k < n → at page row (place + k) ≡ get_or text k 32

-- a row of a page shows a line: each of its 24 bytes is the byte of a field in its columns, or a blank between them
pub record ShowsLine (page : List ℕ) (row : ℕ) (l : Line) : Type 0 where
  pub hour_minute : Has page row 0 4 (hour_minute l.key.minute)
  pub fifth : Has page row 4 1 []
  pub destination : Has page row 5 7 l.destination
  pub thirteenth : Has page row 12 1 []
  pub platform : Has page row 13 3 l.platform
  pub seventeenth : Has page row 16 1 []
  pub operator : Has page row 17 2 l.operator
  pub twentieth : Has page row 19 1 []
  pub train : Has page row 20 4 l.train

-- a page by its places: the heading cut at 24, a line in each row below it from the first on, and blanks in the rows past the lines
pub record LaidOut (heading : List ℕ) (lines : List Line) (page : List ℕ) : Type 0 where
  pub bytes : length page ≡ 264
  pub first : Has page 0 0 24 heading
  pub shown : (k : ℕ) (l : Line) → k < 10 → slice_get lines k ≡ Some l → ShowsLine page (k + 1) l
  pub past : (k : ℕ) → k < 10 → length lines ≤ k → Has page (k + 1) 0 24 []

-- the page of a heading and lines is laid out so, whatever they are
abbrev pub PageIsLaidOut : Type 0
PageIsLaidOut = (heading : List ℕ) (lines : List Line) → LaidOut heading lines (page_of heading lines)

-- of a board's lines these are shown from a minute on: the lines of the board are some that depart before the minute, those that are
-- shown, which depart at or after it, and the rest, of which there are none unless ten are shown
pub record ShownFrom (minute : ℕ) (lines shown : List Line) : Type 0 where
  pub before : List Line
  pub rest : List Line
  pub are : lines ≡ before ++ shown ++ rest
  pub earlier : list_all (λ l. not (departs_from minute l)) before ≡ true
  pub later : list_all (departs_from minute) shown ≡ true
  pub at_most : length shown ≤ 10
  pub whole : (rest ≡ []) ⊎ (length shown ≡ 10)

-- a text neither begins nor ends with a blank
pub record NoBlankEnds (text : List ℕ) : Type 0 where
  pub first : (0 < length text) → is_blank (get_or text 0 32) ≡ false
  pub last : (0 < length text) → is_blank (get_or (reverse text) 0 32) ≡ false

-- a text is a run of another's own bytes, with nothing but blanks before and behind it, and neither begins nor ends with a blank
pub record TrimmedFrom (text trimmed : List ℕ) : Type 0 where
  pub before : List ℕ
  pub behind : List ℕ
  pub are : text ≡ before ++ trimmed ++ behind
  pub blank_before : list_all is_blank before ≡ true
  pub blank_behind : list_all is_blank behind ≡ true
  pub ends : NoBlankEnds trimmed

-- a heading is trimmed from the name, unless that has only blanks, and from the TIPLOC where it has
abbrev pub HeadingFrom : List ℕ → List ℕ → List ℕ → Type 0
HeadingFrom name tiploc heading =
    (TrimmedFrom name heading × (list_all is_blank name ≡ false))
    ⊎ (TrimmedFrom tiploc heading × (list_all is_blank name ≡ true))

-- those rules leave no choice of a page, of the lines that it shows, or of its heading
pub record PageIsOne : Type 0 where
  pub page : (heading : List ℕ) (lines : List Line) (xs ys : List ℕ) → LaidOut heading lines xs → LaidOut heading lines ys → xs ≡ ys
  pub shown : (minute : ℕ) (lines xs ys : List Line) → ShownFrom minute lines xs → ShownFrom minute lines ys → xs ≡ ys
  pub heading : (name tiploc xs ys : List ℕ) → HeadingFrom name tiploc xs → HeadingFrom name tiploc ys → xs ≡ ys

-- the hour and the minute of a row are read back as that minute, where it is one of a day
abbrev pub MinuteIsRead : Type 0
MinuteIsRead = (m : ℕ) → 0 < m → m < 1440 → time_in (hour_minute m) ≡ Some (Some m)
