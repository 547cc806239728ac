-- The page of a board.
use Rattle.std.specs.Prelude.{ℕ, Bool, not, List, [], ◌∷◌, ◌++◌, take, filter, Some, None, Option, nat_le, nat_lt, ◌==◌, slice_get}
use Rattle.std.specs.List.{range_with_len, flat_map, list_all}
use Rattle.std.specs.Option.{option_map_or}
use Rattle.cif.specs.declared.refusal.Refusal.TheVariants.{PageLength, NoSuchMinute, BadNameByte}
use Rattle.cif.specs.Refusals.{TableLine, line}
use Rattle.cif.specs.Rows.{is_printable}
use Rattle.board.specs.declared.display.StationDay.{StationDay}
use Rattle.board.specs.declared.line.Line.{Line}
use Rattle.page.specs.Headings.{heading_of}
use Rattle.page.specs.Rows.{row_of, line_fields, heading_fields}

-- whether a line departs at or after a minute
abbrev pub departs_from : ℕ → Line → Bool
departs_from minute l = nat_le minute l.key.minute

-- the first ten lines that depart at or after a minute, in their order
abbrev pub first_ten : ℕ → List Line → List Line
first_ten minute lines = take 10 (filter (departs_from minute) lines)

-- the row at a place below the heading, counted from 0: that of the line at that place, or one without fields where there is none
abbrev pub row_at : List Line → ℕ → List ℕ
row_at lines place = row_of (option_map_or line_fields (slice_get lines place) [])

-- a page is its 11 rows, one directly after another: the heading and, below it, ten rows
abbrev pub page_of : List ℕ → List Line → List ℕ
page_of heading lines = row_of (heading_fields heading) ++ flat_map (row_at lines) (range_with_len 0 10)

-- the TIPLOC of a board, seven blanks where it has no station
abbrev pub tiploc_of : Option StationDay → List ℕ
tiploc_of (Some shown) = shown.station
tiploc_of None = 32 ∷ 32 ∷ 32 ∷ 32 ∷ 32 ∷ 32 ∷ 32 ∷ []

-- the page of a board, by its station and its lines, with a local name and from a minute on
abbrev pub page_for : Option StationDay → List Line → List ℕ → ℕ → List ℕ
page_for shown lines name minute = page_of (heading_of name (tiploc_of shown)) (first_ten minute lines)

-- the table of refusals of a page in so many bytes: they are not 264, the minute is above 1,439, a byte of the name is outside 32 to 126
abbrev pub page_lines : List ℕ → ℕ → ℕ → List TableLine
page_lines name minute bytes =
    line PageLength 0 (not (bytes == 264))
    ∷ line NoSuchMinute 0 (nat_lt 1439 minute)
    ∷ line BadNameByte 0 (not (list_all is_printable name))
    ∷ []
