-- A page as text: in a frame, and as a picture.
use Rattle.std.specs.Prelude.{ℕ, ◌+◌, ◌*◌, ◌/◌, ◌%◌, if◌then◌else◌, List, [], ◌++◌, map, length, take, drop, flat_map, codes, decimal, encode_utf8, slice_index, ◌==◌}
use Rattle.std.specs.List.{range_with_len}
use Rattle.forms.specs.Bytes.{is_blank}
use Rattle.wording.specs.Texts.{text_of}

-- the row of a page at a place, counted from 0: 24 bytes, or what is left where fewer are
abbrev pub row_bytes : List ℕ → ℕ → List ℕ
row_bytes page place = take 24 (drop (24 * place) page)

-- the rows of a page one after another, 11 where it has its 264 bytes; the last row is what is left
abbrev pub rows_of : List ℕ → List (List ℕ)
rows_of page = map (row_bytes page) (range_with_len 0 ((length page + 23) / 24))

-- the border above and below the rows, with 24 dashes
abbrev pub border : List ℕ
border = codes "+------------------------+"

-- a row stands in a line between two bars
abbrev pub row_text : List ℕ → List ℕ
row_text row = codes "|" ++ text_of row ++ codes "|\n"

-- a page in a frame: the border, each row, and the border again, at which no line feed stands
abbrev pub frame_text : List ℕ → List ℕ
frame_text page = border ++ codes "\n" ++ flat_map row_text (rows_of page) ++ border

-- a byte in a picture: the character of its number, three of them by their names
abbrev pub character_text : ℕ → List ℕ
character_text b =
    if b == 38 then codes "&amp;"
    else (if b == 60 then codes "&lt;"
    else (if b == 62 then codes "&gt;"
    else encode_utf8 b))

-- what is drawn of a byte at a column and a row, which count from 1: nothing of a blank
abbrev pub cell_text : ℕ → ℕ → ℕ → List ℕ
cell_text column row b =
    if is_blank b then []
    else codes "<text x=\"" ++ decimal (16 * column + 8) ++ codes "\" y=\"" ++ decimal (28 * row + 8)
    ++ codes "\">" ++ character_text b ++ codes "</text>\n"

-- what is drawn of the byte of a page at a place, counted from 0, with 24 places to a row
abbrev pub place_text : List ℕ → ℕ → List ℕ
place_text page place = cell_text (place % 24 + 1) (place / 24 + 1) (slice_index page place)

-- what stands above the characters of a picture
abbrev pub head : List ℕ
head =
    codes "<svg xmlns=\"http://www.w3.org/2000/svg\" width=\"416\" height=\"340\" viewBox=\"0 0 416 340\">\n"
    ++ codes "<defs><pattern id=\"cell\" x=\"16\" y=\"16\" width=\"16\" height=\"28\" patternUnits=\"userSpaceOnUse\">"
    ++ codes "<rect width=\"15\" height=\"26\" rx=\"2\" fill=\"#1c1a17\"/></pattern></defs>\n"
    ++ codes "<rect width=\"416\" height=\"340\" rx=\"8\" fill=\"#0b0a09\"/>\n"
    ++ codes "<rect x=\"16\" y=\"16\" width=\"384\" height=\"308\" fill=\"url(#cell)\"/>\n"
    ++ codes "<g fill=\"#ffb000\" font-family=\"monospace\" font-size=\"20\" text-anchor=\"middle\">\n"

-- what stands below them
abbrev pub foot : List ℕ
foot = codes "</g>\n</svg>\n"

-- a page as a picture, place by place; rows past the 11th, which no page has, stand below it
abbrev pub picture_text : List ℕ → List ℕ
picture_text page =
    head ++ flat_map (place_text page) (range_with_len 0 (length page)) ++ foot
