-- What a board shows and has.
use Rattle.std.specs.Prelude.{ℕ, List, Option}
use Rattle.std.specs.Borrow.{MutBor}
use Rattle.ordered.specs.Tables.{items, room, IsLent, RestKept}
use Rattle.board.specs.declared.display.Board.{Board}
use Rattle.board.specs.declared.display.StationDay.{StationDay}
use Rattle.board.specs.declared.line.Line.{Line}

-- the station and day that it was turned to, if it was
abbrev pub shown_of : Board → Option StationDay
shown_of b = b.shown

-- its lines, in order
abbrev pub lines_of : Board → List Line
lines_of b = items b.lines.elements

-- how many line slots it has
abbrev pub slots_of : Board → ℕ
slots_of b = room b.lines.elements

-- the slots past the lines that it now has keep what they had, and none is lost
abbrev pub SlotsKept : Board → Board → Type 0
SlotsKept before after = RestKept before.lines.elements after.lines.elements

-- its line slots are those that a caller lends, and have what they had
abbrev pub HasSlots : MutBor (List Line) → Board → Type 0
HasSlots lent b = IsLent lent b.lines.elements
