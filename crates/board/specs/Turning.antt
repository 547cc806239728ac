-- When a board can be turned to a station and day.
use Rattle.std.specs.Prelude.{ℕ, ◌*◌, cond, not, ◌&&◌, ◌||◌, List, [], ◌∷◌, Option, Some, None, nat_lt, nat_le}
use Rattle.forms.specs.Forms.{is_tiploc}
use Rattle.cif.specs.declared.refusal.Refusal.TheVariants.{NoSuchBoard, TooFewSlots}
use Rattle.cif.specs.Refusals.{TableLine, line}
use Rattle.board.specs.declared.display.StationDay.{StationDay}

-- the line of a board that has fewer line slots than twice the capacity
abbrev pub slot_lines : ℕ → ℕ → List TableLine
slot_lines slots capacity = line TooFewSlots 0 (nat_lt slots (2 * capacity)) ∷ []

-- the table of refusals of a turn: the station is not a seven-byte TIPLOC or the day is above 36,524; the line slots are fewer than twice the capacity
abbrev pub turn_lines : List ℕ → ℕ → ℕ → ℕ → List TableLine
turn_lines station day slots capacity =
    line NoSuchBoard 0 (not (is_tiploc station) || nat_lt 36524 day) ∷ slot_lines slots capacity

-- the station and day that a board is turned to, where the station is a TIPLOC and the day not above 36,524
abbrev pub shown_for : List ℕ → ℕ → Option StationDay
shown_for station day = cond (is_tiploc station && nat_le day 36524) (Some (record { station = station; day = day })) None
