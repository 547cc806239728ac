-- The time from which on a page shows departures, by its word.
use Rattle.std.specs.Prelude.{ℕ, ◌+◌, ◌-◌, ◌*◌, ◌==◌, ◌&&◌, if◌then◌else◌, List, length}
use Rattle.std.specs.Prelude.{Option, Some, None}
use Rattle.forms.specs.Bytes.{and_then, byte_at, is_digit, provided}

-- the number that two digits write
abbrev pub number_of : ℕ → ℕ → Option ℕ
number_of tens ones =
    provided (is_digit tens && is_digit ones) (10 * (tens - 48) + (ones - 48))

-- the minute that HH:MM names: two digits, a colon and two digits, and nothing else
abbrev pub clock_in : List ℕ → Option ℕ
clock_in word =
    if length word == 5 && byte_at 3 word == 58
    then and_then (number_of (byte_at 1 word) (byte_at 2 word)) (λ hours.
    and_then (number_of (byte_at 4 word) (byte_at 5 word)) (λ minutes.
    Some (60 * hours + minutes)))
    else None
