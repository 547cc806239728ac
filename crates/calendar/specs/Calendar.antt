-- The Gregorian calendar from 1960 to 2059, and the numbers of its days.
use Rattle.std.specs.Prelude.{ℕ, ◌+◌, ◌-◌, ◌*◌, ◌/◌, ◌%◌, Bool, if◌then◌else◌, not, ◌&&◌, ◌||◌, Some, None, Option, ◌==◌, nat_le, nat_lt}

-- the calendar's rule for leap years: each fourth year, of the centuries each fourth
abbrev pub is_leap_year : ℕ → Bool
is_leap_year y = y % 4 == 0 && (not (y % 100 == 0) || y % 400 == 0)

-- the days of a month: 30 in April, June, September and November, 28 or 29 in February, else 31
abbrev pub days_in : Bool → ℕ → ℕ
days_in leap m =
    if m == 2 then (if leap then 29 else 28) else (if m == 4 || (m == 6 || (m == 9 || m == 11)) then 30 else 31)

-- the calendar has a day d in month m of the year 1960 + k, one of the hundred years that are numbered
abbrev pub exists : ℕ → ℕ → ℕ → Bool
exists k m d = nat_lt k 100 && (nat_le 1 m && (nat_le m 12 && (nat_le 1 d && nat_le d (days_in (is_leap_year (1960 + k)) m))))

-- the days of the year before month m
abbrev pub month_start : ℕ → ℕ → ℕ
month_start k m = (367 * m - 362) / 12 - (if nat_le m 2 then 0 else (if k % 4 == 0 then 1 else 2))

-- the number of the day d in month m of the year 1960 + k
abbrev pub day_number : ℕ → ℕ → ℕ → ℕ
day_number k m d = 365 * k + (k + 3) / 4 + month_start k m + d - 1

-- the weekday of a day number, Monday being 0
abbrev pub weekday : ℕ → ℕ
weekday n = (n + 4) % 7

-- a date is told as its day number and weekday together, where the calendar has it
abbrev pub dated : ℕ → ℕ → ℕ → Option (ℕ × ℕ)
dated k m d = if exists k m d then Some (day_number k m d, weekday (day_number k m d)) else None
