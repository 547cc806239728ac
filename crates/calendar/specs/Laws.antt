-- What a calendar's numbering has to do, said of the definitions.
use Rattle.std.specs.Prelude.{◌≡◌, ℕ, ◌+◌, ◌%◌, ◌≤◌, true, if◌then◌else◌, nat_lt}
use Rattle.calendar.specs.Calendar.{is_leap_year, days_in, exists, day_number, weekday}

-- a date: years since 1960, month and day of the month
pub record Date : Type 0 where
  pub year : ℕ
  pub month : ℕ
  pub day : ℕ

-- the calendar has the date
abbrev pub IsDate : Date → Type 0
IsDate x = exists x.year x.month x.day ≡ true

-- the number of a date
abbrev pub number_of : Date → ℕ
number_of x = day_number x.year x.month x.day

-- the calendar's next date: the next day of the month, else the first of the next month, else New Year
abbrev pub tomorrow : Date → Date
tomorrow x =
    if nat_lt x.day (days_in (is_leap_year (1960 + x.year)) x.month)
    then record x { day = x.day + 1 }
    else (if nat_lt x.month 12
    then record x { month = x.month + 1; day = 1 }
    else record { year = x.year + 1; month = 1; day = 1 })

-- the numbering is the calendar's: it begins at 0, and the next date has the next number and the next weekday
pub record NumbersTheDays : Type 0 where
  pub begins : number_of (record { year = 0; month = 1; day = 1 }) ≡ 0
  pub follows : (x : Date) → IsDate x → number_of (tomorrow x) ≡ number_of x + 1
  pub turns : (x : Date) → IsDate x → weekday (number_of (tomorrow x)) ≡ (weekday (number_of x) + 1) % 7

-- the numbers of all dates of the hundred years lie from 0 to the last day's
abbrev pub StaysInRange : ℕ → Type 0
StaysInRange last = (x : Date) → IsDate x → number_of x ≤ last

-- two dates with one number are one date
abbrev pub TellsDatesApart : Type 0
TellsDatesApart = (x y : Date) → IsDate x → IsDate y → number_of x ≡ number_of y → x ≡ y
