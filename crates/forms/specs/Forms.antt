-- The forms of the fields: what bytes mean, or none where they lack the form.
use Rattle.std.specs.Prelude.{ℕ, ◌+◌, ◌-◌, ◌*◌, Bool, if◌then◌else◌, ◌&&◌, ◌||◌, List, [], ◌∷◌, map, length, drop, Some, None, Option, ◌==◌, nat_eq, nat_lt, slice_index}
use Rattle.std.specs.List.{list_all, prefix_len}
use Rattle.calendar.specs.Calendar.{dated}
use Rattle.forms.specs.declared.text.Alphabet.{Alphabet}
use Rattle.forms.specs.declared.text.Alphabet.TheVariants.{Flags, Names}
use Rattle.forms.specs.Bytes.{columns, is_digit, is_letter, is_name, is_blank, allows, and_then, provided}

-- so many bytes of an alphabet, as they stand
abbrev pub text_in : ℕ → Alphabet → List ℕ → Option (List ℕ)
text_in width alphabet cs = provided (length cs == width && list_all (allows alphabet) cs) cs

-- the number that digits write, after those that wrote n
abbrev pub number_after : ℕ → List ℕ → Option ℕ
number_after n [] = Some n
number_after n (c ∷ cs) = if is_digit c then number_after (n * 10 + (c - 48)) cs else None

-- the number that digits write
abbrev pub number_in : List ℕ → Option ℕ
number_in cs = number_after 0 cs

-- a UID: a letter and five digits; its number is the letter's place times 100,000 plus the digits
abbrev pub uid_in : List ℕ → Option ℕ
uid_in cs =
    if length cs == 6 && is_letter (slice_index cs 0)
    then and_then (number_in (columns 2 6 cs)) (λ n. Some ((slice_index cs 0 - 65) * 100000 + n))
    else None

-- the years since 1960 that YY means: 60 to 99 for 1960 to 1999, 00 to 59 for 2000 to 2059
abbrev pub years_on : ℕ → ℕ
years_on yy = if nat_lt yy 60 then yy + 40 else yy - 60

-- a date, YYMMDD: the day number and weekday that the calendar has for it
abbrev pub date_in : List ℕ → Option (ℕ × ℕ)
date_in cs =
    if length cs == 6
    then and_then (number_in (columns 1 2 cs)) (λ yy.
    and_then (number_in (columns 3 4 cs)) (λ m.
    and_then (number_in (columns 5 6 cs)) (λ d.
    dated (years_on yy) m d)))
    else None

-- days run: seven of 0 or 1, Monday first; it runs on a day that has 1
abbrev pub days_run_in : List ℕ → Option (List Bool)
days_run_in cs = and_then (text_in 7 Flags cs) (λ flags. Some (map (λ c. nat_eq c 49) flags))

-- letters and digits, and from the first byte that is neither on only blanks
abbrev pub names_then_blanks : List ℕ → Bool
names_then_blanks cs = list_all is_blank (drop (prefix_len is_name cs) cs)

-- a TIPLOC: seven bytes, letters and digits, of which there is at least one, and after them only blanks
abbrev pub is_tiploc : List ℕ → Bool
is_tiploc cs = length cs == 7 && (is_name (slice_index cs 0) && names_then_blanks cs)

-- a TIPLOC, as it stands
abbrev pub tiploc_in : List ℕ → Option (List ℕ)
tiploc_in cs = provided (is_tiploc cs) cs

-- a suffix: a blank or a digit
abbrev pub suffix_in : ℕ → Option ℕ
suffix_in c = provided (is_blank c || is_digit c) c

-- the minute of the day; none at 0000
abbrev pub minute_of : ℕ → ℕ → Option ℕ
minute_of hours minutes = if hours == 0 && minutes == 0 then None else Some (60 * hours + minutes)

-- a public time, HHMM from 0000 to 2359
abbrev pub time_in : List ℕ → Option (Option ℕ)
time_in cs =
    if length cs == 4
    then and_then (number_in (columns 1 2 cs)) (λ h.
    and_then (number_in (columns 3 4 cs)) (λ m.
    provided (nat_lt h 24 && nat_lt m 60) (minute_of h m)))
    else None

-- a file reference: seven names
abbrev pub reference_in : List ℕ → Option (List ℕ)
reference_in cs = text_in 7 Names cs

-- the last file reference: seven names, or seven blanks
abbrev pub last_reference_in : List ℕ → Option (List ℕ)
last_reference_in cs = provided (length cs == 7 && (list_all is_name cs || list_all is_blank cs)) cs
