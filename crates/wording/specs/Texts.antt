-- Texts, numbers, times, days and faults in plain words.
use Rattle.std.specs.Prelude.{ℕ, Bool, List, ◌∷◌, ◌++◌, ◌+◌, ◌-◌, ◌/◌, ◌%◌, [], map, filter, zip, take, replicate, length, codes, decimal, flat_map, encode_utf8}
use Rattle.std.specs.List.{join_with_byte}
use Rattle.cif.specs.Refusals.{number_of}
use Rattle.cif.specs.declared.refusal.RowFault.{RowFault}

-- bytes are written each as the character of its number
abbrev pub text_of : List ℕ → List ℕ
text_of bytes = flat_map encode_utf8 bytes

-- a number is written in so many digits at least, with zeros before it
abbrev pub in_digits : ℕ → ℕ → List ℕ
in_digits width n = replicate (width - length (decimal n)) 48 ++ decimal n

-- a UID is a letter for the hundreds of thousands, and five digits
abbrev pub uid_text : ℕ → List ℕ
uid_text n = (65 + n / 100000 % 26) ∷ in_digits 5 (n % 100000)

-- a time of day is its hours and minutes, in two digits each
abbrev pub clock_text : ℕ → List ℕ
clock_text minute = in_digits 2 (minute / 60) ++ codes ":" ++ in_digits 2 (minute % 60)

-- the weekdays in order
abbrev pub weekdays : List (List ℕ)
weekdays = codes "Monday" ∷ codes "Tuesday" ∷ codes "Wednesday" ∷ codes "Thursday"
    ∷ codes "Friday" ∷ codes "Saturday" ∷ codes "Sunday" ∷ []

-- the weekdays that are run, each by its first three letters
abbrev pub names_run : List Bool → List (List ℕ)
names_run days = map (λ day. take 3 day.0) (filter (λ day. day.1) (zip weekdays days))

-- names stand with one blank between two, and "on no day" where there is none
abbrev pub days_named : List (List ℕ) → List ℕ
days_named [] = codes "on no day"
days_named (name ∷ names) = join_with_byte 32 (name ∷ names)

-- a train that has no last day
abbrev pub no_end_text : List ℕ
no_end_text = codes "until further notice"

-- the days of the week on which a train runs
abbrev pub days_text : List Bool → List ℕ
days_text days = days_named (names_run days)

-- a fault is told by its number, its column and the identity of its row
abbrev pub fault_text : RowFault → List ℕ
fault_text f = codes "refused " ++ decimal (number_of f.fault.refusal)
    ++ codes ", column " ++ decimal f.fault.column
    ++ codes ", identity \"" ++ text_of f.identity ++ codes "\""
