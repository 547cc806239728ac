-- What every schedule that exists has, as a test of the record that holds it.
use Rattle.std.specs.Prelude.{ℕ, ◌+◌, Bool, true, false, if◌then◌else◌, ◌&&◌, List, [], ◌∷◌, take, drop, replicate, None, Option, ◌==◌, nat_le, nat_lt}
use Rattle.std.specs.List.{list_all}
use Rattle.std.specs.Str.{bytes_eq}
use Rattle.forms.specs.declared.end.End.{End}
use Rattle.forms.specs.declared.end.End.TheVariants.{Day, Never}
use Rattle.forms.specs.declared.letters.Stp.{Stp}
use Rattle.forms.specs.declared.letters.Stp.TheVariants.{Cancellation, Permanent}
use Rattle.forms.specs.Ends.{lasts}
use Rattle.cif.specs.declared.content.Location.{Location}
use Rattle.schedule.specs.declared.key.Key.{Key}
use Rattle.schedule.specs.declared.record.Record.{Record}

-- the key of a record
abbrev pub key_of : Record → Key
key_of r = r.key

-- the kept calls, in row order
abbrev pub kept_calls : Record → List Location
kept_calls r = take r.count r.calls

-- whether a call is at a TIPLOC, suffix disregarded
abbrev pub is_at : List ℕ → Location → Bool
is_at tiploc call = bytes_eq call.tiploc tiploc

-- how many of some calls are at a TIPLOC
abbrev pub visits : List ℕ → List Location → ℕ
visits tiploc [] = 0
visits tiploc (c ∷ cs) = if is_at tiploc c then visits tiploc cs + 1 else visits tiploc cs

-- no TIPLOC appears in more than two calls
abbrev pub few_visits : List Location → Bool
few_visits calls = list_all (λ c. nat_le (visits c.tiploc calls) 2) calls

-- whether there is no time
abbrev pub no_time : Option ℕ → Bool
no_time None = true
no_time _ = false

-- no operator
abbrev pub two_blanks : List ℕ
two_blanks = 32 ∷ 32 ∷ []

-- no platform
abbrev pub three_blanks : List ℕ
three_blanks = 32 ∷ 32 ∷ 32 ∷ []

-- no TIPLOC, or no file reference
abbrev pub seven_blanks : List ℕ
seven_blanks = 32 ∷ 32 ∷ 32 ∷ 32 ∷ 32 ∷ 32 ∷ 32 ∷ []

-- the call that fills a record's places past its kept calls
abbrev pub is_filler : Location → Bool
is_filler c =
    bytes_eq c.tiploc seven_blanks
    && (c.suffix == 32 && (no_time c.arrival && (no_time c.departure && bytes_eq c.platform three_blanks)))

-- that call
abbrev pub filler : Location
filler = record { tiploc = seven_blanks; suffix = 32; arrival = None; departure = None; platform = three_blanks }

-- a permanent schedule of day 0 that never runs, without calls, and blank
abbrev pub blank_record : Record
blank_record =
    record {
      key = record { uid = 0; from = 0; stp = Permanent };
      to = Day 0;
      days = replicate 7 false;
      train = 32 ∷ three_blanks;
      operator = two_blanks;
      destination = seven_blanks;
      calls = replicate 48 filler;
      count = 0;
    }

-- whether a letter is C
abbrev pub is_cancellation : Stp → Bool
is_cancellation Cancellation = true
is_cancellation _ = false

-- a cancellation has no calls, and blanks for operator and destination
abbrev pub is_bare_if_cancelled : Record → Bool
is_bare_if_cancelled r =
    if is_cancellation r.key.stp
    then r.count == 0 && (bytes_eq r.operator two_blanks && bytes_eq r.destination seven_blanks)
    else true

-- the last day, where there is one, is not above 36,524
abbrev pub is_numbered : End → Bool
is_numbered (Day last) = nat_le last 36524
is_numbered Never = true

-- the UID number is below 2,600,000, no day is above 36,524, it lasts to its first day
abbrev pub in_range : Record → Bool
in_range r = nat_lt r.key.uid 2600000 && (nat_le r.key.from 36524 && (lasts r.to r.key.from && is_numbered r.to))

-- a record that is a schedule: in range, at most 48 kept calls, no TIPLOC in more than two of them,
-- all places past them filled alike, and bare where it cancels
abbrev pub is_schedule : Record → Bool
is_schedule r =
    in_range r
    && (nat_le r.count 48
    && (few_visits (kept_calls r)
    && (list_all is_filler (drop r.count r.calls) && is_bare_if_cancelled r)))

-- every record of a list is a schedule
abbrev pub every_schedule : List Record → Bool
every_schedule rs = list_all is_schedule rs
