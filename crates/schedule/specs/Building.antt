-- A schedule as it is read, row by row.
use Rattle.std.specs.Prelude.{◌≡◌, ℕ, ◌+◌, Bool, if◌then◌else◌, not, ◌&&◌, List, [], ◌∷◌, nat_le, slice_set}
use Rattle.forms.specs.declared.end.End.{End}
use Rattle.cif.specs.declared.content.Location.{Location}
use Rattle.cif.specs.declared.refusal.Refusal.TheVariants.{TooManyCalls, TooManyVisits}
use Rattle.cif.specs.Refusals.{TableLine, line}
use Rattle.schedule.specs.declared.key.Key.{Key}
use Rattle.schedule.specs.declared.record.Record.{Record}
use Rattle.schedule.specs.declared.schedule.Schedule.{Schedule}
use Rattle.schedule.specs.declared.transaction.Change.{Change}
use Rattle.schedule.specs.declared.transaction.Change.TheVariants.{New, Revise, Delete}
use Rattle.schedule.specs.declared.transaction.Transaction.{Transaction}
use Rattle.schedule.specs.declared.transaction.Transaction.TheVariants.{New as IsNew, Revise as IsRevised, Delete as IsDeleted}
use Rattle.schedule.specs.Records.{kept_calls, visits, no_time, is_cancellation, blank_record}

-- a schedule begins without calls, and with blanks for operator and destination
abbrev pub begun_with : Key → End → List Bool → List ℕ → Record
begun_with key to days train =
    record blank_record { key = key; to = to; days = days; train = train }

-- the schedule with an operator; a cancellation stays bare
abbrev pub with_operator : Record → List ℕ → Record
with_operator r operator =
    if is_cancellation r.key.stp then r else record r { operator = operator }

-- the schedule with a destination; a cancellation stays bare
abbrev pub with_destination : Record → List ℕ → Record
with_destination r destination =
    if is_cancellation r.key.stp then r else record r { destination = destination }

-- a location row is a kept call when it has a public arrival or a public departure
abbrev pub is_kept : Location → Bool
is_kept l = not (no_time l.arrival && no_time l.departure)

-- whether a location would be a call more: a cancellation keeps none
abbrev pub adds_call : Record → Location → Bool
adds_call r l = not (is_cancellation r.key.stp) && is_kept l

-- the schedule with a location's call after those that it has, if the location is a kept call
abbrev pub with_call : Record → Location → Record
with_call r l =
    if adds_call r l then record r { calls = slice_set r.calls r.count l; count = r.count + 1 } else r

-- why a location cannot be taken: a 49th kept call, a third kept call at one TIPLOC
abbrev pub call_lines : Record → Location → List TableLine
call_lines r l =
    line TooManyCalls 3 (adds_call r l && nat_le 48 r.count)
    ∷ line TooManyVisits 3 (adds_call r l && nat_le 2 (visits l.tiploc (kept_calls r)))
    ∷ []

-- a transaction with its schedule changed
abbrev pub bringing : (Record → Record) → Change → Change
bringing f (New r) = New (f r)
bringing f (Revise r) = Revise (f r)
bringing f (Delete k) = Delete k

-- a transaction with a step taken on its schedule
abbrev pub Brings : (Schedule → Schedule → Type 0) → Transaction → Transaction → Type 0
Brings step (IsNew s) after = (t : Schedule) × step s t × (after ≡ IsNew t)
Brings step (IsRevised s) after = (t : Schedule) × step s t × (after ≡ IsRevised t)
Brings step (IsDeleted k) after = after ≡ IsDeleted k

-- why a location cannot be taken into the schedule that a transaction brings
abbrev pub bringing_lines : Change → Location → List TableLine
bringing_lines (New r) l = call_lines r l
bringing_lines (Revise r) l = call_lines r l
bringing_lines _ l = []
