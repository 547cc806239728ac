-- The fields of each kind of row, at their columns, and what the row holds.
use Rattle.std.specs.Prelude.{ℕ, ◌+◌, Bool, true, false, cond, not, ◌&&◌, List, [], ◌∷◌, Some, None, Ok, Err, Option, Result}
use Rattle.forms.specs.declared.letters.Stp.{Stp}
use Rattle.forms.specs.declared.letters.TransactionType.{TransactionType}
use Rattle.forms.specs.declared.letters.TransactionType.TheVariants.{New as AsNew, Revise as AsRevised, Delete as AsDeleted}
use Rattle.forms.specs.declared.letters.Coverage.{Coverage}
use Rattle.forms.specs.declared.end.End.{End}
use Rattle.forms.specs.declared.text.Alphabet.TheVariants.{Labels}
use Rattle.forms.specs.Bytes.{columns, byte_at}
use Rattle.forms.specs.Letters.{stp_in, transaction_in, coverage_in}
use Rattle.forms.specs.Forms.{text_in, uid_in, date_in, days_run_in, tiploc_in, suffix_in, time_in, reference_in, last_reference_in}
use Rattle.forms.specs.Ends.{lasts, end_in}
use Rattle.cif.specs.declared.refusal.Refusal.TheVariants.{EndsBeforeStart}
use Rattle.cif.specs.declared.refusal.ColumnFault.{ColumnFault}
use Rattle.cif.specs.declared.content.Header.{Header}
use Rattle.cif.specs.declared.content.BasicSchedule.{BasicSchedule}
use Rattle.cif.specs.declared.content.Action.{Action}
use Rattle.cif.specs.declared.content.Action.TheVariants.{New, Revise, Delete}
use Rattle.cif.specs.declared.content.Running.{Running}
use Rattle.cif.specs.declared.content.Location.{Location}
use Rattle.cif.specs.Refusals.{TableLine, line, form_line, fault_at, field_at, then}

-- HD: the current and the last file reference, full or update
abbrev pub current_reference : List ℕ → Option (List ℕ)
current_reference row = reference_in (columns 33 39 row)

abbrev pub last_reference : List ℕ → Option (List ℕ)
last_reference row = last_reference_in (columns 40 46 row)

abbrev pub coverage_of : List ℕ → Option Coverage
coverage_of row = coverage_in (byte_at 47 row)

-- the lines of an HD row's fields
abbrev pub header_lines : List ℕ → List TableLine
header_lines row = form_line 33 (current_reference row) ∷ form_line 40 (last_reference row) ∷ form_line 47 (coverage_of row) ∷ []

-- what an HD row holds, or the fault of its leftmost field without its form
abbrev pub header_in : List ℕ → Result Header ColumnFault
header_in row =
    then (field_at 33 (current_reference row)) (λ c.
    then (field_at 40 (last_reference row)) (λ l.
    then (field_at 47 (coverage_of row)) (λ k.
    Ok (record { current = c; last = l; coverage = k }))))

-- BS: transaction, UID, first day and end, days run, train identity, STP letter
abbrev pub transaction_of : List ℕ → Option TransactionType
transaction_of row = transaction_in (byte_at 3 row)

abbrev pub uid_of : List ℕ → Option ℕ
uid_of row = uid_in (columns 4 9 row)

abbrev pub from_of : List ℕ → Option (ℕ × ℕ)
from_of row = date_in (columns 10 15 row)

abbrev pub to_of : List ℕ → Option End
to_of row = end_in (columns 16 21 row)

abbrev pub days_of : List ℕ → Option (List Bool)
days_of row = days_run_in (columns 22 28 row)

abbrev pub train_of : List ℕ → Option (List ℕ)
train_of row = text_in 4 Labels (columns 33 36 row)

abbrev pub stp_of : List ℕ → Option Stp
stp_of row = stp_in (byte_at 80 row)

-- whether a transaction is known and is no deletion, so that all fields are read
abbrev pub reads_all : Option TransactionType → Bool
reads_all (Some AsNew) = true
reads_all (Some AsRevised) = true
reads_all _ = false

-- whether it runs from a later day than it runs to: it does not last to its first day
abbrev pub ends_before : Option (ℕ × ℕ) → Option End → Bool
ends_before (Some from) (Some to) = not (lasts to from.0)
ends_before _ _ = false

-- a line that counts only under a condition
abbrev pub line_under : Bool → TableLine → TableLine
line_under b l = (l.0, b && l.1)

-- the lines of a BS row's fields, by the end that columns 16 to 21 tell; in a deletion only columns 3, 4 to 9, 10 to 15 and 80 are read
abbrev pub schedule_lines_by : Option End → List ℕ → List TableLine
schedule_lines_by to row =
    form_line 3 (transaction_of row)
    ∷ form_line 4 (uid_of row)
    ∷ form_line 10 (from_of row)
    ∷ line_under (reads_all (transaction_of row)) (form_line 16 to)
    ∷ line_under (reads_all (transaction_of row)) (form_line 22 (days_of row))
    ∷ line_under (reads_all (transaction_of row)) (form_line 33 (train_of row))
    ∷ form_line 80 (stp_of row)
    ∷ line_under (reads_all (transaction_of row)) (line EndsBeforeStart 16 (ends_before (from_of row) to))
    ∷ []

abbrev pub schedule_lines : List ℕ → List TableLine
schedule_lines row = schedule_lines_by (to_of row) row

-- what columns 16 to 36 hold, by that end
abbrev pub running_by : Option End → List ℕ → Result Running ColumnFault
running_by to row =
    then (field_at 16 to) (λ t.
    then (field_at 22 (days_of row)) (λ d.
    then (field_at 33 (train_of row)) (λ i.
    Ok (record { to = t; days = d; train = i }))))

abbrev pub running_in : List ℕ → Result Running ColumnFault
running_in row = running_by (to_of row) row

-- what is done with the schedule, by the transaction; a deletion asks for no more
abbrev pub action_in : TransactionType → Result Running ColumnFault → Result Action ColumnFault
action_in AsNew running = then running (λ r. Ok (New r))
action_in AsRevised running = then running (λ r. Ok (Revise r))
action_in AsDeleted running = Ok Delete

-- whether a train that runs from a day on lasts to that day
abbrev pub runs_on : (ℕ × ℕ) → Action → Bool
runs_on from (New r) = lasts r.to from.0
runs_on from (Revise r) = lasts r.to from.0
runs_on from Delete = true

-- what a BS row holds, by that end, or its first fault
abbrev pub schedule_by : Option End → List ℕ → Result BasicSchedule ColumnFault
schedule_by to row =
    then (field_at 3 (transaction_of row)) (λ t.
    then (field_at 4 (uid_of row)) (λ u.
    then (field_at 10 (from_of row)) (λ f.
    then (action_in t (running_by to row)) (λ c.
    then (field_at 80 (stp_of row)) (λ s.
    cond (runs_on f c) (Ok (record { uid = u; from = f; stp = s; action = c })) (Err (fault_at EndsBeforeStart 16)))))))

abbrev pub schedule_in : List ℕ → Result BasicSchedule ColumnFault
schedule_in row = schedule_by (to_of row) row

-- BX: the operator
abbrev pub operator_of : List ℕ → Option (List ℕ)
operator_of row = text_in 2 Labels (columns 12 13 row)

-- the line of a BX row's field
abbrev pub operator_lines : List ℕ → List TableLine
operator_lines row = form_line 12 (operator_of row) ∷ []

-- what a BX row holds
abbrev pub operator_in : List ℕ → Result (List ℕ) ColumnFault
operator_in row = field_at 12 (operator_of row)

-- LO, LI and LT: TIPLOC and suffix, then public times and platform at columns of their own
abbrev pub tiploc_of : List ℕ → Option (List ℕ)
tiploc_of row = tiploc_in (columns 3 9 row)

abbrev pub suffix_of : List ℕ → Option ℕ
suffix_of row = suffix_in (byte_at 10 row)

-- the public time from a column on
abbrev pub time_at : ℕ → List ℕ → Option (Option ℕ)
time_at first row = time_in (columns first (first + 3) row)

-- the platform from a column on
abbrev pub platform_at : ℕ → List ℕ → Option (List ℕ)
platform_at first row = text_in 3 Labels (columns first (first + 2) row)

-- the lines of an LO or LT row's fields, of which one is a public time
abbrev pub end_lines : List ℕ → List TableLine
end_lines row = form_line 3 (tiploc_of row) ∷ form_line 10 (suffix_of row) ∷ form_line 16 (time_at 16 row) ∷ form_line 20 (platform_at 20 row) ∷ []

-- the lines of an LI row's fields, of which two are
abbrev pub intermediate_lines : List ℕ → List TableLine
intermediate_lines row =
    form_line 3 (tiploc_of row) ∷ form_line 10 (suffix_of row) ∷ form_line 26 (time_at 26 row) ∷ form_line 30 (time_at 30 row) ∷ form_line 34 (platform_at 34 row) ∷ []

-- the origin has a departure only
abbrev pub origin_in : List ℕ → Result Location ColumnFault
origin_in row =
    then (field_at 3 (tiploc_of row)) (λ t.
    then (field_at 10 (suffix_of row)) (λ s.
    then (field_at 16 (time_at 16 row)) (λ d.
    then (field_at 20 (platform_at 20 row)) (λ p.
    Ok (record { tiploc = t; suffix = s; arrival = None; departure = d; platform = p })))))

-- an intermediate location has both
abbrev pub intermediate_in : List ℕ → Result Location ColumnFault
intermediate_in row =
    then (field_at 3 (tiploc_of row)) (λ t.
    then (field_at 10 (suffix_of row)) (λ s.
    then (field_at 26 (time_at 26 row)) (λ a.
    then (field_at 30 (time_at 30 row)) (λ d.
    then (field_at 34 (platform_at 34 row)) (λ p.
    Ok (record { tiploc = t; suffix = s; arrival = a; departure = d; platform = p }))))))

-- the terminus has an arrival only
abbrev pub terminus_in : List ℕ → Result Location ColumnFault
terminus_in row =
    then (field_at 3 (tiploc_of row)) (λ t.
    then (field_at 10 (suffix_of row)) (λ s.
    then (field_at 16 (time_at 16 row)) (λ a.
    then (field_at 20 (platform_at 20 row)) (λ p.
    Ok (record { tiploc = t; suffix = s; arrival = a; departure = None; platform = p })))))
