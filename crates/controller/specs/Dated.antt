-- The ledger by the rules as they were while every schedule had a last day, and that nothing changes where no row says that there is none.
use Rattle.std.specs.Prelude.{◌≡◌, ℕ, Bool, true, false, cond, not, List, [], ◌∷◌, ◌++◌, Option, fold}
use Rattle.std.specs.List.{list_all}
use Rattle.std.specs.Option.{option_map, option_map_or}
use Rattle.cif.specs.Refusals.{uppermost, is_missing}
use Rattle.cif.specs.Rows.{identity_in}
use Rattle.cif.specs.Dated.{dated_read, dated_lines, has_no_end}
use Rattle.schedule.specs.declared.record.Record.{Record}
use Rattle.schedule.specs.Ended.{each_ends}
use Rattle.running.specs.Dated.{dated_covering}
use Rattle.extract.specs.Progress.{transactions_of}
use Rattle.extract.specs.Dated.{dated_progress, dated_transactions, none_has_no_end}
use Rattle.extract.specs.Judging.{Standing}
use Rattle.board.specs.declared.line.Line.{Line}
use Rattle.board.specs.Lines.{LinesBy}
use Rattle.controller.specs.declared.fault.ExtractFault.{ExtractFault}
use Rattle.controller.specs.Calls.{Call, Confirm, row_of, value_in, refusals_by, told_with, refusal_of}
use Rattle.controller.specs.Ledger.{Ledger, Entry, new_ledger, with_progress, ledger_with, ledger_after, ledger_after_all, confirmed_map, standing_of, LinesOf}

-- THE RULES AS THEY WERE: when a call is turned away, and with what, where columns 16 to 21 of a BS are read as a date
abbrev pub dated_refusal : Call → Standing → ℕ → Option ExtractFault
dated_refusal call s slots =
    option_map (told_with call s)
    (uppermost (refusals_by (λ row. dated_lines (identity_in row) row) (λ row. value_in (dated_read row)) call s slots))

-- what a call is judged by
abbrev pub dated_standing : Ledger → ℕ → Standing
dated_standing ℓ capacity = record (standing_of ℓ capacity) { extract = dated_progress ℓ.rows }

-- what an accepted call changes in the ledger
abbrev pub dated_with : Ledger → Call → Ledger
dated_with ℓ Confirm = with_progress ℓ (dated_progress ℓ.rows)
dated_with ℓ call = ledger_with ℓ call

-- the ledger after a call, by whether it was accepted, and after entries, in order
abbrev pub dated_after : Ledger → Call → Bool → Ledger
dated_after ℓ call accepted = cond accepted (dated_with ℓ call) ℓ

abbrev pub dated_after_all : Ledger → List Entry → Ledger
dated_after_all ℓ entries = fold (λ (l : Ledger) (e : Entry). dated_after l e.0 e.1) ℓ entries

-- the lines, where a schedule covers the days between two days
abbrev pub DatedLinesOf : Ledger → List Line → Type 0
DatedLinesOf ℓ lines = LinesBy dated_covering (confirmed_map ℓ) ℓ.shown lines

-- a call is handed a BS row with N or R that has 999999 in columns 16 to 21
abbrev pub is_handed_no_end : Call → Bool
is_handed_no_end call = option_map_or has_no_end (row_of call) false

-- the rows that a call confirms, by whether it was accepted: those of the open extract, where it is a confirmation
abbrev pub rows_confirmed_by : Ledger → Call → Bool → List (List ℕ)
rows_confirmed_by ℓ Confirm true = ℓ.rows
rows_confirmed_by ℓ call accepted = []

-- the rows that entries confirm, in order; those of an extract that is abandoned are not among them
abbrev pub rows_confirmed : Ledger → List Entry → List (List ℕ)
rows_confirmed ℓ [] = []
rows_confirmed ℓ ((call, accepted) ∷ entries) = rows_confirmed_by ℓ call accepted ++ rows_confirmed (ledger_after ℓ call accepted) entries

-- the rows of the ledger after entries, confirmed and open
abbrev pub rows_after_all : Ledger → List Entry → List (List ℕ)
rows_after_all ℓ entries = rows_confirmed ℓ entries ++ (ledger_after_all ℓ entries).rows

-- none of some calls is handed one
abbrev pub none_is_handed_no_end : List Call → Bool
none_is_handed_no_end calls = list_all (λ call. not (is_handed_no_end call)) calls

-- a ledger by the rules of today and one by the rules as they were are the same: the rows, confirmed transactions and reference; the
-- transactions of the rows; how each call that is not handed such a row is judged; the map
pub record SameByBoth (now before : Ledger) : Type 0 where
  pub ledger : now ≡ before
  pub transactions : transactions_of now.rows ≡ dated_transactions before.rows
  pub verdicts : (call : Call) (capacity slots : ℕ) → is_handed_no_end call ≡ false
      → refusal_of call (standing_of now capacity) slots ≡ dated_refusal call (dated_standing before capacity) slots
  pub map : confirmed_map now ≡ confirmed_map before

-- and they have the same lines
abbrev pub SameLinesByBoth : Ledger → Ledger → Type 0
SameLinesByBoth now before = (lines : List Line) → (LinesOf now lines → DatedLinesOf before lines) × (DatedLinesOf before lines → LinesOf now lines)

-- the ledger of calls that are heard one after another, each accepted or refused as a rule judges it, by what a rule says that they leave
abbrev pub heard_by : (Ledger → Call → Option ExtractFault) → (Ledger → Call → Bool → Ledger) → Ledger → List Call → Ledger
heard_by judged left ℓ calls = fold (λ (l : Ledger) (call : Call). left l call (is_missing (judged l call))) ℓ calls

-- by the rules of today, and by the rules as they were, for a store's capacity and a board's line slots
abbrev pub ledger_heard : ℕ → ℕ → Ledger → List Call → Ledger
ledger_heard capacity slots ℓ calls = heard_by (λ l call. refusal_of call (standing_of l capacity) slots) ledger_after ℓ calls

abbrev pub dated_heard : ℕ → ℕ → Ledger → List Call → Ledger
dated_heard capacity slots ℓ calls = heard_by (λ l call. dated_refusal call (dated_standing l capacity) slots) dated_after ℓ calls

-- NOTHING CHANGES WITHOUT IT
pub record NothingChangesWithoutNoEnd : Type 0 where
  -- whatever calls are written down as accepted or refused: a ledger none of whose rows, confirmed or open, says that a train has no end is
  -- that by the rules as they were
  pub ledgers : (start : List Record) (entries : List Entry) → none_has_no_end (rows_after_all (new_ledger start) entries) ≡ true
      → SameByBoth (ledger_after_all (new_ledger start) entries) (dated_after_all (new_ledger start) entries)
  -- its lines are those by the rules as they were, unless the store had a schedule with no end in it at the start, of which no row tells
  pub lines : (start : List Record) (entries : List Entry) → each_ends start ≡ true → none_has_no_end (rows_after_all (new_ledger start) entries) ≡ true
      → SameLinesByBoth (ledger_after_all (new_ledger start) entries) (dated_after_all (new_ledger start) entries)
  -- whatever calls are heard, none of which is handed such a row: after them the ledgers by both rules are the same, and so is how the next
  -- call is judged; and so are the lines
  pub histories : (start : List Record) (capacity slots : ℕ) (calls : List Call) → none_is_handed_no_end calls ≡ true
      → SameByBoth (ledger_heard capacity slots (new_ledger start) calls) (dated_heard capacity slots (new_ledger start) calls)
  pub history_lines : (start : List Record) (capacity slots : ℕ) (calls : List Call) → each_ends start ≡ true → none_is_handed_no_end calls ≡ true
      → SameLinesByBoth (ledger_heard capacity slots (new_ledger start) calls) (dated_heard capacity slots (new_ledger start) calls)
