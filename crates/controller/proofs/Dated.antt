-- Where no row says that a train has no end, the ledger is what it was while every schedule had a last day.
use Rattle.std.proofs.Common.{◌≡◌, ℕ, Bool, true, false, not, List, [], ◌∷◌, ◌++◌, Some, None, Option, Result, sym, refl, subst, ap, ◌∙◌}
use Rattle.std.specs.List.{list_all}
use Rattle.std.specs.Option.{option_map, option_map_or}
use Rattle.std.proofs.lemmas.Bool.{and_parts, and_from, not-true, not_from_false}
use Rattle.std.proofs.lemmas.List.Folds.{list_all-append}
use Rattle.cif.specs.declared.content.Content.{Content}
use Rattle.cif.specs.declared.refusal.Refusal.TheVariants.{OutOfPlace}
use Rattle.cif.specs.declared.refusal.RowFault.{RowFault}
use Rattle.cif.specs.Refusals.{TableLine, line, uppermost, is_missing}
use Rattle.cif.specs.Rows.{row_lines, identity_in}
use Rattle.cif.specs.Reading.{field_lines_in, read_in}
use Rattle.cif.specs.Dated.{dated_read, dated_lines, has_no_end}
use Rattle.cif.proofs.Dated.{only_no_end_is_new}
use Rattle.schedule.specs.declared.record.Record.{Record}
use Rattle.schedule.specs.Ended.{each_ends, change_ends}
use Rattle.running.specs.Running.{covering}
use Rattle.running.specs.Dated.{dated_covering}
use Rattle.running.proofs.Dated.{same_where_all_end}
use Rattle.overlay.proofs.Ended.{all_done_ends}
use Rattle.extract.specs.Progress.{Progress, transactions_of}
use Rattle.extract.specs.Dated.{none_has_no_end}
use Rattle.extract.specs.Judging.{Standing}
use Rattle.extract.proofs.Dated.{same_progress, transactions_end}
use Rattle.board.specs.declared.display.StationDay.{StationDay}
use Rattle.board.specs.declared.line.Line.{Line}
use Rattle.board.specs.Lines.{LinesBy}
use Rattle.board.proofs.Trains.{same_board}
use Rattle.controller.specs.declared.fault.ExtractFault.{ExtractFault}
use Rattle.controller.specs.Calls.{Call, Open, Row, Confirm, Abandon, Turn, Page, Tell, Tally, row_of, on_row, is_out_of_place, place_column, value_in, held_lines, board_lines, refusals_by, told_with, refusals, refusal_of}
use Rattle.controller.specs.Ledger.{Ledger, Entry, new_ledger, with_progress, ledger_with, ledger_after, ledger_after_all, confirmed_map, standing_of}
use Rattle.controller.specs.Dated.{dated_refusal, dated_standing, dated_with, dated_after, dated_after_all, is_handed_no_end, rows_confirmed_by, rows_confirmed, rows_after_all, none_is_handed_no_end, SameByBoth, SameLinesByBoth, ledger_heard, dated_heard, NothingChangesWithoutNoEnd}

-- the lines that a row gives are the same where they are for the row that there is
same_on_row : (o : Option (List ℕ)) (f g : List ℕ → List TableLine) → ((row : List ℕ) → has_no_end row ≡ false → f row ≡ g row) → option_map_or has_no_end o false ≡ false
    → option_map_or f o [] ≡ option_map_or g o []
same_on_row None f g each h = refl
same_on_row (Some row) f g each h = each row h

-- a call that is handed no such row is judged alike
same_refusal : (call : Call) (s : Standing) (slots : ℕ) → is_handed_no_end call ≡ false → refusal_of call s slots ≡ dated_refusal call s slots
same_refusal call s slots h = ap (λ (ls : List TableLine). option_map (told_with call s) (uppermost ls)) same_table
  where
    table : List TableLine → List TableLine → List TableLine
    table fields held = on_row call row_lines ++ (line OutOfPlace (place_column call) (is_out_of_place call s.extract.stage) ∷ (fields ++ (held ++ board_lines call slots s.store.capacity)))

    same_fields : on_row call (λ row. field_lines_in (identity_in row) row) ≡ on_row call (λ row. dated_lines (identity_in row) row)
    same_fields = same_on_row (row_of call) _ _ (λ row f. (only_no_end_is_new.others row f).lines) h

    same_held : on_row call (λ row. held_lines s (value_in (read_in row))) ≡ on_row call (λ row. held_lines s (value_in (dated_read row)))
    same_held = same_on_row (row_of call) _ _ (λ row f. ap (λ (r : Result Content RowFault). held_lines s (value_in r)) (only_no_end_is_new.others row f).read) h

    same_table : refusals call s slots ≡ refusals_by (λ row. dated_lines (identity_in row) row) (λ row. value_in (dated_read row)) call s slots
    same_table =
        ap (λ (fields : List TableLine). table fields (on_row call (λ row. held_lines s (value_in (read_in row))))) same_fields
        ∙ ap (λ (held : List TableLine). table (on_row call (λ row. dated_lines (identity_in row) row)) held) same_held

-- all that was in the store at the start or is confirmed has a last day
record AllEnd (ℓ : Ledger) : Type 0 where
  start : each_ends ℓ.start ≡ true
  confirmed : list_all change_ends ℓ.confirmed ≡ true

-- an accepted call changes the ledger alike where none of the rows that it confirms says that a train has no end, and then all goes on to end
with_end : (ℓ : Ledger) (call : Call) → AllEnd ℓ → none_has_no_end (rows_confirmed_by ℓ call true) ≡ true → AllEnd (ledger_with ℓ call)
with_end ℓ (Open row) a h = record { start = a.start; confirmed = a.confirmed }
with_end ℓ (Row row) a h = record { start = a.start; confirmed = a.confirmed }
with_end ℓ Confirm a h = record {
  start = a.start;
  confirmed = list_all-append change_ends ℓ.confirmed (transactions_of ℓ.rows) ∙ and_from (list_all change_ends ℓ.confirmed) _ a.confirmed (transactions_end ℓ.rows h);
}
with_end ℓ Abandon a h = record { start = a.start; confirmed = a.confirmed }
with_end ℓ (Turn station day) a h = record { start = a.start; confirmed = a.confirmed }
with_end ℓ (Page name minute bytes) a h = a
with_end ℓ (Tell place) a h = a
with_end ℓ Tally a h = a

same_with : (ℓ : Ledger) (call : Call) → none_has_no_end (rows_confirmed_by ℓ call true) ≡ true → ledger_with ℓ call ≡ dated_with ℓ call
same_with ℓ (Open row) h = refl
same_with ℓ (Row row) h = refl
same_with ℓ Confirm h = ap (λ (p : Progress). with_progress ℓ p) (same_progress ℓ.rows h)
same_with ℓ Abandon h = refl
same_with ℓ (Turn station day) h = refl
same_with ℓ (Page name minute bytes) h = refl
same_with ℓ (Tell place) h = refl
same_with ℓ Tally h = refl

after_end : (ℓ : Ledger) (call : Call) (accepted : Bool) → AllEnd ℓ → none_has_no_end (rows_confirmed_by ℓ call accepted) ≡ true → AllEnd (ledger_after ℓ call accepted)
after_end ℓ call true a h = with_end ℓ call a h
after_end ℓ call false a h = a

same_after : (ℓ : Ledger) (call : Call) (accepted : Bool) → none_has_no_end (rows_confirmed_by ℓ call accepted) ≡ true → ledger_after ℓ call accepted ≡ dated_after ℓ call accepted
same_after ℓ call true h = same_with ℓ call h
same_after ℓ call false h = refl

same_standing : (ℓ : Ledger) (capacity : ℕ) → none_has_no_end ℓ.rows ≡ true → standing_of ℓ capacity ≡ dated_standing ℓ capacity
same_standing ℓ capacity o = ap (λ (p : Progress). record (standing_of ℓ capacity) { extract = p }) (same_progress ℓ.rows o)

same_verdict : (ℓ : Ledger) (call : Call) (capacity slots : ℕ) → none_has_no_end ℓ.rows ≡ true → is_handed_no_end call ≡ false
    → refusal_of call (standing_of ℓ capacity) slots ≡ dated_refusal call (dated_standing ℓ capacity) slots
same_verdict ℓ call capacity slots o h =
    same_refusal call (standing_of ℓ capacity) slots h ∙ ap (λ (s : Standing). dated_refusal call s slots) (same_standing ℓ capacity o)

-- the lines are the same
same_lines : (m : List Record) (shown : Option StationDay) → each_ends m ≡ true → (lines : List Line) → (LinesBy covering m shown lines → LinesBy dated_covering m shown lines) × (LinesBy dated_covering m shown lines → LinesBy covering m shown lines)
same_lines m None all lines = ((λ e. e), (λ e. e))
same_lines m (Some s) all lines = (
  same_board covering dated_covering m m s.station s.day (λ uid. same_where_all_end m uid s.day all) lines,
  same_board dated_covering covering m m s.station s.day (λ uid r. let c = same_where_all_end m uid s.day all r in (c.1, c.0)) lines,
)

same_by_both : (ℓ : Ledger) → none_has_no_end ℓ.rows ≡ true → SameByBoth ℓ ℓ
same_by_both ℓ o = record {
  ledger = refl;
  transactions = ap (λ (p : Progress). p.changes) (same_progress ℓ.rows o);
  verdicts = λ call capacity slots h. same_verdict ℓ call capacity slots o h;
  map = refl;
}

new_end : (start : List Record) → each_ends start ≡ true → AllEnd (new_ledger start)
new_end start all = record { start = all; confirmed = refl }

lines_end : (ℓ : Ledger) → AllEnd ℓ → SameLinesByBoth ℓ ℓ
lines_end ℓ a = same_lines (confirmed_map ℓ) ℓ.shown (all_done_ends ℓ.start ℓ.confirmed a.start a.confirmed)

none_parts : (before after : List (List ℕ)) → none_has_no_end (before ++ after) ≡ true → (none_has_no_end before ≡ true) × (none_has_no_end after ≡ true)
none_parts before after h = and_parts (none_has_no_end before) (none_has_no_end after) (sym (list_all-append (λ row. not (has_no_end row)) before after) ∙ h)

-- entries leave the same ledger, in which all has a last day where it had at the start
entries_same : (ℓ : Ledger) (entries : List Entry) → none_has_no_end (rows_confirmed ℓ entries) ≡ true → (ledger_after_all ℓ entries ≡ dated_after_all ℓ entries) × (AllEnd ℓ → AllEnd (ledger_after_all ℓ entries))
entries_same ℓ [] none = (refl, (λ a. a))
entries_same ℓ ((call, accepted) ∷ entries) none =
    let parts = none_parts (rows_confirmed_by ℓ call accepted) (rows_confirmed (ledger_after ℓ call accepted) entries) none in
    let rest = entries_same (ledger_after ℓ call accepted) entries parts.1 in (
      rest.0 ∙ ap (λ (l : Ledger). dated_after_all l entries) (same_after ℓ call accepted parts.0),
      (λ a. rest.1 (after_end ℓ call accepted a parts.0)),
    )

-- a call that is handed no such row adds none to the open ones
open_row : (ℓ : Ledger) (row : List ℕ) → none_has_no_end ℓ.rows ≡ true → has_no_end row ≡ false → none_has_no_end (ℓ.rows ++ row ∷ []) ≡ true
open_row ℓ row o h =
    list_all-append (λ row. not (has_no_end row)) ℓ.rows (row ∷ [])
    ∙ and_from (none_has_no_end ℓ.rows) _ o (and_from (not (has_no_end row)) true (not_from_false (has_no_end row) h) refl)

open_with : (ℓ : Ledger) (call : Call) → none_has_no_end ℓ.rows ≡ true → is_handed_no_end call ≡ false → none_has_no_end (ledger_with ℓ call).rows ≡ true
open_with ℓ (Open row) o h = open_row ℓ row o h
open_with ℓ (Row row) o h = open_row ℓ row o h
open_with ℓ Confirm o h = refl
open_with ℓ Abandon o h = refl
open_with ℓ (Turn station day) o h = o
open_with ℓ (Page name minute bytes) o h = o
open_with ℓ (Tell place) o h = o
open_with ℓ Tally o h = o

open_after : (ℓ : Ledger) (call : Call) (accepted : Bool) → none_has_no_end ℓ.rows ≡ true → is_handed_no_end call ≡ false → none_has_no_end (ledger_after ℓ call accepted).rows ≡ true
open_after ℓ call true o h = open_with ℓ call o h
open_after ℓ call false o h = o

-- what is confirmed are open rows
open_confirmed : (ℓ : Ledger) (call : Call) (accepted : Bool) → none_has_no_end ℓ.rows ≡ true → none_has_no_end (rows_confirmed_by ℓ call accepted) ≡ true
open_confirmed ℓ Confirm true o = o
open_confirmed ℓ Confirm false o = refl
open_confirmed ℓ (Open row) accepted o = refl
open_confirmed ℓ (Row row) accepted o = refl
open_confirmed ℓ Abandon accepted o = refl
open_confirmed ℓ (Turn station day) accepted o = refl
open_confirmed ℓ (Page name minute bytes) accepted o = refl
open_confirmed ℓ (Tell place) accepted o = refl
open_confirmed ℓ Tally accepted o = refl

-- calls that are heard one after another leave the same ledger, with no such row open
heard_same : (capacity slots : ℕ) (ℓ : Ledger) (calls : List Call) → none_has_no_end ℓ.rows ≡ true → none_is_handed_no_end calls ≡ true
    → (ledger_heard capacity slots ℓ calls ≡ dated_heard capacity slots ℓ calls) × (none_has_no_end (ledger_heard capacity slots ℓ calls).rows ≡ true)
heard_same capacity slots ℓ [] o none = (refl, o)
heard_same capacity slots ℓ (call ∷ calls) o none =
    let parts = and_parts (not (is_handed_no_end call)) (none_is_handed_no_end calls) none in
    let h = not-true (is_handed_no_end call) parts.0 in
    let accepted = is_missing (refusal_of call (standing_of ℓ capacity) slots) in
    let rest = heard_same capacity slots (ledger_after ℓ call accepted) calls (open_after ℓ call accepted o h) parts.1 in (
      rest.0
          ∙ ap (λ (l : Ledger). dated_heard capacity slots l calls) (same_after ℓ call accepted (open_confirmed ℓ call accepted o))
          ∙ ap (λ (f : Option ExtractFault). dated_heard capacity slots (dated_after ℓ call (is_missing f)) calls) (same_verdict ℓ call capacity slots o h),
      rest.1,
    )

-- and all has a last day where it had at the start
heard_end : (capacity slots : ℕ) (ℓ : Ledger) (calls : List Call) → none_has_no_end ℓ.rows ≡ true → none_is_handed_no_end calls ≡ true → AllEnd ℓ → AllEnd (ledger_heard capacity slots ℓ calls)
heard_end capacity slots ℓ [] o none a = a
heard_end capacity slots ℓ (call ∷ calls) o none a =
    let parts = and_parts (not (is_handed_no_end call)) (none_is_handed_no_end calls) none in
    let accepted = is_missing (refusal_of call (standing_of ℓ capacity) slots) in
    heard_end capacity slots (ledger_after ℓ call accepted) calls (open_after ℓ call accepted o (not-true (is_handed_no_end call) parts.0)) parts.1
    (after_end ℓ call accepted a (open_confirmed ℓ call accepted o))

-- what new ledgers come to
module _ (start : List Record) (entries : List Entry) (none : none_has_no_end (rows_after_all (new_ledger start) entries) ≡ true) where
  abbrev now : Ledger
  now = ledger_after_all (new_ledger start) entries

  parts : (none_has_no_end (rows_confirmed (new_ledger start) entries) ≡ true) × (none_has_no_end now.rows ≡ true)
  parts = none_parts (rows_confirmed (new_ledger start) entries) now.rows none

  same : (now ≡ dated_after_all (new_ledger start) entries) × (AllEnd (new_ledger start) → AllEnd now)
  same = entries_same (new_ledger start) entries parts.0

  ledgers : SameByBoth now (dated_after_all (new_ledger start) entries)
  ledgers = subst (λ (b : Ledger). SameByBoth now b) same.0 (same_by_both now parts.1)

  lines : each_ends start ≡ true → SameLinesByBoth now (dated_after_all (new_ledger start) entries)
  lines all = subst (λ (b : Ledger). SameLinesByBoth now b) same.0 (lines_end now (same.1 (new_end start all)))

pub nothing_changes : NothingChangesWithoutNoEnd
nothing_changes = record {
  ledgers = ledgers;
  lines = λ start entries all none. lines start entries none all;
  histories = λ start capacity slots calls none.
      let same = heard_same capacity slots (new_ledger start) calls refl none in
      subst (λ (b : Ledger). SameByBoth (ledger_heard capacity slots (new_ledger start) calls) b) same.0 (same_by_both (ledger_heard capacity slots (new_ledger start) calls) same.1);
  history_lines = λ start capacity slots calls all none.
      let same = heard_same capacity slots (new_ledger start) calls refl none in
      subst (λ (b : Ledger). SameLinesByBoth (ledger_heard capacity slots (new_ledger start) calls) b) same.0
      (lines_end (ledger_heard capacity slots (new_ledger start) calls) (heard_end capacity slots (new_ledger start) calls refl none (new_end start all)));
}
