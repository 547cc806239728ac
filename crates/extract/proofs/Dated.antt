-- Rows that do not say that a train has no end come to what they came to while every schedule had a last day.
use Rattle.std.proofs.Common.{◌≡◌, ℕ, true, false, not, List, [], ◌∷◌, Ok, Err, Result, fold, refl, ap, ◌∙◌}
use Rattle.std.specs.List.{list_all}
use Rattle.std.proofs.lemmas.Bool.{and_parts, and_from, cond_both, not-true}
use Rattle.std.proofs.lemmas.List.Folds.{list_all-append}
use Rattle.cif.specs.declared.content.BasicSchedule.{BasicSchedule}
use Rattle.cif.specs.declared.content.Action.{Action}
use Rattle.cif.specs.declared.content.Action.TheVariants.{New as AsksNew, Revise as AsksRevise, Delete as AsksDelete}
use Rattle.cif.specs.declared.content.Content.{Content}
use Rattle.cif.specs.declared.content.Content.TheVariants.{Header, Schedule, Operator, Origin, Intermediate, Terminus, Unread}
use Rattle.cif.specs.declared.content.Location.{Location}
use Rattle.cif.specs.declared.refusal.RowFault.{RowFault}
use Rattle.cif.specs.Reading.{read_in}
use Rattle.cif.specs.Dated.{has_no_end, action_ends, content_ends}
use Rattle.cif.proofs.Dated.{only_no_end_is_new}
use Rattle.schedule.specs.declared.record.Record.{Record}
use Rattle.schedule.specs.declared.transaction.Change.{Change}
use Rattle.schedule.specs.declared.transaction.Change.TheVariants.{New, Revise, Delete}
use Rattle.schedule.specs.Records.{is_cancellation}
use Rattle.schedule.specs.Building.{with_operator, with_destination, with_call, adds_call, bringing}
use Rattle.schedule.specs.Ended.{ends, change_ends}
use Rattle.extract.specs.Progress.{Progress, idle, change_by, is_brief, ended_by, draft_after, joining_at, after, after_row, progress_of, transactions_of}
use Rattle.extract.specs.Dated.{dated_after_row, dated_progress, none_has_no_end}

-- a step that leaves the end of a schedule leaves that of the schedule that a transaction brings
brought_ends : (f : Record → Record) → ((r : Record) → ends r ≡ true → ends (f r) ≡ true) → (c : Change) → change_ends c ≡ true → change_ends (bringing f c) ≡ true
brought_ends f keeps (New r) h = keeps r h
brought_ends f keeps (Revise r) h = keeps r h
brought_ends f keeps (Delete k) h = refl

-- so do operator, destination and calls
operator_ends : (o : List ℕ) (c : Change) → change_ends c ≡ true → change_ends (bringing (λ r. with_operator r o) c) ≡ true
operator_ends o c h = brought_ends (λ r. with_operator r o) (λ r e. cond_both (is_cancellation r.key.stp) _ _ (λ (s : Record). ends s ≡ true) (λ _. e) (λ _. e)) c h

destination_ends : (d : List ℕ) (c : Change) → change_ends c ≡ true → change_ends (bringing (λ r. with_destination r d) c) ≡ true
destination_ends d c h = brought_ends (λ r. with_destination r d) (λ r e. cond_both (is_cancellation r.key.stp) _ _ (λ (s : Record). ends s ≡ true) (λ _. e) (λ _. e)) c h

call_ends : (l : Location) (c : Change) → change_ends c ≡ true → change_ends (bringing (λ r. with_call r l) c) ≡ true
call_ends l c h = brought_ends (λ r. with_call r l) (λ r e. cond_both (adds_call r l) _ _ (λ (s : Record). ends s ≡ true) (λ _. e) (λ _. e)) c h

-- the transaction that a BS asks for
asked_ends : (b : BasicSchedule) (c : Action) → action_ends c ≡ true → change_ends (change_by b c) ≡ true
asked_ends b (AsksNew d) h = h
asked_ends b (AsksRevise d) h = h
asked_ends b AsksDelete h = refl

-- the schedule that is being read has a last day, and so has each of those that joined
record Ends (p : Progress) : Type 0 where
  draft : change_ends p.draft ≡ true
  changes : list_all change_ends p.changes ≡ true

draft_ends : (p : Progress) (c : Content) → change_ends p.draft ≡ true → content_ends c ≡ true → change_ends (draft_after p c) ≡ true
draft_ends p (Header h) d e = d
draft_ends p (Schedule b) d e = cond_both (is_brief b) _ _ (λ (x : Change). change_ends x ≡ true) (λ _. d) (λ _. asked_ends b b.action e)
draft_ends p (Operator o) d e = operator_ends o p.draft d
draft_ends p (Origin l) d e = call_ends l p.draft d
draft_ends p (Intermediate l) d e = call_ends l p.draft d
draft_ends p (Terminus l) d e = d
draft_ends p (Unread i) d e = d

joining_ends : (p : Progress) (c : Content) → change_ends p.draft ≡ true → content_ends c ≡ true → list_all change_ends (joining_at p c) ≡ true
joining_ends p (Header h) d e = refl
joining_ends p (Schedule b) d e =
    cond_both (is_brief b) _ _ (λ (xs : List Change). list_all change_ends xs ≡ true)
    (λ _. and_from (change_ends (change_by b b.action)) true (asked_ends b b.action e) refl)
    (λ _. refl)
joining_ends p (Operator o) d e = refl
joining_ends p (Origin l) d e = refl
joining_ends p (Intermediate l) d e = refl
joining_ends p (Terminus l) d e =
    and_from (change_ends (ended_by l p.draft)) true (destination_ends l.tiploc (bringing (λ r. with_call r l) p.draft) (call_ends l p.draft d)) refl
joining_ends p (Unread i) d e = refl

after_ends : (p : Progress) (c : Content) → Ends p → content_ends c ≡ true → Ends (after p c)
after_ends p c h e = record {
  draft = draft_ends p c h.draft e;
  changes = list_all-append change_ends p.changes (joining_at p c) ∙ and_from (list_all change_ends p.changes) _ h.changes (joining_ends p c h.draft e);
}

-- a row more
row_ends : (p : Progress) (row : List ℕ) → Ends p → has_no_end row ≡ false → Ends (after_row p row)
row_ends p row h f = of (read_in row) (λ c e. only_no_end_is_new.ends row c f e)
  where
    of : (r : Result Content RowFault) → ((c : Content) → r ≡ Ok c → content_ends c ≡ true) → Ends (elim r [ Ok c ↦ after p c | Err e ↦ p ])
    of (Ok c) each = after_ends p c h (each c refl)
    of (Err e) each = h

row_same : (p : Progress) (row : List ℕ) → has_no_end row ≡ false → after_row p row ≡ dated_after_row p row
row_same p row f = ap (λ (r : Result Content RowFault). elim r [ Ok c ↦ after p c | Err e ↦ p ]) (only_no_end_is_new.others row f).read

-- rows come to what they came to
rows_same : (p : Progress) (rows : List (List ℕ)) → Ends p → none_has_no_end rows ≡ true → (fold after_row p rows ≡ fold dated_after_row p rows) × Ends (fold after_row p rows)
rows_same p [] h none = (refl, h)
rows_same p (row ∷ rows) h none =
    let parts = and_parts (not (has_no_end row)) (none_has_no_end rows) none in
    let f = not-true (has_no_end row) parts.0 in
    let rest = rows_same (after_row p row) rows (row_ends p row h f) parts.1 in
    (rest.0 ∙ ap (λ (q : Progress). fold dated_after_row q rows) (row_same p row f), rest.1)

idle_ends : Ends idle
idle_ends = record { draft = refl; changes = refl }

pub same_progress : (rows : List (List ℕ)) → none_has_no_end rows ≡ true → progress_of rows ≡ dated_progress rows
same_progress rows none = (rows_same idle rows idle_ends none).0

pub transactions_end : (rows : List (List ℕ)) → none_has_no_end rows ≡ true → list_all change_ends (transactions_of rows) ≡ true
transactions_end rows none = (rows_same idle rows idle_ends none).1.changes
