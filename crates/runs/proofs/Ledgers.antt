-- The laws of the ledger.
use Rattle.std.proofs.Common.{◌≡◌, ℕ, Bool, true, false, List, [], ◌∷◌, ◌++◌, Some, None, Option, sym, refl, ap, ◌∙◌, subst}
use Rattle.std.specs.List.{list_all}
use Rattle.std.proofs.lemmas.Bool.{and_parts, false≢true}
use Rattle.std.proofs.lemmas.List.Sums.{fold_push}
use Rattle.schedule.specs.declared.record.Record.{Record}
use Rattle.schedule.specs.declared.transaction.Change.{Change}
use Rattle.timetable.specs.Timetables.{Meaning, IsMap}
use Rattle.overlay.specs.Overlays.{done_to, done_all, with_done}
use Rattle.overlay.specs.Permitted.{MayBeDone, EachMayBeDone}
use Rattle.overlay.proofs.Trains.{trains_decide}
use Rattle.overlay.proofs.Permitted.{each_lawful}
use Rattle.controller.specs.Keeping.{State, KeepsTo}
use Rattle.runs.specs.Pairs.{SameLines}
use Rattle.board.specs.declared.display.StationDay.{StationDay}
use Rattle.board.specs.declared.line.Line.{Line}
use Rattle.board.specs.Lines.{LinesFor}
use Rattle.board.proofs.Boards.{board_one}
use Rattle.board.proofs.Trains.{cancelled}
use Rattle.controller.specs.Calls.{Call, Open, Row, Confirm, Abandon, Turn, Page, Tell, Tally}
use Rattle.controller.specs.Ledger.{Ledger, Entry, without_rows, ledger_after, ledger_after_all, confirmed_map}
use Rattle.runs.specs.Laws.{AbandonLeavesNoTrace, ShownIgnoresExtract, TwoOrdersOneMap, SameTrainsSameLines, CancelledNeverShown, NothingWithoutConfirm, reads_only, with_rows, confirms_nothing, SameConfirmed, ConfirmedCouldBeDone}

-- an entry that only reads changes nothing but the rows
step_reads : (ℓ : Ledger) (call : Call) (accepted : Bool) → reads_only (call, accepted) ≡ true → without_rows (ledger_after ℓ call accepted) ≡ without_rows ℓ
step_reads ℓ call false h = refl
step_reads ℓ (Open row) true h = refl
step_reads ℓ (Row row) true h = refl
step_reads ℓ Confirm true h = absurd (false≢true h)
step_reads ℓ Abandon true h = refl
step_reads ℓ (Turn station day) true h = absurd (false≢true h)
step_reads ℓ (Page name minute bytes) true h = refl
step_reads ℓ (Tell place) true h = refl
step_reads ℓ Tally true h = refl

all_read : (ℓ : Ledger) (entries : List Entry) → list_all reads_only entries ≡ true → without_rows (ledger_after_all ℓ entries) ≡ without_rows ℓ
all_read ℓ [] h = refl
all_read ℓ (e ∷ es) h = let p = and_parts (reads_only e) (list_all reads_only es) h in all_read (ledger_after ℓ e.0 e.1) es p.1 ∙ step_reads ℓ e.0 e.1 p.0

pub abandon_leaves : AbandonLeavesNoTrace
abandon_leaves ℓ entries e h =
    fold_push (λ (l : Ledger) (e : Entry). ledger_after l e.0 e.1) ℓ entries (Abandon, true)
    ∙ (all_read ℓ entries h ∙ ap (with_rows ℓ) (sym e))

-- no two lists of lines are those of one map at one station and day
lines_one : (m : List Record) (shown : Option StationDay) (xs ys : List Line) → LinesFor m shown xs → LinesFor m shown ys → xs ≡ ys
lines_one m (Some s) xs ys a b = board_one m s.station s.day xs ys a b
lines_one m None xs ys a b = a ∙ sym b

pub shown_ignores : ShownIgnoresExtract
shown_ignores ℓ rows xs ys a b = lines_one (confirmed_map ℓ) ℓ.shown xs ys a b

pub two_orders : TwoOrdersOneMap
two_orders ℓ k e is p q h = trains_decide ℓ.start ℓ.confirmed k.confirmed is p q h ∙ ap (λ (m : List Record). done_all m k.confirmed) e

pub same_lines : SameTrainsSameLines
same_lines ℓ k e is p q h shown xs ys a b =
    lines_one (confirmed_map ℓ) ℓ.shown xs ys a
    (subst (λ (m : List Record). LinesFor m ℓ.shown ys) (sym (two_orders ℓ k e is p q h))
    (subst (λ (s : Option StationDay). LinesFor (confirmed_map k) s ys) (sym shown) b))

pub never_shown : CancelledNeverShown
never_shown ℓ lines s uid r a shown f c l o e =
    let b = subst (λ (d : Option StationDay). LinesFor (confirmed_map ℓ) d lines) shown a in
    cancelled (confirmed_map ℓ) s.station s.day uid r f c l e (b.only l o)

-- a ledger that differs in nothing but the rows and what is shown
kept : (ℓ : Ledger) (rows : List (List ℕ)) (shown : Option StationDay) → SameConfirmed ℓ (record ℓ { rows = rows; shown = shown })
kept ℓ rows shown = record { confirmed = refl; map = refl; tally = refl; reference = refl }

-- an entry that is no accepted confirm changes nothing but the rows and what is shown
step_keeps : (ℓ : Ledger) (call : Call) (accepted : Bool) → confirms_nothing (call, accepted) ≡ true → SameConfirmed ℓ (ledger_after ℓ call accepted)
step_keeps ℓ call false h = kept ℓ ℓ.rows ℓ.shown
step_keeps ℓ (Open row) true h = kept ℓ (ℓ.rows ++ row ∷ []) ℓ.shown
step_keeps ℓ (Row row) true h = kept ℓ (ℓ.rows ++ row ∷ []) ℓ.shown
step_keeps ℓ Confirm true h = absurd (false≢true h)
step_keeps ℓ Abandon true h = kept ℓ [] ℓ.shown
step_keeps ℓ (Turn station day) true h = kept ℓ ℓ.rows (Some (record { station = station; day = day }))
step_keeps ℓ (Page name minute bytes) true h = kept ℓ ℓ.rows ℓ.shown
step_keeps ℓ (Tell place) true h = kept ℓ ℓ.rows ℓ.shown
step_keeps ℓ Tally true h = kept ℓ ℓ.rows ℓ.shown

pub nothing_confirmed : NothingWithoutConfirm
nothing_confirmed ℓ [] h = kept ℓ ℓ.rows ℓ.shown
nothing_confirmed ℓ (e ∷ es) h =
    let p = and_parts (confirms_nothing e) (list_all confirms_nothing es) h in
    let one = step_keeps ℓ e.0 e.1 p.0 in
    let rest = nothing_confirmed (ledger_after ℓ e.0 e.1) es p.1 in
    record {
      confirmed = rest.confirmed ∙ one.confirmed;
      map = rest.map ∙ one.map;
      tally = rest.tally ∙ one.tally;
      reference = rest.reference ∙ one.reference;
    }

-- a transaction that was confirmed could be done when its turn came
at_its_turn : (t : Meaning) (before after : List Change) (c : Change) → EachMayBeDone t (before ++ c ∷ after) → MayBeDone (with_done t before) c
at_its_turn t [] after c h = h.0
at_its_turn t (b ∷ bs) after c h = at_its_turn (record t { map = done_to t.map b }) bs after c h.1

pub could_be_done : ConfirmedCouldBeDone
could_be_done s ℓ before after c k e =
    let t = record s.standing.store { map = ℓ.start } in
    at_its_turn t before after c (subst (λ (cs : List Change). EachMayBeDone t cs) e k.confirmed)

-- the start stays
step_start : (ℓ : Ledger) (call : Call) (accepted : Bool) → (ledger_after ℓ call accepted).start ≡ ℓ.start
step_start ℓ call false = refl
step_start ℓ (Open row) true = refl
step_start ℓ (Row row) true = refl
step_start ℓ Confirm true = refl
step_start ℓ Abandon true = refl
step_start ℓ (Turn station day) true = refl
step_start ℓ (Page name minute bytes) true = refl
step_start ℓ (Tell place) true = refl
step_start ℓ Tally true = refl

pub start_kept : (ℓ : Ledger) (es : List Entry) → (ledger_after_all ℓ es).start ≡ ℓ.start
start_kept ℓ [] = refl
start_kept ℓ (e ∷ es) = start_kept (ledger_after ℓ e.0 e.1) es ∙ step_start ℓ e.0 e.1

-- two that keep to ledgers that began alike, with the same for each train, at the same station and day
pub same_boards : (s t : State) (first : Ledger) (es fs : List Entry) → IsMap first.start → KeepsTo s (ledger_after_all first es) → KeepsTo t (ledger_after_all first fs)
    → SameLines (ledger_after_all first es) (ledger_after_all first fs) s.lines t.lines
same_boards s t first es fs is k l h shown =
    let ℓ = ledger_after_all first es in
    let m = ledger_after_all first fs in
    let p : ℓ.start ≡ first.start = start_kept first es in
    let q : m.start ≡ first.start = start_kept first fs in
    same_lines ℓ m (p ∙ sym q) (subst (λ (x : List Record). IsMap x) (sym p) is) (each_lawful _ ℓ.confirmed k.confirmed) (each_lawful _ m.confirmed l.confirmed) h shown s.lines t.lines k.lines l.lines

pub no_map : IsMap []
no_map = record { rising = refl; schedules = refl }
