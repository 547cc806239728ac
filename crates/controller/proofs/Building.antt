-- The rows of a schedule build the one that they come to, row by row.
use Rattle.std.proofs.Common.{◌≡◌, ℕ, suc, ◌-◌, ◌<◌, Bool, true, false, cond, not, ◌&&◌, leb, List, [], ◌∷◌, ◌++◌, length, map, filter, set, replicate, Some, None, Option, ◌⊎◌, inl, inr, fold, unwrap_or, sym, refl, ap, ap₂, ◌∙◌, subst, append-nil, append_assoc, arith}
use Rattle.std.proofs.lemmas.Bool.{true≢false, leb-false, not-true, and_parts}
use Rattle.std.proofs.lemmas.List.{set_at, length_push}
use Rattle.std.proofs.lemmas.List.Elements.{filter-append}
use Rattle.cif.specs.declared.content.BasicSchedule.{BasicSchedule}
use Rattle.cif.specs.declared.content.Action.{Action}
use Rattle.cif.specs.declared.content.Action.TheVariants.{New as AsksNew, Revise as AsksRevise, Delete as AsksDelete}
use Rattle.cif.specs.declared.content.Running.{Running as Days}
use Rattle.cif.specs.declared.content.Location.{Location}
use Rattle.cif.specs.declared.content.Content.{Content}
use Rattle.cif.specs.declared.content.Content.TheVariants.{Header, Schedule, Operator, Origin, Intermediate, Terminus, Unread}
use Rattle.cif.specs.declared.identity.Identity.TheVariants.{BasicSchedule as IsSchedule, BasicExtra as IsExtra, Origin as IsOrigin, Intermediate as IsIntermediate, Terminus as IsTerminus, ChangeEnRoute}
use Rattle.cif.specs.declared.refusal.Refusal.TheVariants.{TooManyCalls, TooManyVisits}
use Rattle.cif.specs.Refusals.{TableLine, line, uppermost, is_missing}
use Rattle.maps.proofs.Maps.{some_none}
use Rattle.schedule.specs.declared.record.Record.{Record}
use Rattle.schedule.specs.declared.transaction.Change.{Change}
use Rattle.schedule.specs.declared.transaction.Change.TheVariants.{New, Revise}
use Rattle.schedule.specs.Records.{is_cancellation, two_blanks, seven_blanks, filler}
use Rattle.schedule.specs.Building.{is_kept, adds_call, with_call, with_operator, with_destination, call_lines, bringing, bringing_lines}
use Rattle.extract.specs.declared.stage.Stage.{Stage}
use Rattle.extract.specs.declared.stage.Stage.TheVariants.{Begun, Extra, Running, Changed}
use Rattle.extract.specs.Stages.{next_stage}
use Rattle.extract.specs.Progress.{Progress, change_by, is_deletion, is_brief, after}
use Rattle.extract.specs.Judging.{Standing}
use Rattle.extract.proofs.Lines.{none_first}
use Rattle.controller.specs.ScheduleRows.{WayRow, LI, CR, way_content, way_locations, operator_contents, ScheduleRows, schedule_contents, locations_of, schedule_with, asked_with, transaction_of_rows, transaction_of_brief, begins_schedule, joins_at, Join, ScheduleRowsMakeOne, BriefRowJoinsAtOnce, OtherRowsAddNone}
use Rattle.controller.proofs.Stepping.{only_between}
use Rattle.controller.proofs.Heard.{row_moves}
use Rattle.controller.proofs.Taking.{Admits, AdmitsAll, moved, taken_admits, taken_all}

-- a call more in the first of 48 places that is free
filled_more : (calls : List Location) (l : Location) → length calls < 48 → set (calls ++ replicate (48 - length calls) filler) (length calls) l ≡ (calls ++ l ∷ []) ++ replicate (48 - length (calls ++ l ∷ [])) filler
filled_more calls l room =
    let k = 48 - length (calls ++ l ∷ []) in
    let more : 48 - length calls ≡ suc k = (let n = length_push calls l in omega arith) in
    ap (λ n. set (calls ++ replicate n filler) (length calls) l) more
    ∙ (set_at calls filler (replicate k filler) l (length calls) refl
    ∙ sym (append_assoc calls (l ∷ []) (replicate k filler)))

-- where no line of a location holds that adds a call, the calls are not too many
few_in : (adds many visited : Bool) → adds ≡ true → uppermost (line TooManyCalls 3 (adds && many) ∷ line TooManyVisits 3 (adds && visited) ∷ []) ≡ None → many ≡ false
few_in true true visited a h = absurd (some_none _ h)
few_in true false visited a h = refl
few_in false many visited a h = absurd (true≢false (sym a))

-- that transactions join is the same of an extract with the same ones pending
join_from : (cs : List Change) (p q r : Progress) → q.changes ≡ p.changes → Join cs q r → Join cs p r
join_from cs p q r e j = record { changes = j.changes ∙ ap (λ xs. xs ++ cs) e; stage = j.stage }

-- a train is on its way
abbrev OnWay : Stage → Type 0
OnWay st = (st ≡ Running) ⊎ (st ≡ Changed)

module _ (b : BasicSchedule) (d : Days) (runs : is_cancellation b.stp ≡ false) where
  abbrev made : List ℕ → List ℕ → List Location → Record
  made operator destination calls = schedule_with b d operator destination calls

  named : (o p e : List ℕ) (calls : List Location) → with_operator (made o e calls) p ≡ made p e calls
  named o p e calls = rw runs refl

  bound : (o e f : List ℕ) (calls : List Location) → with_destination (made o e calls) f ≡ made o f calls
  bound o e f calls = rw runs refl

  -- where no line of a location holds, and it is kept, there is room for it
  room_for : (o e : List ℕ) (calls : List Location) (l : Location) → adds_call (made o e calls) l ≡ true → uppermost (call_lines (made o e calls) l) ≡ None → length calls < 48
  room_for o e calls l adds none = leb-false 48 (length calls) (few_in (adds_call (made o e calls) l) (leb 48 (length calls)) _ adds none)

  pub called : (o e : List ℕ) (calls : List Location) (l : Location) → uppermost (call_lines (made o e calls) l) ≡ None → with_call (made o e calls) l ≡ made o e (calls ++ filter is_kept (l ∷ []))
  called o e calls l none = of (is_kept l) refl
    where
      of : (kept : Bool) → is_kept l ≡ kept → with_call (made o e calls) l ≡ made o e (calls ++ cond kept (l ∷ []) [])
      of true k =
          let adds : adds_call (made o e calls) l ≡ true = rw (runs, k) refl in
          rw adds (ap₂ (λ cs n. record (made o e calls) { calls = cs; count = n }) (filled_more calls l (room_for o e calls l adds none)) (sym (length_push calls l)))
      of false k =
          let adds : adds_call (made o e calls) l ≡ false = rw (runs, k) refl in
          rw adds (ap (made o e) (sym (append-nil calls)))

-- a transaction that brings a schedule, N or R
pub record Brings (bring : Record → Change) : Type 0 where
  pub steps : (f : Record → Record) (r : Record) → bringing f (bring r) ≡ bring (f r)
  pub lines : (r : Record) (l : Location) → bringing_lines (bring r) l ≡ call_lines r l

module _ (bring : Record → Change) (brings : Brings bring) (b : BasicSchedule) (d : Days) (runs : is_cancellation b.stp ≡ false) (o : List ℕ) where
  abbrev drafted : List Location → Change
  drafted calls = bring (made b d runs o seven_blanks calls)

  -- the lines of a location, where no line of its row holds
  location_free : (s : Standing) (calls : List Location) (l : Location) (rest : List TableLine) → s.extract.draft ≡ drafted calls → uppermost (bringing_lines s.extract.draft l ++ rest) ≡ None → uppermost (call_lines (made b d runs o seven_blanks calls) l) ≡ None
  location_free s calls l rest at none =
      ap uppermost (sym (brings.lines (made b d runs o seven_blanks calls) l)) ∙ (ap (λ t. uppermost (bringing_lines t l)) (sym at) ∙ none_first (bringing_lines s.extract.draft l) rest none)

  call_drafted : (s : Standing) (calls : List Location) (l : Location) (rest : List TableLine) → s.extract.draft ≡ drafted calls → uppermost (bringing_lines s.extract.draft l ++ rest) ≡ None → bringing (λ r. with_call r l) s.extract.draft ≡ drafted (calls ++ filter is_kept (l ∷ []))
  call_drafted s calls l rest at none =
      ap (bringing (λ r. with_call r l)) at ∙ (brings.steps (λ r. with_call r l) (made b d runs o seven_blanks calls) ∙ ap bring (called b d runs o seven_blanks calls l (location_free s calls l rest at none)))

  abbrev ended : List Location → Location → Change
  ended calls t = bring (made b d runs o t.tiploc calls)

  abbrev Ends : Standing → List Location → List Content → Location → Type 0
  Ends s calls cs t = Join (ended calls t ∷ []) s.extract (fold after s.extract cs)

  -- the calls so far, and then those of the locations to come
  calls_on : (calls more : List Location) (l : Location) → (calls ++ filter is_kept (l ∷ [])) ++ filter is_kept more ≡ calls ++ filter is_kept (l ∷ more)
  calls_on calls more l = append_assoc calls (filter is_kept (l ∷ [])) (filter is_kept more) ∙ ap (λ xs. calls ++ xs) (sym (filter-append is_kept (l ∷ []) more))

  -- an LT
  terminus_ends : (s : Standing) (calls : List Location) (t : Location) → s.extract.draft ≡ drafted calls → OnWay s.extract.stage → Admits s (Terminus t) → Ends s (calls ++ filter is_kept (t ∷ [])) (Terminus t ∷ []) t
  terminus_ends s calls t at (inl on) a = record {
    changes = ap (λ c. s.extract.changes ++ c ∷ []) (
        ap (bringing (λ r. with_destination r t.tiploc)) (call_drafted s calls t _ at a.lines)
        ∙ (brings.steps (λ r. with_destination r t.tiploc) (made b d runs o seven_blanks (calls ++ filter is_kept (t ∷ [])))
        ∙ ap bring (bound b d runs o seven_blanks t.tiploc (calls ++ filter is_kept (t ∷ [])))));
    stage = ap (λ st. unwrap_or (next_stage st IsTerminus false) st) on;
  }
  terminus_ends s calls t at (inr on) a = absurd (true≢false (sym (ap (λ st. is_missing (next_stage st IsTerminus false)) on) ∙ a.place))

  abbrev to_come : List WayRow → Location → List Content
  to_come way t = map way_content way ++ Terminus t ∷ []

  -- the rows from the way on
  way_ends : (s : Standing) (calls : List Location) (way : List WayRow) (t : Location) → s.extract.draft ≡ drafted calls → OnWay s.extract.stage → AdmitsAll s (to_come way t) → Ends s (calls ++ filter is_kept (way_locations way ++ t ∷ [])) (to_come way t) t
  way_ends s calls [] t at on a = terminus_ends s calls t at on a.0
  way_ends s calls (LI l ∷ way) t at on a =
      subst (λ (xs : List Location). Ends s xs (to_come (LI l ∷ way) t) t) (calls_on calls (way_locations way ++ t ∷ []) l)
      (join_from _ s.extract _ _ (append-nil s.extract.changes)
      (way_ends (moved s (Intermediate l)) (calls ++ filter is_kept (l ∷ [])) way t (call_drafted s calls l _ at a.0.lines) (inl (runs_on on)) a.1))
    where
      runs_on : OnWay s.extract.stage → (moved s (Intermediate l)).extract.stage ≡ Running
      runs_on (inl e) = ap (λ st. unwrap_or (next_stage st IsIntermediate false) st) e
      runs_on (inr e) = ap (λ st. unwrap_or (next_stage st IsIntermediate false) st) e
  way_ends s calls (CR ∷ way) t at on a =
      join_from _ s.extract _ _ (append-nil s.extract.changes) (way_ends (moved s (Unread ChangeEnRoute)) calls way t at (inr (changes_on on)) a.1)
    where
      changes_on : OnWay s.extract.stage → (moved s (Unread ChangeEnRoute)).extract.stage ≡ Changed
      changes_on (inl e) = ap (λ st. unwrap_or (next_stage st ChangeEnRoute false) st) e
      changes_on (inr e) = absurd (true≢false (sym (ap (λ st. is_missing (next_stage st ChangeEnRoute false)) e) ∙ a.0.place))

  -- the rows from LO on
  origin_ends : (s : Standing) (l : Location) (way : List WayRow) (t : Location) → s.extract.draft ≡ drafted [] → (s.extract.stage ≡ Begun) ⊎ (s.extract.stage ≡ Extra) → AdmitsAll s (Origin l ∷ to_come way t) → Ends s (filter is_kept (l ∷ way_locations way ++ t ∷ [])) (Origin l ∷ to_come way t) t
  origin_ends s l way t at on a =
      subst (λ (xs : List Location). Ends s xs (Origin l ∷ to_come way t) t) (calls_on [] (way_locations way ++ t ∷ []) l)
      (join_from _ s.extract _ _ (append-nil s.extract.changes)
      (way_ends (moved s (Origin l)) (filter is_kept (l ∷ [])) way t (call_drafted s [] l _ at a.0.lines) (inl (runs_on on)) a.1))
    where
      runs_on : (s.extract.stage ≡ Begun) ⊎ (s.extract.stage ≡ Extra) → (moved s (Origin l)).extract.stage ≡ Running
      runs_on (inl e) = ap (λ st. unwrap_or (next_stage st IsOrigin false) st) e
      runs_on (inr e) = ap (λ st. unwrap_or (next_stage st IsOrigin false) st) e

module _ (bring : Record → Change) (brings : Brings bring) (b : BasicSchedule) (d : Days) (runs : is_cancellation b.stp ≡ false) where
  -- the rows from BX on, or from LO on where there is no BX
  operator_ends : (s : Standing) (operator : Option (List ℕ)) (l : Location) (way : List WayRow) (t : Location) → s.extract.draft ≡ drafted bring brings b d runs two_blanks [] → s.extract.stage ≡ Begun
      → AdmitsAll s (operator_contents operator ++ Origin l ∷ map way_content way ++ Terminus t ∷ [])
      → Join (bring (schedule_with b d (unwrap_or operator two_blanks) t.tiploc (filter is_kept (l ∷ way_locations way ++ t ∷ []))) ∷ []) s.extract (fold after s.extract (operator_contents operator ++ Origin l ∷ map way_content way ++ Terminus t ∷ []))
  operator_ends s None l way t at on a = origin_ends bring brings b d runs two_blanks s l way t at (inl on) a
  operator_ends s (Some o) l way t at on a =
      join_from _ s.extract _ _ (append-nil s.extract.changes)
      (origin_ends bring brings b d runs o (moved s (Operator o)) l way t
      (ap (bringing (λ r. with_operator r o)) at ∙ (brings.steps (λ r. with_operator r o) (made b d runs two_blanks seven_blanks []) ∙ ap bring (named b d runs two_blanks o seven_blanks [])))
      (inr (ap (λ st. unwrap_or (next_stage st IsExtra false) st) on)) a.1)

-- a BS has no further rows where it begins no schedule
pub brief_is : (b : BasicSchedule) → is_brief b ≡ not (begins_schedule b)
brief_is b = of (is_deletion b.action) (is_cancellation b.stp)
  where
    of : (deletes cancels : Bool) → cond deletes true cancels ≡ not (not deletes && not cancels)
    of true cancels = refl
    of false true = refl
    of false false = refl

brings_new : Brings New
brings_new = record { steps = λ f r. refl; lines = λ r l. refl }

brings_revised : Brings Revise
brings_revised = record { steps = λ f r. refl; lines = λ r l. refl }

-- the rows of a schedule
pub schedule_ends : (s : Standing) (r : ScheduleRows) → begins_schedule r.basic ≡ true → AdmitsAll s (schedule_contents r) → Join (transaction_of_rows r ∷ []) s.extract (fold after s.extract (schedule_contents r))
schedule_ends s r begins a = join_from _ s.extract _ _ none (of r.basic.action refl begins)
  where
    b : BasicSchedule
    b = r.basic

    runs : is_cancellation b.stp ≡ false
    runs = not-true (is_cancellation b.stp) (and_parts (not (is_deletion b.action)) (not (is_cancellation b.stp)) begins).1

    long : is_brief b ≡ false
    long = brief_is b ∙ ap not begins

    begun : (moved s (Schedule b)).extract.stage ≡ Begun
    begun = ap₂ (λ st brief. unwrap_or (next_stage st IsSchedule brief) st) (only_between s.extract.stage a.0.place) long

    none : (moved s (Schedule b)).extract.changes ≡ s.extract.changes
    none = ap (λ brief. s.extract.changes ++ cond brief (change_by b b.action ∷ []) []) long ∙ append-nil s.extract.changes

    asks : (moved s (Schedule b)).extract.draft ≡ change_by b b.action
    asks = ap (λ brief. cond brief s.extract.draft (change_by b b.action)) long

    Goal : Action → Type 0
    Goal c = Join (asked_with b c (unwrap_or r.operator two_blanks) r.terminus.tiploc (filter is_kept (locations_of r)) ∷ []) (moved s (Schedule b)).extract (fold after s.extract (schedule_contents r))

    of : (c : Action) → b.action ≡ c → begins_schedule b ≡ true → Goal b.action
    of (AsksNew d) e k = subst (λ (c : Action). Goal c) (sym e) (operator_ends New brings_new b d runs (moved s (Schedule b)) r.operator r.origin r.way r.terminus (asks ∙ ap (change_by b) e) begun a.1)
    of (AsksRevise d) e k = subst (λ (c : Action). Goal c) (sym e) (operator_ends Revise brings_revised b d runs (moved s (Schedule b)) r.operator r.origin r.way r.terminus (asks ∙ ap (change_by b) e) begun a.1)
    of AsksDelete e k = absurd (true≢false (sym k ∙ ap (λ c. not (is_deletion c) && not (is_cancellation b.stp)) e))

-- and so where they are taken
pub schedule_made : ScheduleRowsMakeOne
schedule_made s rows r begins read taken =
    let t = taken_all s rows (schedule_contents r) read taken in
    subst (λ (p : Progress). Join (transaction_of_rows r ∷ []) s.extract p) (sym t.1) (schedule_ends s r begins t.0)

pub brief_joins : (s : Standing) (b : BasicSchedule) → begins_schedule b ≡ false → Admits s (Schedule b) → Join (transaction_of_brief b ∷ []) s.extract (after s.extract (Schedule b))
brief_joins s b alone a =
    let brief = brief_is b ∙ ap not alone in
    record {
      changes = ap (λ x. s.extract.changes ++ cond x (change_by b b.action ∷ []) []) brief ∙ ap (λ c. s.extract.changes ++ c ∷ []) (of b.action);
      stage = ap₂ (λ st x. unwrap_or (next_stage st IsSchedule x) st) (only_between s.extract.stage a.place) brief;
    }
  where
    of : (c : Action) → change_by b c ≡ asked_with b c two_blanks seven_blanks []
    of (AsksNew d) = refl
    of (AsksRevise d) = refl
    of AsksDelete = refl

pub brief_made : BriefRowJoinsAtOnce
brief_made s row b alone read taken =
    subst (λ (p : Progress). Join (transaction_of_brief b ∷ []) s.extract p) (sym (row_moves s.extract row (Schedule b) read)) (brief_joins s b alone (taken_admits s row (Schedule b) read taken))

pub none_joins : (p : Progress) (c : Content) → joins_at c ≡ false → (after p c).changes ≡ p.changes
none_joins p (Header h) j = append-nil p.changes
none_joins p (Schedule b) j = ap (λ x. p.changes ++ cond x (change_by b b.action ∷ []) []) (brief_is b ∙ j) ∙ append-nil p.changes
none_joins p (Operator o) j = append-nil p.changes
none_joins p (Origin l) j = append-nil p.changes
none_joins p (Intermediate l) j = append-nil p.changes
none_joins p (Terminus l) j = absurd (true≢false j)
none_joins p (Unread i) j = append-nil p.changes

pub others_add_none : OtherRowsAddNone
others_add_none s row c j read taken = ap (λ (p : Progress). p.changes) (row_moves s.extract row c read) ∙ none_joins s.extract c j
