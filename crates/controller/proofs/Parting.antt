-- The rows of an extract are cut into its parts.
use Rattle.std.proofs.Common.{◌≡◌, ℕ, Bool, true, false, not, ◌&&◌, List, [], ◌∷◌, ◌++◌, map, Some, None, Ok, Option, flat_map, fold, unwrap_or, sym, refl, ap, ◌∙◌, subst, append-nil, append_assoc}
use Rattle.std.specs.List.{list_all}
use Rattle.std.proofs.lemmas.Bool.{true≢false, and_parts, and_from, not-true}
use Rattle.std.proofs.lemmas.List.Sums.{fold-append}
use Rattle.cif.specs.declared.content.Header.{Header as Heading}
use Rattle.cif.specs.declared.content.BasicSchedule.{BasicSchedule}
use Rattle.cif.specs.declared.content.Location.{Location}
use Rattle.cif.specs.declared.content.Content.{Content}
use Rattle.cif.specs.declared.content.Content.TheVariants.{Header, Schedule, Operator, Origin, Intermediate, Terminus, Unread}
use Rattle.cif.specs.declared.identity.Identity.TheVariants.{ChangeEnRoute, TiplocInsert, TiplocAmend, TiplocDelete, Association, Trailer}
use Rattle.cif.specs.Reading.{read_in}
use Rattle.schedule.specs.declared.transaction.Change.{Change}
use Rattle.timetable.specs.Timetables.{Meaning}
use Rattle.extract.specs.declared.stage.Stage.{Stage}
use Rattle.extract.specs.declared.stage.Stage.TheVariants.{Idle, Between, Begun, Extra, Running, Changed, Complete}
use Rattle.extract.specs.Stages.{next_stage, is_reading}
use Rattle.extract.specs.Progress.{Progress, identity_for, brief_in, idle, after, progress_of}
use Rattle.extract.specs.Judging.{Standing, is_misplaced, is_no_opening}
use Rattle.controller.specs.Calls.{Open, refusal_of}
use Rattle.controller.specs.ScheduleRows.{WayRow, LI, CR, way_content, operator_contents, ScheduleRows, begins_schedule, AreRead, standing_after}
use Rattle.controller.specs.ExtractRows.{Part, Whole, Brief, Other, is_part, part_contents, part_transactions, ComeTo, RowsComeToParts, idle_over, ExtractComesToParts}
use Rattle.controller.proofs.Fitting.{is_sound}
use Rattle.controller.proofs.Heard.{heard_read, row_moves}
use Rattle.controller.proofs.Taking.{AdmitsAll, moved, taken_all, taken_read, opening_heard}
use Rattle.controller.proofs.Agreed.{content_sound}
use Rattle.controller.proofs.Building.{schedule_ends, brief_joins, brief_is}

-- what rows hold, cut into parts
record Cut (cs : List Content) : Type 0 where
  parts : List Part
  each : list_all is_part parts ≡ true
  are : cs ≡ flat_map part_contents parts

-- the same from the way of a train on, from its LO on, and from its BX on, if there is one
record FromWay (cs : List Content) : Type 0 where
  way : List WayRow
  terminus : Location
  rest : List Content
  are : cs ≡ map way_content way ++ Terminus terminus ∷ rest
  cut : Cut rest

record FromOrigin (cs : List Content) : Type 0 where
  origin : Location
  rest : List Content
  are : cs ≡ Origin origin ∷ rest
  on : FromWay rest

record FromOperator (cs : List Content) : Type 0 where
  operator : Option (List ℕ)
  rest : List Content
  are : cs ≡ operator_contents operator ++ rest
  on : FromOrigin rest

-- how rows are cut from a stage on
abbrev CutFrom : Stage → List Content → Type 0
CutFrom Begun cs = FromOperator cs
CutFrom Extra cs = FromOrigin cs
CutFrom Running cs = FromWay cs
CutFrom Changed cs = FromWay cs
CutFrom _ cs = Cut cs

-- a part more
part_more : (part : Part) (cs rest : List Content) → is_part part ≡ true → cs ≡ part_contents part ++ rest → Cut rest → Cut cs
part_more part cs rest is e c = record {
  parts = part ∷ c.parts;
  each = and_from (is_part part) (list_all is_part c.parts) is c.each;
  are = e ∙ ap (λ xs. part_contents part ++ xs) c.are;
}

way_more : (row : WayRow) (cs : List Content) → FromWay cs → FromWay (way_content row ∷ cs)
way_more row cs w = record { way = row ∷ w.way; terminus = w.terminus; rest = w.rest; are = ap (λ xs. way_content row ∷ xs) w.are; cut = w.cut }

-- the rows of a schedule, once its BS is there
whole_more : (b : BasicSchedule) (cs : List Content) → begins_schedule b ≡ true → FromOperator cs → Cut (Schedule b ∷ cs)
whole_more b cs begins f =
    let w = f.on.on in
    let r : ScheduleRows = record { basic = b; operator = f.operator; origin = f.on.origin; way = w.way; terminus = w.terminus } in
    part_more (Whole r) (Schedule b ∷ cs) w.rest begins (ap (λ xs. Schedule b ∷ xs) same) w.cut
  where
    ops : List Content
    ops = operator_contents f.operator

    going : List Content
    going = Origin f.on.origin ∷ map way_content f.on.on.way

    ends : List Content
    ends = Terminus f.on.on.terminus ∷ []

    same : cs ≡ ops ++ going ++ ends ++ f.on.on.rest
    same =
        f.are
        ∙ (ap (λ xs. ops ++ xs) (f.on.are ∙ ap (λ xs. Origin f.on.origin ∷ xs) f.on.on.are)
        ∙ (sym (append_assoc ops going (ends ++ f.on.on.rest)) ∙ sym (append_assoc (ops ++ going) ends f.on.on.rest)))

-- a row that a stage takes, and can hold what it does
abbrev fits : Stage → Content → Bool
fits st c = not (is_misplaced st (identity_for c)) && is_sound c

abbrev stage_after : Stage → Content → Stage
stage_after st c = unwrap_or (next_stage st (identity_for c) (brief_in c)) st

-- a BS cuts by whether it begins a schedule
schedule_more : (b : BasicSchedule) (cs : List Content) (begins : Bool) → begins_schedule b ≡ begins → CutFrom (stage_after Between (Schedule b)) cs → Cut (Schedule b ∷ cs)
schedule_more b cs true e f = whole_more b cs e (subst (λ (x : Bool). CutFrom (unwrap_or (next_stage Between (identity_for (Schedule b)) x) Between) cs) (brief_is b ∙ ap not e) f)
schedule_more b cs false e c = part_more (Brief b) (Schedule b ∷ cs) cs (rw e refl) refl (subst (λ (x : Bool). CutFrom (unwrap_or (next_stage Between (identity_for (Schedule b)) x) Between) cs) (brief_is b ∙ ap not e) c)

row_more : (st : Stage) (c : Content) (cs : List Content) → fits st c ≡ true → CutFrom (stage_after st c) cs → CutFrom st (c ∷ cs)
row_more Between (Schedule b) cs h k = schedule_more b cs (begins_schedule b) refl k
row_more Between (Unread TiplocInsert) cs h k = part_more (Other TiplocInsert) _ cs refl refl k
row_more Between (Unread TiplocAmend) cs h k = part_more (Other TiplocAmend) _ cs refl refl k
row_more Between (Unread TiplocDelete) cs h k = part_more (Other TiplocDelete) _ cs refl refl k
row_more Between (Unread Association) cs h k = part_more (Other Association) _ cs refl refl k
row_more Between (Unread Trailer) cs h k = part_more (Other Trailer) _ cs refl refl k
row_more Begun (Operator o) cs h k = record { operator = Some o; rest = cs; are = refl; on = k }
row_more Begun (Origin l) cs h k = record { operator = None; rest = Origin l ∷ cs; are = refl; on = record { origin = l; rest = cs; are = refl; on = k } }
row_more Extra (Origin l) cs h k = record { origin = l; rest = cs; are = refl; on = k }
row_more Running (Intermediate l) cs h k = way_more (LI l) cs k
row_more Running (Unread ChangeEnRoute) cs h k = way_more CR cs k
row_more Running (Terminus l) cs h k = record { way = []; terminus = l; rest = cs; are = refl; cut = k }
row_more Changed (Intermediate l) cs h k = way_more (LI l) cs k
row_more Idle (Unread ChangeEnRoute) cs h k = absurd (true≢false (sym h))
row_more Begun (Unread ChangeEnRoute) cs h k = absurd (true≢false (sym h))
row_more Extra (Unread ChangeEnRoute) cs h k = absurd (true≢false (sym h))
row_more Changed (Unread ChangeEnRoute) cs h k = absurd (true≢false (sym h))
row_more Complete (Unread ChangeEnRoute) cs h k = absurd (true≢false (sym h))
row_more st c cs h k = absurd (true≢false (sym h))

none_left : (st : Stage) → is_reading st ≡ false → CutFrom st []
none_left Begun h = absurd (true≢false h)
none_left Extra h = absurd (true≢false h)
none_left Running h = absurd (true≢false h)
none_left Changed h = absurd (true≢false h)
none_left st h = record { parts = []; each = refl; are = refl }

cut_from : (cs : List Content) (s : Standing) → AdmitsAll s cs → is_reading (fold after s.extract cs).stage ≡ false → CutFrom s.extract.stage cs
cut_from [] s a h = none_left s.extract.stage h
cut_from (c ∷ cs) s a h = row_more s.extract.stage c cs (fitting a.0.place a.0.sound) (cut_from cs (moved s c) a.1 h)
  where
    fitting : is_misplaced s.extract.stage (identity_for c) ≡ false → is_sound c ≡ true → fits s.extract.stage c ≡ true
    fitting p q = and_from (not (is_misplaced s.extract.stage (identity_for c))) (is_sound c) (rw p refl) q

-- where no schedule is half read, rows are cut into whole parts
whole_from : (st : Stage) (cs : List Content) → is_reading st ≡ false → CutFrom st cs → Cut cs
whole_from Begun cs h k = absurd (true≢false h)
whole_from Extra cs h k = absurd (true≢false h)
whole_from Running cs h k = absurd (true≢false h)
whole_from Changed cs h k = absurd (true≢false h)
whole_from st cs h k = k

-- the standing after some rows
abbrev pub moved_all : Standing → List Content → Standing
moved_all s cs = record s { extract = fold after s.extract cs }

pub admits_both : (xs ys : List Content) (s : Standing) → AdmitsAll s (xs ++ ys) → AdmitsAll s xs × AdmitsAll (moved_all s xs) ys
admits_both [] ys s a = (tt, a)
admits_both (x ∷ xs) ys s a = let r = admits_both xs ys (moved s x) a.1 in ((a.0, r.0), r.1)

part_adds : (part : Part) (s : Standing) → is_part part ≡ true → AdmitsAll s (part_contents part) → (fold after s.extract (part_contents part)).changes ≡ s.extract.changes ++ part_transactions part
part_adds (Whole r) s is a = (schedule_ends s r is a).changes
part_adds (Brief b) s is a = (brief_joins s b (not-true (begins_schedule b) is) a.0).changes
part_adds (Other i) s is a = refl

parts_add : (parts : List Part) (s : Standing) → list_all is_part parts ≡ true → AdmitsAll s (flat_map part_contents parts) → (fold after s.extract (flat_map part_contents parts)).changes ≡ s.extract.changes ++ flat_map part_transactions parts
parts_add [] s is a = sym (append-nil s.extract.changes)
parts_add (part ∷ parts) s is a =
    let each = and_parts (is_part part) (list_all is_part parts) is in
    let both = admits_both (part_contents part) (flat_map part_contents parts) s a in
    ap (λ (p : Progress). p.changes) (fold-append after s.extract (part_contents part) (flat_map part_contents parts))
    ∙ (parts_add parts (moved_all s (part_contents part)) each.1 both.1
    ∙ (ap (λ xs. xs ++ flat_map part_transactions parts) (part_adds part s each.0 both.0)
    ∙ append_assoc s.extract.changes (part_transactions part) (flat_map part_transactions parts)))

pub rows_parted : RowsComeToParts
rows_parted s rows taken before after_all =
    let r = taken_read s rows taken in
    let t = taken_all s rows r.0 r.1 taken in
    let cut = whole_from s.extract.stage r.0 before (cut_from r.0 s t.0 (sym (ap (λ (p : Progress). is_reading p.stage) t.1) ∙ after_all)) in
    record {
      parts = cut.parts;
      each = cut.each;
      read = subst (λ (cs : List Content). AreRead rows cs) cut.are r.1;
      changes =
          ap (λ (p : Progress). p.changes) t.1
          ∙ (ap (λ (cs : List Content). (fold after s.extract cs).changes) cut.are
          ∙ parts_add cut.parts s cut.each (subst (λ (cs : List Content). AdmitsAll s cs) cut.are t.0));
    }

-- only an HD is in place for open
is_header_row : (c : Content) → (not (is_no_opening Idle (identity_for c)) && is_sound c) ≡ true → (h : Heading) × (c ≡ Header h)
is_header_row (Header h) e = (h, refl)
is_header_row (Unread ChangeEnRoute) e = absurd (true≢false (sym e))
is_header_row c e = absurd (true≢false (sym e))

-- so what open takes is read as an HD
pub opened_by : (store : Meaning) (reference hd : List ℕ) → refusal_of (Open hd) (idle_over store reference) 0 ≡ None → (h : Heading) × (read_in hd ≡ Ok (Header h))
opened_by store reference hd taken =
    let h = (opening_heard (idle_over store reference) hd taken).1 in
    let sound = content_sound h.identity hd h.content h.read in
    let is = is_header_row h.content (and_from (not (is_no_opening Idle (identity_for h.content))) (is_sound h.content) (ap not (ap (is_no_opening Idle) sound.0 ∙ h.place)) sound.1) in
    (is.0, heard_read h ∙ ap Ok is.1)

pub extract_parted : ExtractComesToParts
extract_parted store reference hd rows first taken after_all =
    let o = opened_by store reference hd first in
    let at = row_moves idle hd (Header o.0) o.1 in
    subst (λ (cs : List Change). ComeTo rows cs (progress_of (hd ∷ rows)).changes) (ap (λ (p : Progress). p.changes) at)
    (rows_parted (standing_after (idle_over store reference) hd) rows taken (ap (λ (p : Progress). is_reading p.stage) at) after_all)
