-- What is pending may be done to the store, row by row.
use Rattle.std.proofs.Common.{◌≡◌, ℕ, ◌+◌, ◌≤◌, Bool, true, false, cond, not, ◌&&◌, ◌||◌, List, [], ◌∷◌, ◌++◌, length, None, unwrap_or, sym, refl, ap, ◌∙◌, subst, append-nil, arith}
use Rattle.std.proofs.lemmas.Bool.{true≢false, not-false, eqb-false, and_parts}
use Rattle.std.proofs.lemmas.Bool.Decides.{nat_tests}
use Rattle.cif.specs.declared.content.BasicSchedule.{BasicSchedule}
use Rattle.cif.specs.declared.content.Action.{Action}
use Rattle.cif.specs.declared.content.Action.TheVariants.{New as AsksNew, Revise as AsksRevise, Delete as AsksDelete}
use Rattle.cif.specs.declared.content.Location.{Location}
use Rattle.cif.specs.declared.content.Content.{Content}
use Rattle.cif.specs.declared.content.Content.TheVariants.{Header, Schedule, Operator, Origin, Intermediate, Terminus, Unread}
use Rattle.cif.specs.declared.identity.Identity.TheVariants.{Header as IsHeader, BasicSchedule as IsSchedule, BasicExtra as IsExtra, Origin as IsOrigin, Intermediate as IsIntermediate, Terminus as IsTerminus, ChangeEnRoute}
use Rattle.cif.specs.declared.identity.Identity.{Identity}
use Rattle.cif.specs.Refusals.{uppermost, is_missing}
use Rattle.maps.proofs.Maps.{some_none}
use Rattle.schedule.specs.declared.record.Record.{Record}
use Rattle.schedule.specs.declared.transaction.Change.{Change}
use Rattle.schedule.specs.declared.transaction.Change.TheVariants.{New, Revise, Delete}
use Rattle.schedule.specs.Records.{key_of}
use Rattle.schedule.specs.Building.{with_operator, with_call, with_destination, bringing}
use Rattle.schedule.specs.Transactions.{is_lawful, every_lawful}
use Rattle.timetable.specs.Timetables.{Meaning, IsMap, IsWithinCapacity, is_full}
use Rattle.timetable.specs.Laws.{has_key}
use Rattle.overlay.specs.Overlays.{with_done}
use Rattle.overlay.specs.Permitted.{MayBeDone, EachMayBeDone}
use Rattle.overlay.proofs.Permitted.{each_push, each_within}
use Rattle.extract.specs.declared.stage.Stage.{Stage}
use Rattle.extract.specs.declared.stage.Stage.TheVariants.{Between}
use Rattle.extract.specs.Stages.{next_stage, is_reading}
use Rattle.extract.specs.Progress.{Progress, change_by, is_brief, identity_for, after, ended_by}
use Rattle.extract.specs.Judging.{Standing, overlay_in, asks_new, is_there, past_rows, past_transactions, change_lines, content_lines}
use Rattle.controller.specs.Laws.{is_passing}
use Rattle.controller.specs.ExtractRows.{is_other}
use Rattle.controller.proofs.Stepping.{reads_on, only_between}

-- whether a transaction may be done depends on the key of its schedule, which is one
same_may : (t : Meaning) (c : Change) (f : Record → Record) → ((r : Record) → key_of (f r) ≡ key_of r) → is_lawful (bringing f c) ≡ true → MayBeDone t c → MayBeDone t (bringing f c)
same_may t (New r) f same lawful h = (lawful, ap (has_key t.map) (same r) ∙ h.1, h.2)
same_may t (Revise r) f same lawful h = (lawful, ap (has_key t.map) (same r) ∙ h.1)
same_may t (Delete k) f same lawful h = h

either_key : (b : Bool) (x y : Record) → key_of x ≡ key_of y → key_of (cond b x y) ≡ key_of y
either_key true x y e = e
either_key false x y e = refl

operator_key : (o : List ℕ) (r : Record) → key_of (with_operator r o) ≡ key_of r
operator_key o r = either_key _ r _ refl

destination_key : (d : List ℕ) (r : Record) → key_of (with_destination r d) ≡ key_of r
destination_key d r = either_key _ r _ refl

call_key : (l : Location) (r : Record) → key_of (with_call r l) ≡ key_of r
call_key l r = either_key _ _ r refl

-- so it is with a transaction that its LT ends
ended_may : (t : Meaning) (l : Location) (c : Change) → is_lawful (ended_by l c) ≡ true → MayBeDone t c → MayBeDone t (ended_by l c)
ended_may t l (New r) lawful h = (lawful, ap (has_key t.map) (destination_key l.tiploc (with_call r l) ∙ call_key l r) ∙ h.1, h.2)
ended_may t l (Revise r) lawful h = (lawful, ap (has_key t.map) (destination_key l.tiploc (with_call r l) ∙ call_key l r) ∙ h.1)
ended_may t l (Delete k) lawful h = h

-- the last of lawful transactions is lawful
last_lawful : (cs : List Change) (c : Change) → every_lawful (cs ++ c ∷ []) ≡ true → is_lawful c ≡ true
last_lawful [] c h = (and_parts (is_lawful c) true h).0
last_lawful (d ∷ ds) c h = last_lawful ds c (and_parts (is_lawful d) (every_lawful (ds ++ c ∷ [])) h).1

-- where no line of a BS holds
no_line : (new there many full : Bool) → uppermost (change_lines new there many full) ≡ None → ((new && there) ≡ false) × ((not new && not there) ≡ false) × ((new && full) ≡ false)
no_line true true many full h = absurd (some_none _ h)
no_line true false true full h = absurd (some_none _ h)
no_line true false false true h = absurd (some_none _ h)
no_line true false false false h = (refl, refl, refl)
no_line false true many full h = (refl, refl, refl)
no_line false false many full h = absurd (some_none _ h)

-- the rows of which nothing is read
abbrev pub is_unread : Identity → Bool
is_unread ChangeEnRoute = true
is_unread i = is_other i

unread_passes : (i : Identity) → is_unread i ≡ true → is_passing i ≡ true
unread_passes IsSchedule h = absurd (true≢false (sym h))
unread_passes IsTerminus h = absurd (true≢false (sym h))
unread_passes i h = refl

-- what a row can hold: that nothing is read, of such rows only
abbrev pub is_sound : Content → Bool
is_sound (Unread i) = is_unread i
is_sound _ = true

-- what an extract that agrees has pending and is reading may be done
pub record MayGoOn (t : Meaning) (p : Progress) : Type 0 where
  pub pending : EachMayBeDone t p.changes
  pub reading : is_reading p.stage ≡ true → MayBeDone (with_done t p.changes) p.draft

module _ (s : Standing) (is : IsMap s.store.map) (within : IsWithinCapacity s.store) (may : MayGoOn s.store s.extract) where
  abbrev cs : List Change
  cs = s.extract.changes

  few : length (overlay_in s).map ≤ s.store.capacity
  few = each_within s.store cs is within may.pending

  -- the transaction that a BS asks for may be done, where no line holds
  asked_may : (b : BasicSchedule) → is_lawful (change_by b b.action) ≡ true → uppermost (content_lines s (Schedule b)) ≡ None → MayBeDone (overlay_in s) (change_by b b.action)
  asked_may b lawful h =
      let none = no_line (asks_new b.action) (is_there s b) (past_rows s (Schedule b) || past_transactions s (Schedule b)) (is_full (overlay_in s)) h in
      of b.action lawful none.0 none.1 none.2
    where
      of : (c : Action) → is_lawful (change_by b c) ≡ true → (asks_new c && is_there s b) ≡ false → (not (asks_new c) && not (is_there s b)) ≡ false → (asks_new c && is_full (overlay_in s)) ≡ false
          → MayBeDone (overlay_in s) (change_by b c)
      of (AsksNew d) l p q r = (l, p, (let u = eqb-false (length (overlay_in s).map) s.store.capacity r in let f = few in omega arith))
      of (AsksRevise d) l p q r = (l, not-false (is_there s b) q)
      of AsksDelete l p q r = not-false (is_there s b) q

  -- none more is pending
  none_more : (draft : Change) → MayBeDone (overlay_in s) draft → MayBeDone (with_done s.store (cs ++ [])) draft
  none_more draft h = subst (λ (xs : List Change). MayBeDone (with_done s.store xs) draft) (sym (append-nil cs)) h

  same_pending : EachMayBeDone s.store (cs ++ [])
  same_pending = subst (λ (xs : List Change). EachMayBeDone s.store xs) (sym (append-nil cs)) may.pending

  -- a row that neither begins nor ends a schedule
  goes_on : (i : Identity) (n : ℕ) (current : List ℕ) (draft : Change) → is_missing (next_stage s.extract.stage i false) ≡ false → is_passing i ≡ true → (MayBeDone (overlay_in s) s.extract.draft → MayBeDone (overlay_in s) draft)
      → MayGoOn s.store (record { stage = unwrap_or (next_stage s.extract.stage i false) s.extract.stage; taken = n; current = current; draft = draft; changes = cs ++ [] })
  goes_on i n current draft taken passing f = record {
    pending = same_pending;
    reading = λ r. none_more draft (f (may.reading (sym (reads_on s.extract.stage i taken passing) ∙ r)));
  }

  -- a BS that has no further rows, and one that has
  begins : (b : BasicSchedule) (brief : Bool) → brief ≡ is_brief b → s.extract.stage ≡ Between → MayBeDone (overlay_in s) (change_by b b.action)
      → MayGoOn s.store (record { stage = unwrap_or (next_stage s.extract.stage IsSchedule brief) s.extract.stage; taken = s.extract.taken + 1; current = s.extract.current; draft = cond brief s.extract.draft (change_by b b.action); changes = cs ++ cond brief (change_by b b.action ∷ []) [] })
  begins b true e at h = record {
    pending = each_push s.store cs (change_by b b.action) may.pending h;
    reading = λ r. absurd (true≢false (sym (sym (ap (λ x. is_reading (unwrap_or (next_stage x IsSchedule true) x)) at) ∙ r)));
  }
  begins b false e at h = record { pending = same_pending; reading = λ r. none_more (change_by b b.action) h }

  -- an LT
  ends : (l : Location) → is_lawful (ended_by l s.extract.draft) ≡ true
      → is_reading s.extract.stage ≡ true → unwrap_or (next_stage s.extract.stage IsTerminus false) s.extract.stage ≡ Between → MayGoOn s.store (after s.extract (Terminus l))
  ends l lawful reading next = record {
    pending = each_push s.store cs (ended_by l s.extract.draft) may.pending (ended_may (overlay_in s) l s.extract.draft lawful (may.reading reading));
    reading = λ r. absurd (true≢false (sym (sym (ap is_reading next) ∙ r)));
  }

  ends_reading : (st : Stage) → is_missing (next_stage st IsTerminus false) ≡ false → is_reading st ≡ true
  ends_reading st h = grind (arith, nat_tests)

  ends_between : (st : Stage) → is_missing (next_stage st IsTerminus false) ≡ false → unwrap_or (next_stage st IsTerminus false) st ≡ Between
  ends_between st h = grind (arith, nat_tests)

  -- the transaction that a BS asks for is lawful where those that join and the one that is then read are
  asked_lawful : (b : BasicSchedule) (brief : Bool) → is_lawful (cond brief s.extract.draft (change_by b b.action)) ≡ true → every_lawful (cs ++ cond brief (change_by b b.action ∷ []) []) ≡ true → is_lawful (change_by b b.action) ≡ true
  asked_lawful b true d h = last_lawful cs (change_by b b.action) h
  asked_lawful b false d h = d

  -- after a row that is taken what is pending and read may be done
  pub may_after : (c : Content) → is_sound c ≡ true → is_lawful (after s.extract c).draft ≡ true → every_lawful (after s.extract c).changes ≡ true
      → is_missing (next_stage s.extract.stage (identity_for c) false) ≡ false → uppermost (content_lines s c) ≡ None → MayGoOn s.store (after s.extract c)
  may_after (Header h) sound draft lawful taken none = goes_on IsHeader _ _ s.extract.draft taken refl (λ m. m)
  may_after (Schedule b) sound draft lawful taken none = begins b (is_brief b) refl (only_between s.extract.stage taken) (asked_may b (asked_lawful b (is_brief b) draft lawful) none)
  may_after (Operator o) sound draft lawful taken none = goes_on IsExtra _ _ _ taken refl (same_may (overlay_in s) s.extract.draft (λ r. with_operator r o) (operator_key o) draft)
  may_after (Origin l) sound draft lawful taken none = goes_on IsOrigin _ _ _ taken refl (same_may (overlay_in s) s.extract.draft (λ r. with_call r l) (call_key l) draft)
  may_after (Intermediate l) sound draft lawful taken none = goes_on IsIntermediate _ _ _ taken refl (same_may (overlay_in s) s.extract.draft (λ r. with_call r l) (call_key l) draft)
  may_after (Terminus l) sound draft lawful taken none = ends l (last_lawful cs (ended_by l s.extract.draft) lawful) (ends_reading s.extract.stage taken) (ends_between s.extract.stage taken)
  may_after (Unread i) sound draft lawful taken none = goes_on i _ _ s.extract.draft taken (unread_passes i sound) (λ m. m)
