-- What each kind of row comes to, once it is read.
use Rattle.std.proofs.Common.{◌≡◌, ℕ, ◌+◌, Bool, true, false, ◌&&◌, ◌||◌, leb, List, [], ◌∷◌, ◌++◌, Some, None, Ok, Err, Result, sym, refl, ap, ◌∙◌, subst}
use Rattle.std.proofs.lemmas.Bool.{cond-false}
use Rattle.cif.specs.declared.content.Location.{Location}
use Rattle.cif.specs.declared.content.Content.{Content}
use Rattle.cif.specs.declared.content.Content.TheVariants.{Operator, Origin, Intermediate, Terminus, Unread}
use Rattle.cif.specs.declared.identity.Identity.{Identity}
use Rattle.cif.specs.declared.identity.Identity.TheVariants.{Origin as IsOrigin, Intermediate as IsIntermediate, Terminus as IsTerminus}
use Rattle.cif.specs.declared.refusal.Refusal.TheVariants.{OutOfPlace, TooManyRows, StoreFull}
use Rattle.cif.specs.declared.refusal.ColumnFault.{ColumnFault}
use Rattle.cif.specs.Refusals.{TableLine, line, uppermost, fault_at, then}
use Rattle.cif.specs.Reading.{content_in}
use Rattle.schedule.specs.declared.transaction.Change.{Change}
use Rattle.schedule.specs.Transactions.{change_of}
use Rattle.schedule.specs.Building.{with_operator, with_call, bringing, bringing_lines}
use Rattle.extract.specs.declared.stage.Stage.{Stage}
use Rattle.extract.specs.declared.stage.Stage.TheVariants.{Between, Begun, Extra, Running}
use Rattle.extract.specs.Stages.{next_stage, is_trailer}
use Rattle.extract.specs.declared.extract.Extract.{Extract}
use Rattle.extract.specs.Progress.{Progress, ended_by, after}
use Rattle.extract.specs.Judging.{Standing, is_misplaced, row_verdict, verdict_on, value_unless, room_lines, call_row_lines, content_lines, GoesBy}
use Rattle.extract.specs.Standings.{progress_with, StandsOn, Passes}
use Rattle.extract.proofs.Lines.{or_next, uppermost_both}

-- a row more, by the stage after it, the transaction that is then being read, and those that join at it
abbrev pub next_progress : Progress → Stage → Change → List Change → Progress
next_progress p stage draft joining =
    record p { stage = stage; taken = p.taken + 1; draft = draft; changes = p.changes ++ joining }

-- a row that is in place and was read goes by what it holds
pub taken_is : (s : Standing) (i : Identity) (row : List ℕ) (c : Content) → is_misplaced s.extract.stage i ≡ false → content_in i row ≡ Ok c → row_verdict s i row ≡ verdict_on s c
taken_is s i row c h e = cond-false (is_misplaced s.extract.stage i) (Err (fault_at OutOfPlace 1)) (then (content_in i row) (λ x. verdict_on s x)) h ∙ ap (λ r. then r (λ x. verdict_on s x)) e

module _ (s : Standing) where
  pub operator_taken : (o : List ℕ) → s.extract.stage ≡ Begun → verdict_on s (Operator o) ≡ value_unless (room_lines s.extract.taken) (next_progress s.extract Extra (bringing (λ r. with_operator r o) s.extract.draft) [])
  operator_taken o st = go (leb 9999 s.extract.taken) refl
    where
      go : (b : Bool) → leb 9999 s.extract.taken ≡ b → verdict_on s (Operator o) ≡ value_unless (room_lines s.extract.taken) (next_progress s.extract Extra (bringing (λ r. with_operator r o) s.extract.draft) [])
      go true e = rw e refl
      go false e = rw (e, st) refl

  pub unread_taken : (i : Identity) (next : Stage) → next_stage s.extract.stage i false ≡ Some next → is_trailer i ≡ false → verdict_on s (Unread i) ≡ value_unless (room_lines s.extract.taken) (next_progress s.extract next s.extract.draft [])
  unread_taken i next st t = go (leb 9999 s.extract.taken) refl
    where
      go : (b : Bool) → leb 9999 s.extract.taken ≡ b → verdict_on s (Unread i) ≡ value_unless (room_lines s.extract.taken) (next_progress s.extract next s.extract.draft [])
      go true e = rw (e, t) refl
      go false e = rw (e, st) refl

  -- the lines of a location, with those that no location has left out
  located : List TableLine → List TableLine
  located ls = ls ++ (line TooManyRows 1 ((leb 9999 s.extract.taken && true) || false) ∷ line StoreFull 1 false ∷ [])

  located_same : (ls : List TableLine) → uppermost (located ls) ≡ uppermost (ls ++ room_lines s.extract.taken)
  unfolding located
  located_same ls =
      uppermost_both ls (line TooManyRows 1 ((leb 9999 s.extract.taken && true) || false) ∷ line StoreFull 1 false ∷ [])
      ∙ (ap (or_next (uppermost ls)) (tail (leb 9999 s.extract.taken)) ∙ sym (uppermost_both ls (room_lines s.extract.taken)))
    where
      tail : (b : Bool) → uppermost (line TooManyRows 1 ((b && true) || false) ∷ line StoreFull 1 false ∷ []) ≡ uppermost (line TooManyRows 1 b ∷ [])
      tail true = refl
      tail false = refl

  -- a table and the value that it judges, each in the place of an equal one
  judged_same : {X : Type 0} (ls ks : List TableLine) (x y : X) → uppermost ls ≡ uppermost ks → x ≡ y → value_unless ls x ≡ value_unless ks y
  judged_same ls ks x y u e = ap (λ o. elim o [ Some f ↦ Err f | None ↦ Ok x ]) u ∙ ap (λ z. value_unless ks z) e

  pub origin_taken : (l : Location) → next_stage s.extract.stage IsOrigin false ≡ Some Running → verdict_on s (Origin l) ≡ value_unless (call_row_lines s.extract.draft l s.extract.taken) (next_progress s.extract Running (bringing (λ r. with_call r l) s.extract.draft) [])
  unfolding located
  origin_taken l st =
      let e : after s.extract (Origin l) ≡ next_progress s.extract Running (bringing (λ r. with_call r l) s.extract.draft) [] = rw st refl in
      judged_same (content_lines s (Origin l)) (bringing_lines s.extract.draft l ++ room_lines s.extract.taken) (after s.extract (Origin l)) (next_progress s.extract Running (bringing (λ r. with_call r l) s.extract.draft) []) (located_same (bringing_lines s.extract.draft l)) e

  pub intermediate_taken : (l : Location) → next_stage s.extract.stage IsIntermediate false ≡ Some Running → verdict_on s (Intermediate l) ≡ value_unless (call_row_lines s.extract.draft l s.extract.taken) (next_progress s.extract Running (bringing (λ r. with_call r l) s.extract.draft) [])
  unfolding located
  intermediate_taken l st =
      let e : after s.extract (Intermediate l) ≡ next_progress s.extract Running (bringing (λ r. with_call r l) s.extract.draft) [] = rw st refl in
      judged_same (content_lines s (Intermediate l)) (bringing_lines s.extract.draft l ++ room_lines s.extract.taken) (after s.extract (Intermediate l)) (next_progress s.extract Running (bringing (λ r. with_call r l) s.extract.draft) []) (located_same (bringing_lines s.extract.draft l)) e

  pub terminus_taken : (l : Location) → next_stage s.extract.stage IsTerminus false ≡ Some Between → verdict_on s (Terminus l) ≡ value_unless (call_row_lines s.extract.draft l s.extract.taken) (next_progress s.extract Between s.extract.draft (ended_by l s.extract.draft ∷ []))
  unfolding located
  terminus_taken l st =
      let e : after s.extract (Terminus l) ≡ next_progress s.extract Between s.extract.draft (ended_by l s.extract.draft ∷ []) = rw st refl in
      judged_same (content_lines s (Terminus l)) (bringing_lines s.extract.draft l ++ room_lines s.extract.taken) (after s.extract (Terminus l)) (next_progress s.extract Between s.extract.draft (ended_by l s.extract.draft ∷ [])) (located_same (bringing_lines s.extract.draft l)) e

-- what was told by one rule was told by an equal one
pub told_by : {X E : Type 0} (after : X) (rule given : Result X E) (r : Result (Unit {0}) E) → rule ≡ given → GoesBy after given r → GoesBy after rule r
told_by {X} {E} after rule given r e h = subst (λ (x : Result X E). GoesBy after x r) (sym e) h

-- a row that is in place and was read
pub in_place : (s : Standing) (i j : Identity) (row : List ℕ) (stage : Stage) (c : Content) → s.extract.stage ≡ stage → i ≡ j → is_misplaced stage j ≡ false → content_in j row ≡ Ok c → row_verdict s i row ≡ verdict_on s c
in_place s i j row stage c at e placed content = ap (λ x. row_verdict s x row) e ∙ taken_is s j row c (ap (λ x. is_misplaced x j) at ∙ placed) content

-- what each kind of row does to an extract is what the rule says of a standing that has it
module _ (e : Extract) (s : Standing) (p : Progress) (r : Result (Unit {0}) ColumnFault) (on : StandsOn e s) where
  abbrev old : Progress
  old = progress_with e s.extract.changes

  pub passed : (i : Identity) (next : Stage) → Passes i e.stage next → GoesBy p (value_unless (room_lines e.taken) (next_progress old next (change_of e.draft) [])) r → GoesBy p (verdict_on s (Unread i)) r
  passed i next passes h =
      told_by p _ _ r (unread_taken s i next (ap (λ (q : Progress). next_stage q.stage i false) on ∙ passes.0) passes.1 ∙ ap (λ (q : Progress). value_unless (room_lines q.taken) (next_progress q next q.draft [])) on) h

  pub named : (o : List ℕ) → e.stage ≡ Begun → GoesBy p (value_unless (room_lines e.taken) (next_progress old Extra (bringing (λ r. with_operator r o) (change_of e.draft)) [])) r → GoesBy p (verdict_on s (Operator o)) r
  named o at h =
      told_by p _ _ r (operator_taken s o (ap (λ (q : Progress). q.stage) on ∙ at) ∙ ap (λ (q : Progress). value_unless (room_lines q.taken) (next_progress q Extra (bringing (λ r. with_operator r o) q.draft) [])) on) h

  abbrev Called : Location → Type 0
  Called l = GoesBy p (value_unless (call_row_lines (change_of e.draft) l e.taken) (next_progress old Running (bringing (λ r. with_call r l) (change_of e.draft)) [])) r

  call_on : (l : Location) → value_unless (call_row_lines s.extract.draft l s.extract.taken) (next_progress s.extract Running (bringing (λ r. with_call r l) s.extract.draft) []) ≡ value_unless (call_row_lines (change_of e.draft) l e.taken) (next_progress old Running (bringing (λ r. with_call r l) (change_of e.draft)) [])
  call_on l = ap (λ (q : Progress). value_unless (call_row_lines q.draft l q.taken) (next_progress q Running (bringing (λ r. with_call r l) q.draft) [])) on

  pub begun : (l : Location) → next_stage e.stage IsOrigin false ≡ Some Running → Called l → GoesBy p (verdict_on s (Origin l)) r
  begun l step h = told_by p _ _ r (origin_taken s l (ap (λ (q : Progress). next_stage q.stage IsOrigin false) on ∙ step) ∙ call_on l) h

  pub called : (l : Location) → next_stage e.stage IsIntermediate false ≡ Some Running → Called l → GoesBy p (verdict_on s (Intermediate l)) r
  called l step h = told_by p _ _ r (intermediate_taken s l (ap (λ (q : Progress). next_stage q.stage IsIntermediate false) on ∙ step) ∙ call_on l) h

  pub ended : (l : Location) → e.stage ≡ Running → GoesBy p (value_unless (call_row_lines (change_of e.draft) l e.taken) (next_progress old Between (change_of e.draft) (ended_by l (change_of e.draft) ∷ []))) r → GoesBy p (verdict_on s (Terminus l)) r
  ended l at h =
      told_by p _ _ r (terminus_taken s l (ap (λ (q : Progress). next_stage q.stage IsTerminus false) on ∙ ap (λ x. next_stage x IsTerminus false) at)
      ∙ ap (λ (q : Progress). value_unless (call_row_lines q.draft l q.taken) (next_progress q Between q.draft (ended_by l q.draft ∷ []))) on) h
