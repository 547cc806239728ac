-- A row that is taken leaves the extract in agreement with the rows, the new one included.
use Rattle.std.proofs.Common.{◌≡◌, ℕ, Bool, true, false, List, [], ◌∷◌, ◌++◌, Ok, Err, Result, sym, refl, ap, ◌∙◌, subst, arith}
use Rattle.std.proofs.lemmas.List.Sums.{fold_push}
use Rattle.std.proofs.lemmas.Bool.Decides.{nat_tests}
use Rattle.cif.specs.declared.content.Content.{Content}
use Rattle.cif.specs.declared.content.Content.TheVariants.{Header as OfHeader, Schedule as OfSchedule, Operator as OfOperator, Origin as OfOrigin, Intermediate as OfIntermediate, Terminus as OfTerminus, Unread}
use Rattle.cif.specs.declared.identity.Identity.{Identity}
use Rattle.cif.specs.declared.identity.Identity.TheVariants.{Header, BasicSchedule, BasicExtra, Origin, Intermediate, Terminus, ChangeEnRoute, TiplocInsert, TiplocAmend, TiplocDelete, Association, Trailer}
use Rattle.cif.specs.declared.refusal.ColumnFault.{ColumnFault}
use Rattle.cif.specs.Refusals.{is_missing, then}
use Rattle.cif.specs.Fields.{header_in, schedule_in, operator_in, origin_in, intermediate_in, terminus_in}
use Rattle.cif.specs.Reading.{content_in}
use Rattle.cif.proofs.Results.{ok_is, err_ok}
use Rattle.schedule.specs.Transactions.{is_lawful, every_lawful}
use Rattle.timetable.specs.Timetables.{IsMap, IsWithinCapacity}
use Rattle.extract.specs.declared.stage.Stage.{Stage}
use Rattle.extract.specs.Stages.{next_stage}
use Rattle.extract.specs.Progress.{Progress, identity_for, after, after_row, idle}
use Rattle.extract.specs.Judging.{Standing, is_misplaced, is_no_opening}
use Rattle.controller.specs.Calls.{bytes_verdict}
use Rattle.controller.specs.Agreeing.{Agrees}
use Rattle.controller.proofs.Heard.{heard_as, heard_after}
use Rattle.controller.proofs.Fitting.{is_sound, MayGoOn, may_after}

-- what a row of an identity can hold
abbrev pub Sound : Identity → Content → Type 0
Sound i c = (identity_for c ≡ i) × (is_sound c ≡ true)

named_sound : {X : Type 0} (i : Identity) (r : Result X ColumnFault) (f : X → Content) → ((x : X) → Sound i (f x)) → (c : Content) → then r (λ x. Ok (f x)) ≡ Ok c → Sound i c
named_sound i (Ok x) f each c h = subst (λ (v : Content). Sound i v) (ok_is _ (f x) c refl h) (each x)
named_sound i (Err e) f each c h = err_ok _ c e refl h

unread_sound : (i : Identity) (c : Content) → Sound i (Unread i) → ◌≡◌ {A = Result Content ColumnFault} (Ok (Unread i)) (Ok c) → Sound i c
unread_sound i c sound h = subst (λ (v : Content). Sound i v) (ok_is _ (Unread i) c refl h) sound

pub content_sound : (i : Identity) (row : List ℕ) (c : Content) → content_in i row ≡ Ok c → Sound i c
content_sound Header row c h = named_sound Header (header_in row) OfHeader (λ x. (refl, refl)) c h
content_sound BasicSchedule row c h = named_sound BasicSchedule (schedule_in row) OfSchedule (λ x. (refl, refl)) c h
content_sound BasicExtra row c h = named_sound BasicExtra (operator_in row) OfOperator (λ x. (refl, refl)) c h
content_sound Origin row c h = named_sound Origin (origin_in row) OfOrigin (λ x. (refl, refl)) c h
content_sound Intermediate row c h = named_sound Intermediate (intermediate_in row) OfIntermediate (λ x. (refl, refl)) c h
content_sound Terminus row c h = named_sound Terminus (terminus_in row) OfTerminus (λ x. (refl, refl)) c h
content_sound ChangeEnRoute row c h = unread_sound ChangeEnRoute c (refl, refl) h
content_sound TiplocInsert row c h = unread_sound TiplocInsert c (refl, refl) h
content_sound TiplocAmend row c h = unread_sound TiplocAmend c (refl, refl) h
content_sound TiplocDelete row c h = unread_sound TiplocDelete c (refl, refl) h
content_sound Association row c h = unread_sound Association c (refl, refl) h
content_sound Trailer row c h = unread_sound Trailer c (refl, refl) h

-- a row that is in place is one that the stage takes
abbrev pub Places : (Stage → Identity → Bool) → Type 0
Places misplaced = (st : Stage) (i : Identity) → misplaced st i ≡ false → is_missing (next_stage st i false) ≡ false

pub row_places : Places is_misplaced
row_places st i h = grind (arith, nat_tests)

pub opening_places : Places is_no_opening
opening_places st i h = grind (arith, nat_tests)

module _ (misplaced : Stage → Identity → Bool) (places : Places misplaced) (s : Standing) (row : List ℕ) (p : Progress) (is : IsMap s.store.map) (within : IsWithinCapacity s.store) (may : MayGoOn s.store s.extract)
    (draft : is_lawful p.draft ≡ true) (lawful : every_lawful p.changes ≡ true) where
  abbrev Goal : Type 0
  Goal = MayGoOn s.store p

  heard_may : bytes_verdict misplaced s row ≡ Ok p → Goal
  heard_may v =
      let h = heard_as misplaced s row p v in
      let sound = content_sound h.identity row h.content h.read in
      let same : after s.extract h.content ≡ p = sym h.moved in
      subst (λ (q : Progress). MayGoOn s.store q) same
      (may_after s is within may h.content sound.1 (ap (λ (q : Progress). is_lawful q.draft) same ∙ draft) (ap (λ (q : Progress). every_lawful q.changes) same ∙ lawful)
      (ap (λ j. is_missing (next_stage s.extract.stage j false)) sound.0 ∙ places s.extract.stage h.identity h.place) h.lines)

-- one row more
pub agrees_more : (misplaced : Stage → Identity → Bool) → Places misplaced → (s : Standing) (row : List ℕ) (p : Progress) (rows : List (List ℕ)) → is_lawful p.draft ≡ true → every_lawful p.changes ≡ true → bytes_verdict misplaced s row ≡ Ok p → Agrees s.store rows s.extract → Agrees s.store (rows ++ row ∷ []) p
agrees_more misplaced places s row p rows draft lawful h a =
    let may = heard_may misplaced places s row p a.is_map a.within (record { pending = a.pending; reading = a.reading }) draft lawful h in
    record {
      is_map = a.is_map;
      within = a.within;
      progress = heard_after misplaced s row p h ∙ (ap (λ q. after_row q row) a.progress ∙ sym (fold_push after_row idle rows row));
      pending = may.pending;
      reading = may.reading;
    }
