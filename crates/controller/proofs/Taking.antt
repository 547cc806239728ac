-- A row that is taken is whole, in place and read, and no line of the table holds of what it holds.
use Rattle.std.proofs.Common.{◌≡◌, ℕ, Bool, true, false, List, [], ◌∷◌, Some, None, Ok, Err, Option, Result, fold, refl, ap, ◌∙◌, subst}
use Rattle.std.specs.Option.{option_map}
use Rattle.cif.specs.declared.content.Content.{Content}
use Rattle.cif.specs.declared.identity.Identity.{Identity}
use Rattle.cif.specs.declared.refusal.ColumnFault.{ColumnFault}
use Rattle.cif.specs.Refusals.{uppermost, fault_of}
use Rattle.cif.specs.Reading.{read_in, told_in}
use Rattle.cif.proofs.Results.{ok_is}
use Rattle.maps.proofs.Maps.{some_none}
use Rattle.extract.specs.declared.stage.Stage.{Stage}
use Rattle.extract.specs.Progress.{Progress, identity_for, after, after_row}
use Rattle.extract.specs.Judging.{Standing, is_misplaced, is_no_opening, content_lines}
use Rattle.controller.specs.Calls.{Open, Row, refusals, refusal_of, told_with, bytes_verdict}
use Rattle.controller.specs.ScheduleRows.{AreRead, IsTaken, AreTaken, standing_after}
use Rattle.controller.proofs.Heard.{HeardAs, heard_as, heard_read, row_moves, heard_told}
use Rattle.controller.proofs.Fitting.{is_sound}
use Rattle.controller.proofs.Agreed.{content_sound}

pub none_mapped : {X Y : Type 0} (f : X → Y) (o : Option X) → option_map f o ≡ None → o ≡ None
none_mapped f (Some x) h = absurd (some_none _ h)
none_mapped f None h = refl

no_fault : {X E : Type 0} (r : Result X E) → fault_of r ≡ None → (x : X) × (r ≡ Ok x)
no_fault (Ok x) h = (x, refl)
no_fault (Err e) h = absurd (some_none _ h)

-- a row of which no line of the table holds is heard
heard_where : (misplaced : Stage → Identity → Bool) (s : Standing) (row : List ℕ) (o : Option ColumnFault) → fault_of (bytes_verdict misplaced s row) ≡ option_map (told_in row) o → o ≡ None → (p : Progress) × HeardAs misplaced s row p
heard_where misplaced s row o told none =
    let verdict = no_fault (bytes_verdict misplaced s row) (told ∙ ap (option_map (told_in row)) none) in
    (verdict.0, heard_as misplaced s row verdict.0 verdict.1)

-- a row that row takes
pub taken_heard : (s : Standing) (row : List ℕ) → IsTaken s row → (p : Progress) × HeardAs is_misplaced s row p
taken_heard s row h =
    heard_where is_misplaced s row _ (heard_told is_misplaced s row) (none_mapped (told_with (Row row) s) (uppermost (refusals (Row row) s 0)) h)

-- an HD that open takes
pub opening_heard : (s : Standing) (row : List ℕ) → refusal_of (Open row) s 0 ≡ None → (p : Progress) × HeardAs is_no_opening s row p
opening_heard s row h =
    heard_where is_no_opening s row _ (heard_told is_no_opening s row) (none_mapped (told_with (Open row) s) (uppermost (refusals (Open row) s 0)) h)

-- what a row holds that is taken is in place, and no line holds of it
pub record Admits (s : Standing) (c : Content) : Type 0 where
  pub place : is_misplaced s.extract.stage (identity_for c) ≡ false
  pub sound : is_sound c ≡ true
  pub lines : uppermost (content_lines s c) ≡ None

-- the standing after it
abbrev pub moved : Standing → Content → Standing
moved s c = record s { extract = after s.extract c }

abbrev pub AdmitsAll : Standing → List Content → Type 0
AdmitsAll s [] = Unit {0}
AdmitsAll s (c ∷ cs) = Admits s c × AdmitsAll (moved s c) cs

pub heard_admits : {s : Standing} {row : List ℕ} {p : Progress} (h : HeardAs is_misplaced s row p) → Admits s h.content
heard_admits {s} {row} h =
    let sound = content_sound h.identity row h.content h.read in
    record { place = ap (is_misplaced s.extract.stage) sound.0 ∙ h.place; sound = sound.1; lines = h.lines }

pub taken_admits : (s : Standing) (row : List ℕ) (c : Content) → read_in row ≡ Ok c → IsTaken s row → Admits s c
taken_admits s row c read t =
    let h = (taken_heard s row t).1 in
    subst (λ (x : Content). Admits s x) (ok_is _ h.content c (heard_read h) read) (heard_admits h)

-- rows that are taken one after another are admitted by what they hold
pub taken_all : (s : Standing) (rows : List (List ℕ)) (cs : List Content) → AreRead rows cs → AreTaken s rows → AdmitsAll s cs × (fold after_row s.extract rows ≡ fold after s.extract cs)
taken_all s [] [] read t = (tt, refl)
taken_all s [] (c ∷ cs) read t = absurd read
taken_all s (row ∷ rows) [] read t = absurd read
taken_all s (row ∷ rows) (c ∷ cs) read t =
    let e = row_moves s.extract row c read.0 in
    let rest = taken_all (moved s c) rows cs read.1 (subst (λ (p : Progress). AreTaken (record s { extract = p }) rows) e t.1) in
    ((taken_admits s row c read.0 t.0, rest.0), ap (λ p. fold after_row p rows) e ∙ rest.1)

-- rows that are taken are read
pub taken_read : (s : Standing) (rows : List (List ℕ)) → AreTaken s rows → (cs : List Content) × AreRead rows cs
taken_read s [] t = ([], tt)
taken_read s (row ∷ rows) t =
    let h = (taken_heard s row t.0).1 in
    let rest = taken_read (standing_after s row) rows t.1 in
    (h.content ∷ rest.0, (heard_read h, rest.1))
