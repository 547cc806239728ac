-- A row that is heard step by step is turned away by the uppermost line of the table, and otherwise does what its bytes say.
use Rattle.std.proofs.Common.{◌≡◌, ℕ, Bool, true, false, not, eqb, List, [], ◌∷◌, ◌++◌, length, Some, None, Ok, Err, Option, Result, IsErrAnd, sym, refl, ap, ◌∙◌, subst, append-nil, arith}
use Rattle.std.specs.Option.{option_map}
use Rattle.std.proofs.lemmas.Result.{err_from_is_err_and}
use Rattle.cif.specs.declared.content.Content.{Content}
use Rattle.cif.specs.declared.content.Content.TheVariants.{Header, Schedule, Operator, Origin, Intermediate, Terminus, Unread}
use Rattle.cif.specs.declared.content.Location.{Location}
use Rattle.cif.specs.declared.identity.Identity.{Identity}
use Rattle.cif.specs.declared.refusal.Refusal.TheVariants.{RowLength, BadByte, UnknownIdentity, OutOfPlace}
use Rattle.cif.specs.declared.refusal.ColumnFault.{ColumnFault}
use Rattle.cif.specs.declared.refusal.RowFault.{RowFault}
use Rattle.cif.specs.Refusals.{in_row, TableLine, line, uppermost, is_missing, then, map_err, fault_of}
use Rattle.cif.specs.Rows.{identity_in, first_bad, column_or0, whole_in}
use Rattle.cif.specs.Reading.{letters_in, blanks, content_in, read_in, field_lines, field_lines_in, told_in}
use Rattle.cif.proofs.Results.{ok_is, err_ok}
use Rattle.cif.proofs.Tables.{whole_of, content_told, raised_told, Late, late_told, fields_late}
use Rattle.schedule.specs.declared.transaction.Change.{Change}
use Rattle.schedule.specs.declared.transaction.Change.TheVariants.{New, Revise, Delete}
use Rattle.schedule.specs.Building.{bringing_lines}
use Rattle.extract.specs.declared.stage.Stage.{Stage}
use Rattle.extract.specs.Progress.{Progress, after, after_row}
use Rattle.extract.specs.Judging.{Standing, value_unless, verdict_on, verdict_unless, content_lines, location_lines, GoesBy}
use Rattle.extract.proofs.Lines.{first_told, next_told}
use Rattle.controller.specs.Calls.{misfits, held_lines, value_in, bytes_verdict}

late_both : (xs ys : List TableLine) → Late xs → Late ys → Late (xs ++ ys)
late_both [] ys p q = q
late_both (x ∷ xs) ys p q = (p.0, late_both xs ys p.1 q)

calls_late : (t : Change) (l : Location) → Late (bringing_lines t l)
calls_late (New r) l = (refl, (refl, tt))
calls_late (Revise r) l = (refl, (refl, tt))
calls_late (Delete k) l = tt

content_late : (s : Standing) (c : Content) → Late (content_lines s c)
content_late s c = (refl, (refl, (refl, late_both (location_lines s c) _ (places c) (refl, (refl, tt)))))
  where
    places : (c : Content) → Late (location_lines s c)
    places (Header h) = tt
    places (Schedule b) = tt
    places (Operator o) = tt
    places (Origin l) = calls_late s.extract.draft l
    places (Intermediate l) = calls_late s.extract.draft l
    places (Terminus l) = calls_late s.extract.draft l
    places (Unread i) = tt

held_late : (s : Standing) (o : Option Content) → Late (held_lines s o)
held_late s (Some c) = content_late s c
held_late s None = tt

judged_told : {X : Type 0} (ls : List TableLine) (x : X) → fault_of (value_unless ls x) ≡ uppermost ls
judged_told ls x = of (uppermost ls)
  where
    of : (o : Option ColumnFault) → fault_of (elim o [ Some f ↦ Err f | None ↦ Ok x ]) ≡ o
    of (Some f) = refl
    of None = refl

-- the lines of a row of an identity, from its place on
abbrev placed : Bool → Standing → Identity → List ℕ → List TableLine
placed misplaced s i row = line OutOfPlace 1 misplaced ∷ (field_lines i row ++ (held_lines s (value_in (content_in i row)) ++ []))

placed_late : (misplaced : Bool) (s : Standing) (i : Identity) (row : List ℕ) → Late (placed misplaced s i row)
placed_late misplaced s i row = (refl, late_both (field_lines i row) _ (fields_late i row) (late_both (held_lines s (value_in (content_in i row))) [] (held_late s (value_in (content_in i row))) tt))

taken_told : (misplaced : Bool) (s : Standing) (i : Identity) (row : List ℕ) → fault_of (verdict_unless misplaced s i row) ≡ uppermost (placed misplaced s i row)
taken_told true s i row = refl
taken_told false s i row = of (content_in i row) (content_told i row)
  where
    of : (r : Result Content ColumnFault) → fault_of r ≡ uppermost (field_lines i row) → fault_of (then r (λ c. verdict_on s c)) ≡ uppermost (field_lines i row ++ (held_lines s (value_in r) ++ []))
    of (Err e) h = sym (first_told (field_lines i row) [] e (sym h))
    of (Ok c) h = judged_told (content_lines s c) (after s.extract c) ∙ sym (next_told (field_lines i row) (content_lines s c ++ []) (sym h) ∙ ap uppermost (append-nil (content_lines s c)))

module _ (misplaced : Stage → Identity → Bool) (s : Standing) (row : List ℕ) where
  abbrev lines : Bool → Option ℕ → Option Identity → Option Content → List TableLine
  lines long bad id held =
      (line RowLength 0 (not long) ∷ line BadByte (column_or0 bad) (not (is_missing bad)) ∷ line UnknownIdentity 1 (is_missing id) ∷ [])
      ++ (line OutOfPlace 1 (misfits misplaced s.extract.stage id) ∷ (field_lines_in id row ++ (held_lines s held ++ [])))

  abbrev read_of : Result Identity ColumnFault → Result Content RowFault
  read_of whole = then (map_err (in_row blanks) whole) (λ i. map_err (in_row (letters_in row)) (content_in i row))

  abbrev heard_of : Result Identity ColumnFault → Result Progress RowFault
  heard_of whole = then (map_err (in_row blanks) whole) (λ i. map_err (in_row (letters_in row)) (verdict_unless (misplaced s.extract.stage i) s i row))

  value_raised : {X E F : Type 0} (f : E → F) (r : Result X E) → value_in (map_err f r) ≡ value_in r
  value_raised f (Ok x) = refl
  value_raised f (Err e) = refl

  pub heard_told : fault_of (bytes_verdict misplaced s row) ≡ option_map (told_in row) (uppermost (lines (eqb (length row) 80) (first_bad row) (identity_in row) (value_in (read_in row))))
  heard_told = at (eqb (length row) 80) (first_bad row) (identity_in row)
    where
      at : (long : Bool) (bad : Option ℕ) (id : Option Identity) → fault_of (heard_of (whole_of long bad id)) ≡ option_map (told_in row) (uppermost (lines long bad id (value_in (read_of (whole_of long bad id)))))
      at false bad id = refl
      at true (Some column) id = refl
      at true None None = refl
      at true None (Some i) =
          raised_told (in_row (letters_in row)) (verdict_unless (misplaced s.extract.stage i) s i row)
          ∙ (ap (option_map (in_row (letters_in row))) (taken_told (misplaced s.extract.stage i) s i row)
          ∙ (late_told row (placed (misplaced s.extract.stage i) s i row) (placed_late (misplaced s.extract.stage i) s i row)
          ∙ ap (λ o. option_map (told_in row) (uppermost (line OutOfPlace 1 (misplaced s.extract.stage i) ∷ (field_lines i row ++ (held_lines s o ++ []))))) (sym (value_raised (in_row (letters_in row)) (content_in i row)))))

-- how a row is heard that is taken
pub record HeardAs (misplaced : Stage → Identity → Bool) (s : Standing) (row : List ℕ) (p : Progress) : Type 0 where
  pub identity : Identity
  pub content : Content
  pub whole : whole_in row ≡ Ok identity
  pub place : misplaced s.extract.stage identity ≡ false
  pub read : content_in identity row ≡ Ok content
  pub lines : uppermost (content_lines s content) ≡ None
  pub moved : p ≡ after s.extract content

module _ (misplaced : Stage → Identity → Bool) (s : Standing) (row : List ℕ) (p : Progress) where
  pub heard_as : bytes_verdict misplaced s row ≡ Ok p → HeardAs misplaced s row p
  heard_as h = at (whole_in row) refl h
    where
      judge : (i : Identity) (c : Content) → whole_in row ≡ Ok i → misplaced s.extract.stage i ≡ false → content_in i row ≡ Ok c → (o : Option ColumnFault) → uppermost (content_lines s c) ≡ o
          → map_err (in_row (letters_in row)) (elim o [ Some f ↦ Err f | None ↦ Ok (after s.extract c) ]) ≡ Ok p → HeardAs misplaced s row p
      judge i c w q r (Some f) e h = err_ok _ p _ refl h
      judge i c w q r None e h = record { identity = i; content = c; whole = w; place = q; read = r; lines = e; moved = ok_is _ p (after s.extract c) h refl }

      read : (i : Identity) → whole_in row ≡ Ok i → misplaced s.extract.stage i ≡ false → (r : Result Content ColumnFault) → content_in i row ≡ r → map_err (in_row (letters_in row)) (then r (λ c. verdict_on s c)) ≡ Ok p → HeardAs misplaced s row p
      read i w q (Err e) r h = err_ok _ p _ refl h
      read i w q (Ok c) r h = judge i c w q r (uppermost (content_lines s c)) refl h

      place : (i : Identity) → whole_in row ≡ Ok i → (b : Bool) → misplaced s.extract.stage i ≡ b → map_err (in_row (letters_in row)) (verdict_unless b s i row) ≡ Ok p → HeardAs misplaced s row p
      place i w true q h = err_ok _ p _ refl h
      place i w false q h = read i w q (content_in i row) refl h

      at : (whole : Result Identity ColumnFault) → whole_in row ≡ whole → then (map_err (in_row blanks) whole) (λ i. map_err (in_row (letters_in row)) (verdict_unless (misplaced s.extract.stage i) s i row)) ≡ Ok p → HeardAs misplaced s row p
      at (Err e) w h = err_ok _ p _ refl h
      at (Ok i) w h = place i w (misplaced s.extract.stage i) refl h

-- the content of a row that was heard is the one that is read in it
pub heard_read : {misplaced : Stage → Identity → Bool} {s : Standing} {row : List ℕ} {p : Progress} (h : HeardAs misplaced s row p) → read_in row ≡ Ok h.content
heard_read {row = row} h = ap (λ w. then (map_err (in_row blanks) w) (λ i. map_err (in_row (letters_in row)) (content_in i row))) h.whole ∙ ap (map_err (in_row (letters_in row))) h.read

-- a row that was read moves the extract on by what it holds
pub row_moves : (p : Progress) (row : List ℕ) (c : Content) → read_in row ≡ Ok c → after_row p row ≡ after p c
row_moves p row c read = ap (λ r. elim r [ Ok x ↦ after p x | Err e ↦ p ]) read

pub heard_after : (misplaced : Stage → Identity → Bool) (s : Standing) (row : List ℕ) (p : Progress) → bytes_verdict misplaced s row ≡ Ok p → p ≡ after_row s.extract row
heard_after misplaced s row p v = let h = heard_as misplaced s row p v in h.moved ∙ sym (row_moves s.extract row h.content (heard_read h))

-- what a fault with its place beside it says
pub with_place_ok : {X E P : Type 0} (r : Result X E) (place : P) (x : X) → map_err {F = E × P} (λ e. (e, place)) r ≡ Ok x → r ≡ Ok x
with_place_ok (Ok y) place x h = let q : y ≡ x = cc in ap Ok q
with_place_ok (Err e) place x h = let z : ◌≡◌ {A = ℕ} 0 1 = cc in absurd (let w : ⊥ = omega arith in w)

pub with_place_err : {X E P : Type 0} (r : Result X E) (place : P) (x : E × P) → map_err {F = E × P} (λ e. (e, place)) r ≡ Err x → (r ≡ Err x.0) × (place ≡ x.1)
with_place_err (Ok y) place x h = let z : ◌≡◌ {A = ℕ} 0 1 = cc in absurd (let w : ⊥ = omega arith in w)
with_place_err {X} {E} {P} (Err e) place x h = let q : ◌≡◌ {A = E × P} (e, place) x = cc in (ap (λ (v : E × P). Err v.0) q, ap (λ (v : E × P). v.1) q)

-- a row that was found whole is heard by its identity
module _ (misplaced : Stage → Identity → Bool) (s : Standing) (bytes held : List ℕ) (i : Identity) (p : Progress) (t : Result (Unit {0}) ColumnFault) (same : held ≡ bytes) (whole : whole_in bytes ≡ Ok i) (told : GoesBy p (verdict_unless (misplaced s.extract.stage i) s i held) t) where
  heard_is : bytes_verdict misplaced s bytes ≡ map_err (in_row (letters_in bytes)) (verdict_unless (misplaced s.extract.stage i) s i held)
  heard_is = ap (λ w. then (map_err (in_row blanks) w) (λ j. map_err (in_row (letters_in bytes)) (verdict_unless (misplaced s.extract.stage j) s j bytes))) whole ∙ ap (λ b. map_err (in_row (letters_in bytes)) (verdict_unless (misplaced s.extract.stage i) s i b)) (sym same)

  pub heard_ok : (u : Unit {0}) → t ≡ Ok u → bytes_verdict misplaced s bytes ≡ Ok p
  heard_ok u e = heard_is ∙ ap (map_err (in_row (letters_in bytes))) (subst (λ (r : Result (Unit {0}) ColumnFault). GoesBy p (verdict_unless (misplaced s.extract.stage i) s i held) r) e told)

  pub heard_err : (f : ColumnFault) → t ≡ Err f → bytes_verdict misplaced s bytes ≡ Err (in_row (letters_in bytes) f)
  heard_err f e = heard_is ∙ ap (map_err (in_row (letters_in bytes))) (subst (λ (r : Result (Unit {0}) ColumnFault). GoesBy p (verdict_unless (misplaced s.extract.stage i) s i held) r) e told)

-- a fault that is the rule's was told
pub told_err : {X E : Type 0} (after : X) (rule : Result X E) (r : Result (Unit {0}) E) (e : E) → r ≡ Err e → rule ≡ Err e → GoesBy after rule r
told_err {X} {E} after rule r e h k = subst (λ (x : Result (Unit {0}) E). GoesBy after rule x) (sym h) k

-- a row that was found whole is taken by a step of the extract, whose fault gets the row's letters
module _ (misplaced : Stage → Identity → Bool) (s : Standing) (bytes held : List ℕ) (i : Identity) (p : Progress) (t : Result (Unit {0}) ColumnFault) (same : held ≡ bytes) (whole : whole_in bytes ≡ Ok i) (told : GoesBy p (verdict_unless (misplaced s.extract.stage i) s i held) t) (letters : List ℕ) (is : letters ≡ letters_in held) where
  pub placed_ok : (u : Unit {0}) → map_err {F = ColumnFault × List ℕ} (λ e. (e, letters)) t ≡ Ok u → bytes_verdict misplaced s bytes ≡ Ok p
  placed_ok u e = heard_ok misplaced s bytes held i p t same whole told u (with_place_ok t letters u e)

  pub placed_err : (x : ColumnFault × List ℕ) (out : Result (Unit {0}) RowFault) → map_err {F = ColumnFault × List ℕ} (λ e. (e, letters)) t ≡ Err x → IsErrAnd out (λ f. f ≡ in_row x.1 x.0) → GoesBy p (bytes_verdict misplaced s bytes) out
  placed_err x out e from =
      let refused = with_place_err t letters x e in
      let f = err_from_is_err_and out from in
      let same_letters : letters_in bytes ≡ x.1 = sym (ap letters_in same) ∙ sym is ∙ refused.1 in
      told_err p _ out f.0 f.1 (heard_err misplaced s bytes held i p t same whole told x.0 refused.0 ∙ ap Err (ap (λ l. in_row l x.0) same_letters ∙ sym f.2))
