-- Where no BS row says that it has no end, reading is what it was while every schedule had a last day.
use Rattle.std.proofs.Common.{◌≡◌, ℕ, Bool, true, false, cond, ◌&&◌, eqb, List, length, codes, Some, None, Ok, Err, Option, Result, sym, refl, ap, ◌∙◌, subst, ⊎_elim}
use Rattle.std.specs.Option.{option_map}
use Rattle.std.proofs.lemmas.Option.{none-some, same_Some}
use Rattle.std.proofs.lemmas.Bool.{and_parts, and_cases, both_ways, cond-false}
use Rattle.std.proofs.lemmas.Slice.Eq.{bytes_eq-Decides}
use Rattle.forms.specs.declared.end.End.{End}
use Rattle.forms.specs.declared.end.End.TheVariants.{Day, Never}
use Rattle.forms.specs.declared.letters.Stp.{Stp}
use Rattle.forms.specs.declared.letters.TransactionType.{TransactionType}
use Rattle.forms.specs.declared.letters.TransactionType.TheVariants.{New as AsNew, Revise as AsRevised, Delete as AsDeleted}
use Rattle.forms.specs.Bytes.{columns}
use Rattle.forms.specs.Forms.{date_in}
use Rattle.forms.specs.Ends.{has_last, says_no_end, last_day_in}
use Rattle.cif.specs.declared.refusal.ColumnFault.{ColumnFault}
use Rattle.cif.specs.declared.refusal.RowFault.{RowFault}
use Rattle.cif.specs.declared.identity.Identity.{Identity}
use Rattle.cif.specs.declared.identity.Identity.TheVariants.{Header, BasicSchedule, BasicExtra, Origin, Intermediate, Terminus, ChangeEnRoute, TiplocInsert, TiplocAmend, TiplocDelete, Association, Trailer}
use Rattle.cif.specs.declared.content.BasicSchedule.{BasicSchedule as Schedule}
use Rattle.cif.specs.declared.content.Action.{Action}
use Rattle.cif.specs.declared.content.Action.TheVariants.{New, Revise, Delete}
use Rattle.cif.specs.declared.content.Content.{Content}
use Rattle.cif.specs.declared.content.Content.TheVariants.{Header as OfHeader, Schedule as OfSchedule, Operator as OfOperator, Origin as OfOrigin, Intermediate as OfIntermediate, Terminus as OfTerminus}
use Rattle.cif.specs.Refusals.{in_row, then, map_err}
use Rattle.cif.specs.Rows.{identity_in, first_bad}
use Rattle.cif.specs.Fields.{transaction_of, uid_of, from_of, to_of, days_of, train_of, stp_of, reads_all, header_in, schedule_by, schedule_in, operator_in, origin_in, intermediate_in, terminus_in}
use Rattle.cif.specs.Reading.{letters_in, blanks, content_in, read_in, field_lines_in}
use Rattle.cif.specs.Dated.{dated_to, dated_content, dated_read, dated_lines, is_basic_schedule, has_no_end, action_ends, content_ends, OnlyNoEndIsNew}
use Rattle.cif.proofs.Results.{ok_is, err_ok}
use Rattle.cif.proofs.Tables.{nested, lines, whole_of}
use Rattle.cif.proofs.Held.{HasEnd, held}

-- a BS is read alike by ends that are the same wherever its columns 16 to 21 are read
module _ (ui : Option ℕ) (fr : Option (ℕ × ℕ)) (da : Option (List Bool)) (tn : Option (List ℕ)) (st : Option Stp) (a b : Option End) where
  same_nested : (tr : Option TransactionType) → (reads_all tr ≡ true → a ≡ b) → nested ui fr a da tn st tr ≡ nested ui fr b da tn st tr
  same_nested None e = refl
  same_nested (Some AsNew) e = ap (λ (t : Option End). nested ui fr t da tn st (Some AsNew)) (e refl)
  same_nested (Some AsRevised) e = ap (λ (t : Option End). nested ui fr t da tn st (Some AsRevised)) (e refl)
  same_nested (Some AsDeleted) e = refl

  same_lines : (tr : Option TransactionType) → (reads_all tr ≡ true → a ≡ b) → lines ui fr a da tn st tr ≡ lines ui fr b da tn st tr
  same_lines None e = refl
  same_lines (Some AsNew) e = ap (λ (t : Option End). lines ui fr t da tn st (Some AsNew)) (e refl)
  same_lines (Some AsRevised) e = ap (λ (t : Option End). lines ui fr t da tn st (Some AsRevised)) (e refl)
  same_lines (Some AsDeleted) e = refl

-- bytes that do not say that there is no end tell a date
same_end : (cs : List ℕ) → says_no_end cs ≡ false → cond (says_no_end cs) (Some Never) (last_day_in cs) ≡ last_day_in cs
same_end cs f = cond-false (says_no_end cs) (Some Never) (last_day_in cs) f

-- the ends are the same where a BS does not say that it has none
same_to : (row : List ℕ) → (reads_all (transaction_of row) && says_no_end (columns 16 21 row)) ≡ false → reads_all (transaction_of row) ≡ true → to_of row ≡ dated_to row
same_to row h t =
    ⊎_elim
    (λ f. absurd (both_ways (reads_all (transaction_of row)) f t))
    (λ f. same_end (columns 16 21 row) f)
    (and_cases (reads_all (transaction_of row)) (says_no_end (columns 16 21 row)) h)

-- a BS that does not say that it has none
abbrev ToldEnd : List ℕ → Option Identity → Type 0
ToldEnd row id = id ≡ Some BasicSchedule → (reads_all (transaction_of row) && says_no_end (columns 16 21 row)) ≡ false

told_end : (row : List ℕ) → has_no_end row ≡ false → ToldEnd row (identity_in row)
told_end row h e =
    ap (λ (id : Option Identity). is_basic_schedule id && (reads_all (transaction_of row) && says_no_end (columns 16 21 row))) (sym e) ∙ h

same_schedule : (row : List ℕ) → ToldEnd row (Some BasicSchedule) → schedule_in row ≡ schedule_by (dated_to row) row
same_schedule row t =
    same_nested (uid_of row) (from_of row) (days_of row) (train_of row) (stp_of row) (to_of row) (dated_to row) (transaction_of row) (same_to row (t refl))

same_content : (row : List ℕ) (i : Identity) → ToldEnd row (Some i) → content_in i row ≡ dated_content i row
same_content row Header t = refl
same_content row BasicSchedule t = ap (λ (r : Result Schedule ColumnFault). then r (λ s. Ok (OfSchedule s))) (same_schedule row t)
same_content row BasicExtra t = refl
same_content row Origin t = refl
same_content row Intermediate t = refl
same_content row Terminus t = refl
same_content row ChangeEnRoute t = refl
same_content row TiplocInsert t = refl
same_content row TiplocAmend t = refl
same_content row TiplocDelete t = refl
same_content row Association t = refl
same_content row Trailer t = refl

same_field_lines : (row : List ℕ) (id : Option Identity) → ToldEnd row id → field_lines_in id row ≡ dated_lines id row
same_field_lines row None t = refl
same_field_lines row (Some Header) t = refl
same_field_lines row (Some BasicSchedule) t =
    same_lines (uid_of row) (from_of row) (days_of row) (train_of row) (stp_of row) (to_of row) (dated_to row) (transaction_of row) (same_to row (t refl))
same_field_lines row (Some BasicExtra) t = refl
same_field_lines row (Some Origin) t = refl
same_field_lines row (Some Intermediate) t = refl
same_field_lines row (Some Terminus) t = refl
same_field_lines row (Some ChangeEnRoute) t = refl
same_field_lines row (Some TiplocInsert) t = refl
same_field_lines row (Some TiplocAmend) t = refl
same_field_lines row (Some TiplocDelete) t = refl
same_field_lines row (Some Association) t = refl
same_field_lines row (Some Trailer) t = refl

-- what is read of a row that is whole, by what it holds for each identity
abbrev read_by : (Identity → Result Content ColumnFault) → List ℕ → Bool → Option ℕ → Option Identity → Result Content RowFault
read_by content row long bad id = then (map_err (in_row blanks) (whole_of long bad id)) (λ i. map_err (in_row (letters_in row)) (content i))

same_read : (row : List ℕ) → has_no_end row ≡ false → read_in row ≡ dated_read row
same_read row h = at (eqb (length row) 80) (first_bad row) (identity_in row) (told_end row h)
  where
    at : (long : Bool) (bad : Option ℕ) (id : Option Identity) → ToldEnd row id
        → read_by (λ i. content_in i row) row long bad id ≡ read_by (λ i. dated_content i row) row long bad id
    at false bad id t = refl
    at true (Some column) id t = refl
    at true None None t = refl
    at true None (Some i) t = ap (map_err (in_row (letters_in row))) (same_content row i t)

-- no date is 999999
no_date : (cs : List ℕ) → says_no_end cs ≡ true → last_day_in cs ≡ None
no_date cs t = ap last_day_in ((bytes_eq-Decides cs (codes "999999")).0 t)

-- a BS whose columns 16 to 21 are read and tell nothing is refused
unread : (tr : Option TransactionType) (ui : Option ℕ) (fr : Option (ℕ × ℕ)) (da : Option (List Bool)) (tn : Option (List ℕ)) (st : Option Stp) (b : Schedule)
    → reads_all tr ≡ true → nested ui fr None da tn st tr ≡ Ok b → ⊥
unread None ui fr da tn st b t h = both_ways false refl t
unread (Some AsDeleted) ui fr da tn st b t h = both_ways false refl t
unread (Some AsNew) None fr da tn st b t h = err_ok _ b _ refl h
unread (Some AsNew) (Some u) None da tn st b t h = err_ok _ b _ refl h
unread (Some AsNew) (Some u) (Some f) da tn st b t h = err_ok _ b _ refl h
unread (Some AsRevised) None fr da tn st b t h = err_ok _ b _ refl h
unread (Some AsRevised) (Some u) None da tn st b t h = err_ok _ b _ refl h
unread (Some AsRevised) (Some u) (Some f) da tn st b t h = err_ok _ b _ refl h

no_schedule : (row : List ℕ) (b : Schedule) → reads_all (transaction_of row) ≡ true → says_no_end (columns 16 21 row) ≡ true → schedule_by (dated_to row) row ≡ Ok b → ⊥
no_schedule row b t n h =
    unread (transaction_of row) (uid_of row) (from_of row) (days_of row) (train_of row) (stp_of row) b t
    (ap (λ (to : Option End). nested (uid_of row) (from_of row) to (days_of row) (train_of row) (stp_of row) (transaction_of row)) (sym (no_date (columns 16 21 row) n)) ∙ h)

-- a date is a last day
date_ends : (cs : List ℕ) (e : End) → last_day_in cs ≡ Some e → has_last e ≡ true
date_ends cs e h = of (date_in cs) h
  where
    of : (d : Option (ℕ × ℕ)) → option_map (λ d. Day d.0) d ≡ Some e → has_last e ≡ true
    of None h = absurd (none-some e h)
    of (Some d) h = ap has_last (sym (same_Some (Day d.0) e h))

-- the schedule that a BS holds by a date ends
schedule_ends : (row : List ℕ) (b : Schedule) → schedule_by (dated_to row) row ≡ Ok b → action_ends b.action ≡ true
schedule_ends row b h = of b.action (held (dated_to row) row b h).end
  where
    of : (c : Action) → HasEnd (dated_to row) c → action_ends c ≡ true
    of (New r) e = date_ends (columns 16 21 row) r.to e
    of (Revise r) e = date_ends (columns 16 21 row) r.to e
    of Delete e = refl

-- what is made of a value ends where it does of each
made_ends : {X : Type 0} (r : Result X ColumnFault) (f : X → Content) (c : Content) → ((x : X) → r ≡ Ok x → content_ends (f x) ≡ true) → then r (λ x. Ok (f x)) ≡ Ok c → content_ends c ≡ true
made_ends (Ok x) f c each h = subst (λ (d : Content). content_ends d ≡ true) (ok_is _ _ c refl h) (each x refl)
made_ends (Err e) f c each h = err_ok _ c _ refl h

unread_ends : (r : Result Content ColumnFault) (d c : Content) → content_ends d ≡ true → r ≡ Ok d → r ≡ Ok c → content_ends c ≡ true
unread_ends r d c each e h = subst (λ (x : Content). content_ends x ≡ true) (ok_is r d c e h) each

content_held_ends : (row : List ℕ) (i : Identity) (c : Content) → dated_content i row ≡ Ok c → content_ends c ≡ true
content_held_ends row Header c h = made_ends (header_in row) OfHeader c (λ x e. refl) h
content_held_ends row BasicSchedule c h = made_ends (schedule_by (dated_to row) row) OfSchedule c (schedule_ends row) h
content_held_ends row BasicExtra c h = made_ends (operator_in row) OfOperator c (λ x e. refl) h
content_held_ends row Origin c h = made_ends (origin_in row) OfOrigin c (λ x e. refl) h
content_held_ends row Intermediate c h = made_ends (intermediate_in row) OfIntermediate c (λ x e. refl) h
content_held_ends row Terminus c h = made_ends (terminus_in row) OfTerminus c (λ x e. refl) h
content_held_ends row ChangeEnRoute c h = unread_ends _ _ c refl refl h
content_held_ends row TiplocInsert c h = unread_ends _ _ c refl refl h
content_held_ends row TiplocAmend c h = unread_ends _ _ c refl refl h
content_held_ends row TiplocDelete c h = unread_ends _ _ c refl refl h
content_held_ends row Association c h = unread_ends _ _ c refl refl h
content_held_ends row Trailer c h = unread_ends _ _ c refl refl h

read_ends : (row : List ℕ) (c : Content) → dated_read row ≡ Ok c → content_ends c ≡ true
read_ends row c h = at (eqb (length row) 80) (first_bad row) (identity_in row) h
  where
    raised : (r : Result Content ColumnFault) → ((d : Content) → r ≡ Ok d → content_ends d ≡ true) → map_err (in_row (letters_in row)) r ≡ Ok c → content_ends c ≡ true
    raised (Ok d) each h = subst (λ (x : Content). content_ends x ≡ true) (ok_is _ d c refl h) (each d refl)
    raised (Err e) each h = err_ok _ c _ refl h

    at : (long : Bool) (bad : Option ℕ) (id : Option Identity) → read_by (λ i. dated_content i row) row long bad id ≡ Ok c → content_ends c ≡ true
    at false bad id h = err_ok _ c _ refl h
    at true (Some column) id h = err_ok _ c _ refl h
    at true None None h = err_ok _ c _ refl h
    at true None (Some i) h = raised (dated_content i row) (content_held_ends row i) h

-- a BS with N or R that says that it has no end is refused
row_refused : (row : List ℕ) (c : Content) → has_no_end row ≡ true → dated_read row ≡ Ok c → ⊥
row_refused row c h e = at (eqb (length row) 80) (first_bad row) (identity_in row) parts.0 e
  where
    parts : (is_basic_schedule (identity_in row) ≡ true) × ((reads_all (transaction_of row) && says_no_end (columns 16 21 row)) ≡ true)
    parts = and_parts (is_basic_schedule (identity_in row)) _ h

    told : (reads_all (transaction_of row) ≡ true) × (says_no_end (columns 16 21 row) ≡ true)
    told = and_parts (reads_all (transaction_of row)) (says_no_end (columns 16 21 row)) parts.1

    of : (r : Result Schedule ColumnFault) → ((b : Schedule) → r ≡ Ok b → ⊥) → map_err (in_row (letters_in row)) (then r (λ s. Ok (OfSchedule s))) ≡ Ok c → ⊥
    of (Ok b) none h = none b refl
    of (Err e) none h = err_ok _ c _ refl h

    at : (long : Bool) (bad : Option ℕ) (id : Option Identity) → is_basic_schedule id ≡ true → read_by (λ i. dated_content i row) row long bad id ≡ Ok c → ⊥
    at false bad id i h = err_ok _ c _ refl h
    at true (Some column) id i h = err_ok _ c _ refl h
    at true None None i h = err_ok _ c _ refl h
    at true None (Some BasicSchedule) i h = of (schedule_by (dated_to row) row) (λ b. no_schedule row b told.0 told.1) h
    at true None (Some Header) i h = both_ways false refl i
    at true None (Some BasicExtra) i h = both_ways false refl i
    at true None (Some Origin) i h = both_ways false refl i
    at true None (Some Intermediate) i h = both_ways false refl i
    at true None (Some Terminus) i h = both_ways false refl i
    at true None (Some ChangeEnRoute) i h = both_ways false refl i
    at true None (Some TiplocInsert) i h = both_ways false refl i
    at true None (Some TiplocAmend) i h = both_ways false refl i
    at true None (Some TiplocDelete) i h = both_ways false refl i
    at true None (Some Association) i h = both_ways false refl i
    at true None (Some Trailer) i h = both_ways false refl i

pub only_no_end_is_new : OnlyNoEndIsNew
only_no_end_is_new = record {
  others = λ row h. record { read = same_read row h; lines = same_field_lines row (identity_in row) (told_end row h) };
  refused = row_refused;
  ends = λ row c h e. read_ends row c (sym (same_read row h) ∙ e);
}
