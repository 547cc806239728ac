-- Reading field by field tells the uppermost line of the table.
use Rattle.std.proofs.Common.{◌≡◌, ℕ, Bool, true, false, cond, not, eqb, leb, List, [], ◌∷◌, ◌++◌, length, Some, None, Ok, Err, Option, Result, sym, refl, ap, ◌∙◌}
use Rattle.std.specs.Option.{option_map}
use Rattle.forms.specs.declared.end.End.{End}
use Rattle.forms.specs.Ends.{lasts}
use Rattle.forms.specs.declared.letters.Stp.{Stp}
use Rattle.forms.specs.declared.letters.Coverage.{Coverage}
use Rattle.forms.specs.declared.letters.TransactionType.{TransactionType}
use Rattle.forms.specs.declared.letters.TransactionType.TheVariants.{New as AsNew, Revise as AsRevised, Delete as AsDeleted}
use Rattle.cif.specs.declared.refusal.Refusal.TheVariants.{RowLength, BadByte, UnknownIdentity, EndsBeforeStart}
use Rattle.cif.specs.declared.refusal.ColumnFault.{ColumnFault}
use Rattle.cif.specs.declared.identity.Identity.{Identity}
use Rattle.cif.specs.declared.identity.Identity.TheVariants.{Header, BasicSchedule, BasicExtra, Origin, Intermediate, Terminus, ChangeEnRoute, TiplocInsert, TiplocAmend, TiplocDelete, Association, Trailer}
use Rattle.cif.specs.declared.content.BasicSchedule.{BasicSchedule as Schedule}
use Rattle.cif.specs.declared.content.Running.{Running}
use Rattle.cif.specs.Refusals.{number_of, fault_at, in_row, TableLine, line, uppermost, is_missing, form_line, field_at, then, map_err, fault_of}
use Rattle.cif.specs.Rows.{identity_in, first_bad, column_or0}
use Rattle.cif.specs.declared.content.Header.{Header as HeaderFields}
use Rattle.cif.specs.declared.content.Location.{Location}
use Rattle.cif.specs.Fields.{current_reference, last_reference, coverage_of, tiploc_of, suffix_of, time_at, platform_at, header_in, header_lines, transaction_of, uid_of, from_of, to_of, days_of, train_of, stp_of, reads_all, ends_before, line_under, action_in, runs_on, schedule_in, schedule_lines, operator_in, operator_lines, operator_of, origin_in, end_lines, intermediate_in, intermediate_lines, terminus_in}
use Rattle.cif.specs.Reading.{letters_in, blanks, content_in, read_in, field_lines, field_lines_in, told_in, fault_by_table}

abbrev headed : List ℕ → List ℕ → Coverage → HeaderFields
headed c l k = record { current = c; last = l; coverage = k }

abbrev located : List ℕ → ℕ → Option ℕ → Option ℕ → List ℕ → Location
located t s a d p = record { tiploc = t; suffix = s; arrival = a; departure = d; platform = p }

-- fields that are read one after another are told in that order
module _ {A B C Y : Type 0} where
  three_told : (a : Option A) (b : Option B) (c : Option C) (p q r : ℕ) (k : A → B → C → Y)
      → fault_of (then (field_at p a) (λ x. then (field_at q b) (λ y. then (field_at r c) (λ z. Ok (k x y z))))) ≡ uppermost (form_line p a ∷ form_line q b ∷ form_line r c ∷ [])
  three_told None b c p q r k = refl
  three_told (Some x) None c p q r k = refl
  three_told (Some x) (Some y) None p q r k = refl
  three_told (Some x) (Some y) (Some z) p q r k = refl

module _ {A B C D Y : Type 0} where
  four_told : (a : Option A) (b : Option B) (c : Option C) (d : Option D) (p q r s : ℕ) (k : A → B → C → D → Y)
      → fault_of (then (field_at p a) (λ x. then (field_at q b) (λ y. then (field_at r c) (λ z. then (field_at s d) (λ v. Ok (k x y z v))))))
      ≡ uppermost (form_line p a ∷ form_line q b ∷ form_line r c ∷ form_line s d ∷ [])
  four_told None b c d p q r s k = refl
  four_told (Some x) b c d p q r s k = three_told b c d q r s (k x)

module _ {A B C D E Y : Type 0} where
  five_told : (a : Option A) (b : Option B) (c : Option C) (d : Option D) (e : Option E) (p q r s t : ℕ) (k : A → B → C → D → E → Y)
      → fault_of (then (field_at p a) (λ x. then (field_at q b) (λ y. then (field_at r c) (λ z. then (field_at s d) (λ v. then (field_at t e) (λ w. Ok (k x y z v w)))))))
      ≡ uppermost (form_line p a ∷ form_line q b ∷ form_line r c ∷ form_line s d ∷ form_line t e ∷ [])
  five_told None b c d e p q r s t k = refl
  five_told (Some x) b c d e p q r s t k = four_told b c d e q r s t (k x)

header_told : (row : List ℕ) → fault_of (header_in row) ≡ uppermost (header_lines row)
header_told row =
    three_told (current_reference row) (last_reference row) (coverage_of row) 33 40 47
    headed

origin_told : (row : List ℕ) → fault_of (origin_in row) ≡ uppermost (end_lines row)
origin_told row =
    four_told (tiploc_of row) (suffix_of row) (time_at 16 row) (platform_at 20 row) 3 10 16 20
    (λ t s d p. located t s None d p)

terminus_told : (row : List ℕ) → fault_of (terminus_in row) ≡ uppermost (end_lines row)
terminus_told row =
    four_told (tiploc_of row) (suffix_of row) (time_at 16 row) (platform_at 20 row) 3 10 16 20
    (λ t s a p. located t s a None p)

intermediate_told : (row : List ℕ) → fault_of (intermediate_in row) ≡ uppermost (intermediate_lines row)
intermediate_told row =
    five_told (tiploc_of row) (suffix_of row) (time_at 26 row) (time_at 30 row) (platform_at 34 row) 3 10 26 30 34 located

operator_told : (row : List ℕ) → fault_of (operator_in row) ≡ uppermost (operator_lines row)
operator_told row = one (operator_of row)
  where
    one : (o : Option (List ℕ)) → fault_of (field_at 12 o) ≡ uppermost (form_line 12 o ∷ [])
    one (Some x) = refl
    one None = refl

-- the order of the days, as a test of either way round
order_last : {Y : Type 0} (lasts : Bool) (y : Y)
    → fault_of (cond lasts (Ok y) (Err (fault_at EndsBeforeStart 16))) ≡ uppermost (line EndsBeforeStart 16 (not lasts) ∷ [])
order_last true y = refl
order_last false y = refl

module _ (ui : Option ℕ) (fr : Option (ℕ × ℕ)) (to : Option End) (da : Option (List Bool)) (tn : Option (List ℕ)) (st : Option Stp) where
  abbrev pub running : Result Running ColumnFault
  running = then (field_at 16 to) (λ t. then (field_at 22 da) (λ d. then (field_at 33 tn) (λ i. Ok (record { to = t; days = d; train = i }))))

  abbrev pub nested : Option TransactionType → Result Schedule ColumnFault
  nested tr =
      then (field_at 3 tr) (λ t. then (field_at 4 ui) (λ u. then (field_at 10 fr) (λ f. then (action_in t running) (λ c. then (field_at 80 st) (λ s.
      cond (runs_on f c) (Ok (record { uid = u; from = f; stp = s; action = c })) (Err (fault_at EndsBeforeStart 16)))))))

  abbrev pub lines : Option TransactionType → List TableLine
  lines tr =
      form_line 3 tr ∷ form_line 4 ui ∷ form_line 10 fr ∷ line_under (reads_all tr) (form_line 16 to) ∷ line_under (reads_all tr) (form_line 22 da) ∷ line_under (reads_all tr) (form_line 33 tn)
      ∷ form_line 80 st ∷ line_under (reads_all tr) (line EndsBeforeStart 16 (ends_before fr to)) ∷ []

nested_told : (tr : Option TransactionType) (ui : Option ℕ) (fr : Option (ℕ × ℕ)) (to : Option End) (da : Option (List Bool)) (tn : Option (List ℕ)) (st : Option Stp)
    → fault_of (nested ui fr to da tn st tr) ≡ uppermost (lines ui fr to da tn st tr)
nested_told None ui fr to da tn st = refl
nested_told (Some t) None fr to da tn st = refl
nested_told (Some t) (Some u) None to da tn st = refl
nested_told (Some AsDeleted) (Some u) (Some f) to da tn None = refl
nested_told (Some AsDeleted) (Some u) (Some f) to da tn (Some s) = refl
nested_told (Some AsNew) (Some u) (Some f) None da tn st = refl
nested_told (Some AsNew) (Some u) (Some f) (Some t) None tn st = refl
nested_told (Some AsNew) (Some u) (Some f) (Some t) (Some d) None st = refl
nested_told (Some AsNew) (Some u) (Some f) (Some t) (Some d) (Some i) None = refl
nested_told (Some AsNew) (Some u) (Some f) (Some t) (Some d) (Some i) (Some s) = order_last (lasts t f.0) _
nested_told (Some AsRevised) (Some u) (Some f) None da tn st = refl
nested_told (Some AsRevised) (Some u) (Some f) (Some t) None tn st = refl
nested_told (Some AsRevised) (Some u) (Some f) (Some t) (Some d) None st = refl
nested_told (Some AsRevised) (Some u) (Some f) (Some t) (Some d) (Some i) None = refl
nested_told (Some AsRevised) (Some u) (Some f) (Some t) (Some d) (Some i) (Some s) = order_last (lasts t f.0) _

schedule_told : (row : List ℕ) → fault_of (schedule_in row) ≡ uppermost (schedule_lines row)
schedule_told row = nested_told (transaction_of row) (uid_of row) (from_of row) (to_of row) (days_of row) (train_of row) (stp_of row)

-- a value that is only named has the fault that it had
named_told : {X Y : Type 0} (r : Result X ColumnFault) (f : X → Y) → fault_of (then r (λ x. Ok (f x))) ≡ fault_of r
named_told (Ok x) f = refl
named_told (Err e) f = refl

pub content_told : (i : Identity) (row : List ℕ) → fault_of (content_in i row) ≡ uppermost (field_lines i row)
content_told Header row = named_told (header_in row) _ ∙ header_told row
content_told BasicSchedule row = named_told (schedule_in row) _ ∙ schedule_told row
content_told BasicExtra row = named_told (operator_in row) _ ∙ operator_told row
content_told Origin row = named_told (origin_in row) _ ∙ origin_told row
content_told Intermediate row = named_told (intermediate_in row) _ ∙ intermediate_told row
content_told Terminus row = named_told (terminus_in row) _ ∙ terminus_told row
content_told ChangeEnRoute row = refl
content_told TiplocInsert row = refl
content_told TiplocAmend row = refl
content_told TiplocDelete row = refl
content_told Association row = refl
content_told Trailer row = refl

-- a fault that is carried up is the lower one, carried up
pub raised_told : {X E F : Type 0} (f : E → F) (r : Result X E) → fault_of (map_err f r) ≡ option_map f (fault_of r)
raised_told f (Ok x) = refl
raised_told f (Err e) = refl

-- lines whose refusals are told with the row's identity
abbrev pub Late : List TableLine → Type 0
Late [] = Unit {0}
Late (l ∷ ls) = (leb (number_of l.0.refusal) 3 ≡ false) × Late ls

pub late_told : (row : List ℕ) (ls : List TableLine) → Late ls → option_map (in_row (letters_in row)) (uppermost ls) ≡ option_map (told_in row) (uppermost ls)
late_told row [] late = refl
late_told row ((f, true) ∷ ls) late = ap (λ (b : Bool). Some (in_row (cond b blanks (letters_in row)) f)) (sym late.0)
late_told row ((f, false) ∷ ls) late = late_told row ls late.1

pub fields_late : (i : Identity) (row : List ℕ) → Late (field_lines i row)
fields_late Header row = (refl, (refl, (refl, tt)))
fields_late BasicSchedule row = (refl, (refl, (refl, (refl, (refl, (refl, (refl, (refl, tt))))))))
fields_late BasicExtra row = (refl, tt)
fields_late Origin row = (refl, (refl, (refl, (refl, tt))))
fields_late Intermediate row = (refl, (refl, (refl, (refl, (refl, tt)))))
fields_late Terminus row = (refl, (refl, (refl, (refl, tt))))
fields_late ChangeEnRoute row = tt
fields_late TiplocInsert row = tt
fields_late TiplocAmend row = tt
fields_late TiplocDelete row = tt
fields_late Association row = tt
fields_late Trailer row = tt

-- the identity of a row that is whole, by its three tests
abbrev pub whole_of : Bool → Option ℕ → Option Identity → Result Identity ColumnFault
whole_of long bad id =
    cond long
    (elim bad [ Some column ↦ Err (fault_at BadByte column) | None ↦ elim id [ Some i ↦ Ok i | None ↦ Err (fault_at UnknownIdentity 1) ] ])
    (Err (fault_at RowLength 0))

abbrev whole_lines : Bool → Option ℕ → Option Identity → List TableLine
whole_lines long bad id = line RowLength 0 (not long) ∷ line BadByte (column_or0 bad) (not (is_missing bad)) ∷ line UnknownIdentity 1 (is_missing id) ∷ []

pub read_told : (row : List ℕ) → fault_of (read_in row) ≡ fault_by_table row
read_told row = at (eqb (length row) 80) (first_bad row) (identity_in row)
  where
    at : (long : Bool) (bad : Option ℕ) (id : Option Identity)
        → fault_of (then (map_err (in_row blanks) (whole_of long bad id)) (λ i. map_err (in_row (letters_in row)) (content_in i row)))
        ≡ option_map (told_in row) (uppermost (whole_lines long bad id ++ field_lines_in id row))
    at false bad id = refl
    at true (Some column) id = refl
    at true None None = refl
    at true None (Some i) =
        raised_told (in_row (letters_in row)) (content_in i row)
        ∙ (ap (option_map (in_row (letters_in row))) (content_told i row) ∙ late_told row (field_lines i row) (fields_late i row))
