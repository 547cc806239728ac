-- What a call tells and leaves, from what was heard.
use Rattle.std.proofs.Common.{◌≡◌, ◌+◌, ℕ, true, false, List, [], is_ok, Some, None, Ok, Err, Option, Result, OnOk, OnErr, sym, refl, ap, ◌∙◌, subst}
use Rattle.std.specs.Option.{option_map}
use Rattle.std.proofs.lemmas.Bool.{true≢false}
use Rattle.cif.specs.declared.refusal.ColumnFault.{ColumnFault}
use Rattle.cif.specs.declared.refusal.RowFault.{RowFault}
use Rattle.cif.specs.Refusals.{uppermost, map_err, fault_of, in_row}
use Rattle.cif.specs.Reading.{told_in, blanks}
use Rattle.cif.proofs.Tables.{raised_told}
use Rattle.schedule.specs.declared.transaction.Transaction.{Transaction}
use Rattle.schedule.specs.declared.transaction.Transaction.TheVariants.{New as IsNew, Revise as IsRevised, Delete as IsDeleted}
use Rattle.schedule.specs.Transactions.{change_of, is_lawful}
use Rattle.timetable.specs.Timetables.{Meaning, IsMap, IsWithinCapacity}
use Rattle.extract.specs.Progress.{Progress, idle}
use Rattle.extract.specs.Judging.{Standing, is_misplaced, is_no_opening, GoesBy}
use Rattle.controller.specs.declared.fault.ExtractFault.{ExtractFault}
use Rattle.controller.specs.Faults.{in_extract}
use Rattle.controller.specs.Calls.{Open, Row, refusals, refusal_of, bytes_verdict}
use Rattle.controller.specs.Agreeing.{Agrees}
use Rattle.controller.proofs.Heard.{heard_told}

pub ok_raised : {X E F : Type 0} (f : E → F) (r : Result X E) → is_ok (map_err f r) ≡ is_ok r
ok_raised f (Ok x) = refl
ok_raised f (Err e) = refl

-- what a rule gave, where its call was done
pub told_ok : {X E : Type 0} (after : X) (rule : Result X E) (r : Result (Unit {0}) E) → GoesBy after rule r → is_ok r ≡ true → rule ≡ Ok after
told_ok after rule (Ok u) h e = h
told_ok after rule (Err f) h e = absurd (true≢false (sym e))

told_fault : {X E : Type 0} (after : X) (rule : Result X E) (r : Result (Unit {0}) E) → GoesBy after rule r → fault_of r ≡ fault_of rule
told_fault after rule (Ok u) h = sym (ap fault_of h)
told_fault after rule (Err f) h = sym (ap fault_of h)

mapped_both : {X Y Z : Type 0} (g : Y → Z) (f : X → Y) (o : Option X) → option_map g (option_map f o) ≡ option_map (λ x. g (f x)) o
mapped_both g f (Some x) = refl
mapped_both g f None = refl

module _ (s : Standing) (row : List ℕ) (p : Progress) (r : Result (Unit {0}) RowFault) (out : Result (Unit {0}) ExtractFault) (e : out ≡ map_err (in_extract (s.extract.taken + 1)) r) where
  carried : (rule : Result Progress RowFault) → GoesBy p rule r → fault_of out ≡ option_map (in_extract (s.extract.taken + 1)) (fault_of rule)
  carried rule h = ap fault_of e ∙ (raised_told (in_extract (s.extract.taken + 1)) r ∙ ap (option_map (in_extract (s.extract.taken + 1))) (told_fault p rule r h))

  pub row_refused : GoesBy p (bytes_verdict is_misplaced s row) r → fault_of out ≡ refusal_of (Row row) s 0
  row_refused h = carried (bytes_verdict is_misplaced s row) h ∙ (ap (option_map (in_extract (s.extract.taken + 1))) (heard_told is_misplaced s row) ∙ mapped_both (in_extract (s.extract.taken + 1)) (told_in row) (uppermost (refusals (Row row) s 0)))

  pub opening_refused : GoesBy p (bytes_verdict is_no_opening s row) r → fault_of out ≡ refusal_of (Open row) s 0
  opening_refused h = carried (bytes_verdict is_no_opening s row) h ∙ (ap (option_map (in_extract (s.extract.taken + 1))) (heard_told is_no_opening s row) ∙ mapped_both (in_extract (s.extract.taken + 1)) (told_in row) (uppermost (refusals (Open row) s 0)))

  pub same_ok : is_ok out ≡ is_ok r
  same_ok = ap is_ok e ∙ ok_raised (in_extract (s.extract.taken + 1)) r

  pub was_ok : is_ok out ≡ true → is_ok r ≡ true
  was_ok h = sym same_ok ∙ h

-- nothing is pending when idle
pub idle_agrees : (store : Meaning) (p : Progress) → p ≡ idle → IsMap store.map → IsWithinCapacity store → Agrees store [] p
idle_agrees store p e is within = subst (λ (q : Progress). Agrees store [] q) (sym e) (record {
  is_map = is;
  within = within;
  progress = refl;
  pending = tt;
  reading = λ h. absurd (true≢false (sym h));
})

-- a fault of a call that has no row
module _ {X : Type 0} (r : Result X ColumnFault) (out : Result X ExtractFault) (e : out ≡ map_err (in_extract 0) (map_err (in_row blanks) r)) where
  pub no_row_ok : is_ok out ≡ is_ok r
  no_row_ok = ap is_ok e ∙ (ok_raised (in_extract 0) (map_err (in_row blanks) r) ∙ ok_raised (in_row blanks) r)

-- what holds where a call was done, by a test of its result
pub on_ok : {X E : Type 0} (P : Type 0) (r : Result X E) → (is_ok r ≡ true → P) → OnOk r P
on_ok P (Ok x) f = f refl
on_ok P (Err e) f = tt

pub at_ok : {X E : Type 0} (P : Type 0) (r : Result X E) → OnOk r P → is_ok r ≡ true → P
at_ok P (Ok x) h e = h
at_ok P (Err f) h e = absurd (true≢false (sym e))

-- and where it was refused
pub on_err : {X E : Type 0} (P : Type 0) (r : Result X E) → (is_ok r ≡ false → P) → OnErr r P
on_err P (Ok x) f = tt
on_err P (Err e) f = f refl

pub at_err : {X E : Type 0} (P : Type 0) (r : Result X E) → OnErr r P → is_ok r ≡ false → P
at_err P (Ok x) h e = absurd (true≢false e)
at_err P (Err f) h e = h

-- a transaction is lawful, since the schedule that it brings is one
pub transaction_lawful : (t : Transaction) → is_lawful (change_of t) ≡ true
transaction_lawful (IsNew s) = s.valid
transaction_lawful (IsRevised s) = s.valid
transaction_lawful (IsDeleted k) = refl
