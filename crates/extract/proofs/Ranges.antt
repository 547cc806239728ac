-- What a BS row that was read holds is in range.
use Rattle.std.proofs.Common.{◌≡◌, ℕ, suc, ◌+◌, ◌-◌, ◌*◌, ◌^◌, ◌<◌, ◌≤◌, true, ◌&&◌, eqb, ltb, leb, List, [], ◌∷◌, length, get_or, drop, Some, None, Ok, Option, sym, refl, ap, ◌∙◌, subst, ⊎_elim, mul-le-mul_right, mul_assoc, mul_comm, pow-suc, arith}
use Rattle.std.proofs.lemmas.List.{length-take, length-drop}
use Rattle.std.proofs.lemmas.Bool.{and_parts, and_from, cases_Bool, cond-true, cond-false, le-leb, lt-ltb, eqb-true}
use Rattle.std.proofs.lemmas.Bool.Decides.{nat_tests}
use Rattle.maps.proofs.Maps.{some_none, some_is}
use Rattle.calendar.specs.Calendar.{exists, day_number, dated}
use Rattle.std.specs.Option.{option_map}
use Rattle.forms.specs.declared.end.End.{End}
use Rattle.forms.specs.declared.end.End.TheVariants.{Day, Never}
use Rattle.forms.specs.Ends.{lasts, says_no_end, last_day_in, end_in}
use Rattle.forms.specs.Bytes.{columns, is_digit, is_letter, and_then}
use Rattle.forms.specs.Forms.{number_after, number_in, uid_in, date_in, years_on}
use Rattle.forms.proofs.Steps.{digit_small}
use Rattle.cif.specs.declared.content.BasicSchedule.{BasicSchedule}
use Rattle.cif.specs.declared.content.Action.{Action}
use Rattle.cif.specs.declared.content.Action.TheVariants.{New, Revise, Delete}
use Rattle.cif.specs.declared.content.Running.{Running}
use Rattle.cif.specs.Fields.{to_of, runs_on, schedule_in}
use Rattle.cif.proofs.Held.{HasEnd, held}
use Rattle.schedule.specs.Records.{is_numbered, in_range}
use Rattle.extract.specs.Progress.{begun_by}
use Rattle.extract.specs.Standings.{range_in}

-- digits after n write a number of so many places
number_below : (n : ℕ) (cs : List ℕ) (x : ℕ) → number_after n cs ≡ Some x → x < (n + 1) * 10 ^ length cs
number_below n [] x h = let e = some_is n x h in omega arith
number_below n (c ∷ cs) x h =
    ⊎_elim
    (λ d.
    let r = number_below (n * 10 + (c - 48)) cs x (sym (cond-true (is_digit c) (number_after (n * 10 + (c - 48)) cs) None d) ∙ h) in
    let s = digit_small c (sym d) in
    let few : n * 10 + (c - 48) + 1 ≤ (n + 1) * 10 = omega arith in
    let up = mul-le-mul_right (10 ^ length cs) few in
    let p : (n + 1) * 10 ^ suc (length cs) ≡ (n + 1) * 10 * 10 ^ length cs = ap (λ v. (n + 1) * v) (pow-suc 10 (length cs) ∙ mul_comm (10 ^ length cs) 10) ∙ sym (mul_assoc (n + 1) 10 (10 ^ length cs)) in
    omega arith)
    (λ d. absurd (some_none x (sym (sym (cond-false (is_digit c) (number_after (n * 10 + (c - 48)) cs) None d) ∙ h))))
    (cases_Bool (is_digit c))

-- a UID number is below 2,600,000
pub uid_below : (cs : List ℕ) (x : ℕ) → uid_in cs ≡ Some x → x < 2600000
uid_below cs x h =
    ⊎_elim
    (λ b.
    let p = and_parts (eqb (length cs) 6) (is_letter (get_or cs 0 0)) b in
    let six = eqb-true (length cs) 6 p.0 in
    of (number_in (columns 2 6 cs)) refl (sym (cond-true _ _ None b) ∙ h) (letter (get_or cs 0 0) p.1)
    (ap (λ v. 1 * 10 ^ v) (length-take 5 (drop 1 cs) ∙ five six)))
    (λ b. absurd (some_none x (sym (sym (cond-false _ _ None b) ∙ h))))
    (cases_Bool (eqb (length cs) 6 && is_letter (get_or cs 0 0)))
  where
    five : length cs ≡ 6 → Prim.Native.Nat.min 5 (length (drop 1 cs)) ≡ 5
    five e = let d = length-drop 1 cs in omega arith

    letter : (c : ℕ) → is_letter c ≡ true → c - 65 ≤ 25
    letter c h = grind (arith, nat_tests)

    of : (o : Option ℕ) → number_in (columns 2 6 cs) ≡ o → and_then o (λ n. Some ((get_or cs 0 0 - 65) * 100000 + n)) ≡ Some x → get_or cs 0 0 - 65 ≤ 25 → 1 * 10 ^ length (columns 2 6 cs) ≡ 100000 → x < 2600000
    of (Some n) e h l w =
        let r = number_below 0 (columns 2 6 cs) n e in
        let v = some_is _ x h in
        omega arith
    of None e h l w = absurd (some_none x (sym h))

exists_below : (k m d : ℕ) → exists k m d ≡ true → day_number k m d ≤ 36524
exists_below k m d h = grind (arith, nat_tests)

dated_below : (k m d : ℕ) (x : ℕ × ℕ) → dated k m d ≡ Some x → x.0 ≤ 36524
dated_below k m d x h =
    ⊎_elim
    (λ b. subst (λ (v : ℕ × ℕ). v.0 ≤ 36524) (some_is _ x (sym (cond-true _ _ None b) ∙ h)) (exists_below k m d b))
    (λ b. absurd (some_none x (sym (sym (cond-false _ _ None b) ∙ h))))
    (cases_Bool (exists k m d))

-- no day is above 36,524
pub date_below : (cs : List ℕ) (x : ℕ × ℕ) → date_in cs ≡ Some x → x.0 ≤ 36524
date_below cs x h =
    ⊎_elim
    (λ b. of (number_in (columns 1 2 cs)) (number_in (columns 3 4 cs)) (number_in (columns 5 6 cs)) (sym (cond-true _ _ None b) ∙ h))
    (λ b. absurd (some_none x (sym (sym (cond-false _ _ None b) ∙ h))))
    (cases_Bool (eqb (length cs) 6))
  where
    of : (a b c : Option ℕ) → and_then a (λ yy. and_then b (λ m. and_then c (λ d. dated (years_on yy) m d))) ≡ Some x → x.0 ≤ 36524
    of None b c h = absurd (some_none x (sym h))
    of (Some yy) None c h = absurd (some_none x (sym h))
    of (Some yy) (Some m) None h = absurd (some_none x (sym h))
    of (Some yy) (Some m) (Some d) h = dated_below (years_on yy) m d x h

-- the end of a BS row that was read, where it is a day, is one that has a number
end_numbered : (cs : List ℕ) (e : End) → end_in cs ≡ Some e → is_numbered e ≡ true
end_numbered cs e h =
    ⊎_elim
    (λ t. ap is_numbered (sym (some_is Never e (sym (cond-true (says_no_end cs) (Some Never) (last_day_in cs) t) ∙ h))))
    (λ f. of (date_in cs) (date_below cs) (sym (cond-false (says_no_end cs) (Some Never) (last_day_in cs) f) ∙ h))
    (cases_Bool (says_no_end cs))
  where
    of : (d : Option (ℕ × ℕ)) → ((x : ℕ × ℕ) → d ≡ Some x → x.0 ≤ 36524) → option_map (λ d. Day d.0) d ≡ Some e → is_numbered e ≡ true
    of None below h = absurd (some_none e (sym h))
    of (Some d) below h = ap is_numbered (sym (some_is (Day d.0) e h)) ∙ le-leb d.0 36524 (below d refl)

-- the schedule that a BS begins is in range
begun_range : (b : BasicSchedule) (d : Running) → b.uid < 2600000 → b.from.0 ≤ 36524 → lasts d.to b.from.0 ≡ true → is_numbered d.to ≡ true → in_range (begun_by b d) ≡ true
begun_range b d u f on e =
    and_from (ltb b.uid 2600000) _ (lt-ltb b.uid 2600000 u)
    (and_from (leb b.from.0 36524) _ (le-leb b.from.0 36524 f) (and_from (lasts d.to b.from.0) _ on e))

pub schedule_range : (row : List ℕ) (b : BasicSchedule) → schedule_in row ≡ Ok b → range_in b b.action ≡ true
schedule_range row b h =
    let is = held (to_of row) row b h in
    of b.action (uid_below (columns 4 9 row) b.uid is.number) (date_below (columns 10 15 row) b.from is.first) is.end is.on
  where
    of : (c : Action) → b.uid < 2600000 → b.from.0 ≤ 36524 → HasEnd (to_of row) c → runs_on b.from c ≡ true → range_in b c ≡ true
    of (New d) u f e on = begun_range b d u f on (end_numbered (columns 16 21 row) d.to e)
    of (Revise d) u f e on = begun_range b d u f on (end_numbered (columns 16 21 row) d.to e)
    of Delete u f e on = refl
