-- The next key of a map from a probe on, and why a walk over its keys ends.
use Rattle.std.proofs.Common.{◌≡◌, ℕ, suc, ◌<◌, ◌≤◌, true, false, cond, ltb, leb, List, [], ◌∷◌, is_some, Some, None, Option, sym, refl, ap, ◌∙◌, subst, ⊎_elim, arith}
use Rattle.std.proofs.lemmas.Bool.{and_parts, leb-true, cases_Bool, both_ways, cond-true, cond-false, true≢false}
use Rattle.maps.specs.Orders.{same}
use Rattle.maps.proofs.Maps.{same_is, some_is, some_none}
use Rattle.schedule.specs.declared.key.Key.{Key}
use Rattle.schedule.specs.declared.record.Record.{Record}
use Rattle.schedule.specs.Keys.{key_before}
use Rattle.schedule.specs.Records.{key_of, is_schedule, in_range}
use Rattle.schedule.specs.Orders.{key_transitive, key_total}
use Rattle.timetable.specs.Timetables.{schedule_of, not_before, IsMap}
use Rattle.timetable.specs.Laws.{has_key, Has, LeastOf}
use Rattle.timetable.proofs.Keys.{least, has_cases, has_none}
use Rattle.timetable.proofs.Valid.{key_lawful, found_valid}

-- a schedule that is found has the key
pub found_key : (m : List Record) (k : Key) (r : Record) → schedule_of m k ≡ Some r → key_of r ≡ k
found_key [] k r h = absurd (some_none r (sym h))
found_key (y ∷ ys) k r h =
    ⊎_elim
    (λ t. ap key_of (some_is r y (sym h ∙ cond-true (same key_before (key_of y) k) (Some y) (schedule_of ys k) t)) ∙ same_is key_before key_of key_lawful (key_of y) k t)
    (λ f. found_key ys k r (sym (cond-false (same key_before (key_of y) k) (Some y) (schedule_of ys k) f) ∙ h))
    (cases_Bool (same key_before (key_of y) k))

-- a key of the map has a schedule
pub has_held : (m : List Record) (k : Key) (P : Type 0) → Has m k → ((h : Record) → schedule_of m k ≡ Some h → P) → P
has_held m k P there f = of (schedule_of m k) refl there
  where
    of : (o : Option Record) → schedule_of m k ≡ o → is_some o ≡ true → P
    of (Some h) e t = f h e
    of None e t = absurd (true≢false (sym t))

-- no schedule begins after the last day
pub from_small : (r : Record) → is_schedule r ≡ true → r.key.from < 65535
from_small r v =
    let a = (and_parts (in_range r) _ v).0 in
    let b = (and_parts (ltb r.key.uid 2600000) _ a).1 in
    let c = (and_parts (leb r.key.from 36524) _ b).0 in
    omega (arith, leb-true r.key.from 36524 c)

-- what the least key not before a probe says
pub record Next (m : List Record) (probe key : Key) : Type 0 where
  pub there : Has m key
  pub past : key_before key probe ≡ false
  pub least : (k : Key) → Has m k → key_before k probe ≡ false → key_before k key ≡ false

pub next : (m : List Record) (probe key : Key) → IsMap m → not_before m probe ≡ Some key → Next m probe key
next m probe key is e =
    let c = subst (λ (o : Option Key). LeastOf (has_key m) probe o) e (least m probe is) in
    record { there = c.0; past = c.1; least = c.2 }

-- where there is none, every key is before the probe
pub all_before : (m : List Record) (probe : Key) → IsMap m → not_before m probe ≡ None → (k : Key) → Has m k → key_before k probe ≡ true
all_before m probe is e = subst (λ (o : Option Key). LeastOf (has_key m) probe o) e (least m probe is)

-- how many keys of a map are not before a probe
unfoldable pub left : List Record → Key → ℕ
left [] p = 0
left (r ∷ rs) p = cond (key_before (key_of r) p) (left rs p) (suc (left rs p))

-- what is before a probe is before the key after the least one that is not
pub moves_on : (probe key nxt : Key) → key_before key probe ≡ false → key_before key nxt ≡ true → (q : Key) → key_before q probe ≡ true → key_before q nxt ≡ true
moves_on probe key nxt past later q b =
    ⊎_elim
    (λ t. key_transitive q key nxt t later)
    (λ f. ⊎_elim
    (λ t. absurd (both_ways (key_before key probe) past (key_transitive key q probe t b)))
    (λ g. absurd (both_ways (key_before key probe) past (subst (λ (k : Key). key_before k probe ≡ true) (key_total q key f g) b)))
    (cases_Bool (key_before key q)))
    (cases_Bool (key_before q key))

module _ (probe nxt : Key) (on : (q : Key) → key_before q probe ≡ true → key_before q nxt ≡ true) where
  left_less : (m : List Record) → left m nxt ≤ left m probe
  unfolding left
  left_less [] = omega arith
  left_less (r ∷ rs) =
      let rest = left_less rs in
      ⊎_elim
      (λ (t : key_before (key_of r) probe ≡ true). let u : key_before (key_of r) nxt ≡ true = on (key_of r) t in rw (t, u) rest)
      (λ (f : key_before (key_of r) probe ≡ false). ⊎_elim (λ (u : key_before (key_of r) nxt ≡ true). rw (f, u) (omega arith)) (λ (u : key_before (key_of r) nxt ≡ false). rw (f, u) (omega arith)) (cases_Bool (key_before (key_of r) nxt)))
      (cases_Bool (key_before (key_of r) probe))

  pub left_falls : (m : List Record) (key : Key) → Has m key → key_before key probe ≡ false → key_before key nxt ≡ true → left m nxt < left m probe
  unfolding left
  left_falls [] key h past later = absurd (has_none key h)
  left_falls (r ∷ rs) key h past later =
      let rest = left_less rs in
      has_cases r rs key (left (r ∷ rs) nxt < left (r ∷ rs) probe) h
      (λ e.
      let f : key_before (key_of r) probe ≡ false = ap (λ (k : Key). key_before k probe) e ∙ past in
      let t : key_before (key_of r) nxt ≡ true = ap (λ (k : Key). key_before k nxt) e ∙ later in
      rw (f, t) (omega arith))
      (λ l.
      let falls = left_falls rs key l past later in
      ⊎_elim
      (λ (t : key_before (key_of r) probe ≡ true). let u : key_before (key_of r) nxt ≡ true = on (key_of r) t in rw (t, u) falls)
      (λ (f : key_before (key_of r) probe ≡ false). ⊎_elim (λ (u : key_before (key_of r) nxt ≡ true). rw (f, u) (omega arith)) (λ (u : key_before (key_of r) nxt ≡ false). rw (f, u) (omega arith)) (cases_Bool (key_before (key_of r) nxt)))
      (cases_Bool (key_before (key_of r) probe)))

-- the fall of the measure, and the bound on the day
module _ (m : List Record) (is : IsMap m) (probe key : Key) (n : Next m probe key) where
  pub walk_falls : (nxt : Key) → key_before key nxt ≡ true → left m nxt < left m probe
  walk_falls nxt later = left_falls probe nxt (moves_on probe key nxt n.past later) m key n.there n.past later

  pub walk_small : key.from < 65535
  walk_small =
      has_held m key (key.from < 65535) n.there
      (λ h e. subst (λ (k : Key). k.from < 65535) (found_key m key h e) (from_small h (found_valid m key h is.schedules (sym e))))
