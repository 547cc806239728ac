-- A schedule with a call more is still a schedule.
use Rattle.std.proofs.Common.{◌≡◌, ℕ, ◌+◌, ◌<◌, ◌≤◌, Bool, true, false, cond, leb, List, [], ◌∷◌, ◌++◌, length, get_or, take, drop, set, sym, refl, ap, ◌∙◌, subst, ⊎_elim, arith}
use Rattle.std.proofs.lemmas.Slice.Eq.{bytes_eq-Decides}
use Rattle.std.proofs.lemmas.List.{take_more_set, drop-set-lt, drop_more}
use Rattle.std.proofs.lemmas.List.Elements.{All-weaker}
use Rattle.std.specs.List.{list_all}
use Rattle.std.proofs.lemmas.List.Folds.{list_all-append}
use Rattle.std.proofs.lemmas.List.Sums.{sum_by_push, AllPass-from_list_all, list_all-from_AllPass}
use Rattle.std.proofs.lemmas.Bool.{and_parts, and_from, cases_Bool, cond-false, leb-true, le-leb}
use Rattle.cif.specs.declared.content.Location.{Location}
use Rattle.schedule.specs.declared.record.Record.{Record}
use Rattle.schedule.specs.Records.{is_at, visits, few_visits, is_filler, kept_calls, in_range, is_schedule, is_cancellation}
use Rattle.schedule.proofs.Steps.{nowhere, visits_counted}

visits_push : (t : List ℕ) (cs : List Location) (c : Location) → visits t (cs ++ c ∷ []) ≡ visits t cs + cond (is_at t c) 1 0
visits_push t cs c = visits_counted t (cs ++ c ∷ []) ∙ (sum_by_push (λ d. cond (is_at t d) 1 0) cs c ∙ sym (ap (λ n. n + cond (is_at t c) 1 0) (visits_counted t cs)))

every_push : (test : Location → Bool) (cs : List Location) (c : Location) → list_all test cs ≡ true → test c ≡ true → list_all test (cs ++ c ∷ []) ≡ true
every_push test cs c h t = list_all-append test cs (c ∷ []) ∙ and_from (list_all test cs) _ h (and_from (test c) true t refl)

every_weaker : (strict test : Location → Bool) (cs : List Location) → ((d : Location) → strict d ≡ true → test d ≡ true) → list_all strict cs ≡ true → list_all test cs ≡ true
every_weaker strict test cs f h = list_all-from_AllPass test cs (All-weaker _ _ f cs (AllPass-from_list_all strict cs h))

-- no TIPLOC is visited too often where the new call's had at most one visit
few_push : (cs : List Location) (c : Location) → few_visits cs ≡ true → visits c.tiploc cs < 2 → few_visits (cs ++ c ∷ []) ≡ true
few_push cs c h few =
    every_push (λ d. leb (visits d.tiploc (cs ++ c ∷ [])) 2) cs c
    (every_weaker (λ d. leb (visits d.tiploc cs) 2) (λ d. leb (visits d.tiploc (cs ++ c ∷ [])) 2) cs still h)
    (le-leb (visits c.tiploc (cs ++ c ∷ [])) 2 (one_more c.tiploc few))
  where
    at_most_one : (b : Bool) → cond b 1 0 ≤ 1
    at_most_one true = omega arith
    at_most_one false = omega arith

    one_more : (t : List ℕ) → visits t cs < 2 → visits t (cs ++ c ∷ []) ≤ 2
    one_more t l = omega (arith, visits_push t cs c, at_most_one (is_at t c))

    still : (d : Location) → leb (visits d.tiploc cs) 2 ≡ true → leb (visits d.tiploc (cs ++ c ∷ [])) 2 ≡ true
    still d t =
        ⊎_elim
        (λ here. le-leb _ 2 (one_more d.tiploc (subst (λ (v : List ℕ). visits v cs < 2) ((bytes_eq-Decides c.tiploc d.tiploc).0 here) few)))
        (λ there. le-leb _ 2 (omega (arith, visits_push d.tiploc cs c, cond-false {A = ℕ} (is_at d.tiploc c) 1 0 there, leb-true _ 2 t)))
        (cases_Bool (is_at d.tiploc c))

module _ (r : Record) (l : Location) (valid : is_schedule r ≡ true) (runs : is_cancellation r.key.stp ≡ false) (long : length r.calls ≡ 48) (room : r.count < 48) (few : visits l.tiploc (kept_calls r) < 2) where
  pub call_valid : is_schedule (record r { calls = set r.calls r.count l; count = r.count + 1 }) ≡ true
  call_valid =
      let a = and_parts (in_range r) _ valid in
      let b = and_parts (leb r.count 48) _ a.1 in
      let d = and_parts (few_visits (kept_calls r)) _ b.1 in
      let e = and_parts (list_all is_filler (drop r.count r.calls)) _ d.1 in
      let within : r.count < length r.calls = omega arith in
      let rest : list_all is_filler (drop (r.count + 1) r.calls) ≡ true = (and_parts (is_filler (get_or r.calls r.count nowhere)) _ (sym (ap (list_all is_filler) (drop_more r.calls r.count nowhere within)) ∙ e.0)).1 in
      and_from (in_range r) _ a.0
      (and_from (leb (r.count + 1) 48) _ (le-leb (r.count + 1) 48 (omega arith))
      (and_from (few_visits (take (r.count + 1) (set r.calls r.count l))) _ (ap few_visits (take_more_set r.calls r.count l within) ∙ few_push (kept_calls r) l d.0 few)
      (and_from (list_all is_filler (drop (r.count + 1) (set r.calls r.count l))) _ (ap (list_all is_filler) (drop-set-lt (r.count + 1) r.calls r.count l (omega arith)) ∙ rest)
      (cond-false (is_cancellation r.key.stp) _ true runs))))
