-- The least key after some transactions: among those that they leave alone, and among those that they set.
use Rattle.std.proofs.Common.{◌≡◌, ℕ, ◌+◌, ◌<◌, Bool, true, false, cond, not, ◌&&◌, ◌||◌, ◌⊎◌, List, [], ◌∷◌, ◌++◌, length, get_or, take, is_some, Some, None, Option, sym, refl, ap, ◌∙◌, subst, inl, inr, ⊎_elim}
use Rattle.std.proofs.lemmas.List.{take_more}
use Rattle.std.proofs.lemmas.Bool.{and_parts, and_from, cases_Bool, both_ways, cond-true, not-true, not_from_false, true≢false, or_cases, or_left, or_right}
use Rattle.maps.specs.Orders.{same}
use Rattle.maps.proofs.Maps.{same_is, same_level}
use Rattle.schedule.specs.declared.key.Key.{Key}
use Rattle.schedule.specs.declared.record.Record.{Record}
use Rattle.schedule.specs.declared.transaction.Change.{Change}
use Rattle.schedule.specs.Keys.{key_before}
use Rattle.schedule.specs.Records.{key_of}
use Rattle.schedule.specs.Transactions.{changed_key, every_lawful}
use Rattle.schedule.specs.Orders.{key_irreflexive, key_transitive, key_total}
use Rattle.timetable.specs.Timetables.{schedule_of, not_before, IsMap}
use Rattle.timetable.specs.Laws.{has_key, LeastOf}
use Rattle.timetable.proofs.Keys.{same_least, is_not_before}
use Rattle.timetable.proofs.Nexts.{Next, moves_on}
use Rattle.timetable.proofs.Valid.{key_lawful}
use Rattle.overlay.specs.Overlays.{done_all, last_from, last_on}
use Rattle.overlay.specs.Leasts.{is_touched, is_untouched, leaves_one, is_set, is_lower, takes_place}
use Rattle.overlay.proofs.Lasts.{no_change}
use Rattle.overlay.proofs.Dones.{after_last, all_look}
use Rattle.overlay.specs.Maps.{all_map}

-- a walk from a probe has passed no key that the transactions leave alone
pub record Walked (m : List Record) (cs : List Change) (probe from : Key) : Type 0 where
  pub on : (k : Key) → key_before k probe ≡ true → key_before k from ≡ true
  pub none : (k : Key) → is_untouched m cs k ≡ true → key_before k from ≡ true → key_before k probe ≡ true

pub begin : (m : List Record) (cs : List Change) (probe : Key) → Walked m cs probe probe
begin m cs probe = record { on = λ k h. h; none = λ k u h. h }

module _ (m : List Record) (cs : List Change) (probe from : Key) (w : Walked m cs probe from) where
  -- an untouched key not before the probe is not before where the walk stands
  ahead : (k : Key) → is_untouched m cs k ≡ true → key_before k probe ≡ false → key_before k from ≡ false
  ahead k u p = ⊎_elim (λ t. absurd (both_ways (key_before k probe) p (w.none k u t))) (λ f. f) (cases_Bool (key_before k from))

  module _ (key : Key) (n : Next m from key) where
    pub walk_more : (nxt : Key) → is_touched cs key ≡ true → key_before key nxt ≡ true → ((q : Key) → key_before q nxt ≡ true → key_before key q ≡ false) → Walked m cs probe nxt
    walk_more nxt touched later tight = record {
      on = λ k h. moves_on from key nxt n.past later k (w.on k h);
      none = λ k u h. ⊎_elim
          (λ t. w.none k u t)
          (λ f.
          let p = and_parts (has_key m k) (not (is_touched cs k)) u in
          let e : k ≡ key = key_total k key (n.least k p.0 f) (tight k h) in
          absurd (both_ways (is_touched cs k) (not-true (is_touched cs k) p.1) (ap (is_touched cs) e ∙ touched)))
          (cases_Bool (key_before k from));
    }

    pub walk_found : is_touched cs key ≡ false → LeastOf (is_untouched m cs) probe (Some key)
    walk_found free = (
      and_from (has_key m key) (not (is_touched cs key)) n.there (not_from_false (is_touched cs key) free),
      ⊎_elim (λ t. absurd (both_ways (key_before key from) n.past (w.on key t))) (λ f. f) (cases_Bool (key_before key probe)),
      λ k u p. n.least k (and_parts (has_key m k) (not (is_touched cs k)) u).0 (ahead k u p),
    )

  pub walk_ended : ((k : Key) → has_key m k ≡ true → key_before k from ≡ true) → LeastOf (is_untouched m cs) probe None
  walk_ended all = λ k u. w.none k u (all k (and_parts (has_key m k) (not (is_touched cs k)) u).0)

-- one key more to choose from
module _ (t u : Key → Bool) (key probe : Key) (s : Bool) (on : (k : Key) → t k ≡ true → u k ≡ true) (here : s ≡ true → u key ≡ true)
    (new : (k : Key) → u k ≡ true → (t k ≡ true) ⊎ ((k ≡ key) × (s ≡ true))) where
  least_taken : (best : Option Key) → LeastOf t probe best → (s && (not (key_before key probe) && is_lower key best)) ≡ true → LeastOf u probe (Some key)
  least_taken best old h =
      let p = and_parts s _ h in
      let q = and_parts (not (key_before key probe)) (is_lower key best) p.1 in
      (here p.0, not-true (key_before key probe) q.0, λ k there past. ⊎_elim (λ o. below best old q.1 k o past) (λ e. subst (λ (c : Key). key_before c key ≡ false) (sym e.0) (key_irreflexive key)) (new k there))
    where
      below : (best : Option Key) → LeastOf t probe best → is_lower key best ≡ true → (k : Key) → t k ≡ true → key_before k probe ≡ false → key_before k key ≡ false
      below None old l k o past = absurd (both_ways (key_before k probe) past (old k o))
      below (Some b) old l k o past = ⊎_elim (λ e. absurd (both_ways (key_before k b) (old.2 k o past) (key_transitive k key b e l))) (λ f. f) (cases_Bool (key_before k key))

  -- a key that does not take the place of the best is not before it
  beaten : (best : Option Key) → (s && (not (key_before key probe) && is_lower key best)) ≡ false → s ≡ true → key_before key probe ≡ false → is_lower key best ≡ false
  beaten best h e p = sym (ap (λ (b : Bool). b && (not (key_before key probe) && is_lower key best)) e ∙ ap (λ (b : Bool). not b && is_lower key best) p) ∙ h

  least_kept : (best : Option Key) → LeastOf t probe best → (s && (not (key_before key probe) && is_lower key best)) ≡ false → LeastOf u probe best
  least_kept None old h = λ k there. ⊎_elim
      (λ o. old k o)
      (λ e. ⊎_elim (λ b. ap (λ (c : Key). key_before c probe) e.0 ∙ b) (λ f. absurd (true≢false (beaten None h e.1 f))) (cases_Bool (key_before key probe)))
      (new k there)
  least_kept (Some b) old h = (
    on b old.0,
    old.1,
    λ k there past. ⊎_elim
        (λ o. old.2 k o past)
        (λ e. ap (λ (c : Key). key_before c b) e.0 ∙ beaten (Some b) h e.1 (sym (ap (λ (c : Key). key_before c probe) e.0) ∙ past))
        (new k there),
  )

-- one transaction more
last_push : (k : Key) (o : Option Change) (cs : List Change) (c : Change) → last_from k o (cs ++ c ∷ []) ≡ cond (same key_before (changed_key c) k) (Some c) (last_from k o cs)
last_push k o [] c = refl
last_push k o (d ∷ ds) c = last_push k (cond (same key_before (changed_key d) k) (Some d) o) ds c

-- the keys to choose from: others, and those set by the first of the transactions
abbrev pub among : (Key → Bool) → List Change → List Change → Key → Bool
among test some all k = test k || (is_touched some k && is_set all k)

still : (x : Bool) (c : Change) (o : Option Change) → is_some o ≡ true → is_some (cond x (Some c) o) ≡ true
still true c o h = refl
still false c o h = h

either : (x : Bool) (c : Change) (o : Option Change) → is_some (cond x (Some c) o) ≡ true → (is_some o ≡ true) ⊎ (x ≡ true)
either true c o h = inr refl
either false c o h = inl h

module _ (test : Key → Bool) (cs : List Change) (i : ℕ) (l : i < length cs) where
  touched_more : (k : Key) → is_touched (take (i + 1) cs) k ≡ is_some (cond (same key_before (changed_key (get_or cs i no_change)) k) (Some (get_or cs i no_change)) (last_on k (take i cs)))
  touched_more k = ap is_some (ap (last_from k None) (take_more cs i no_change l) ∙ last_push k None (take i cs) (get_or cs i no_change))

  on_more : (k : Key) → among test (take i cs) cs k ≡ true → among test (take (i + 1) cs) cs k ≡ true
  on_more k h =
      ⊎_elim
      (λ t. or_left (test k) _ t)
      (λ t.
      let p = and_parts (is_touched (take i cs) k) (is_set cs k) t in
      or_right (test k) _ (and_from (is_touched (take (i + 1) cs) k) (is_set cs k) (touched_more k ∙ still (same key_before (changed_key (get_or cs i no_change)) k) (get_or cs i no_change) (last_on k (take i cs)) p.0) p.1))
      (or_cases (test k) _ h)

  here_more : is_set cs (changed_key (get_or cs i no_change)) ≡ true → among test (take (i + 1) cs) cs (changed_key (get_or cs i no_change)) ≡ true
  here_more h =
      let key = changed_key (get_or cs i no_change) in
      or_right (test key) _ (and_from (is_touched (take (i + 1) cs) key) (is_set cs key)
      (touched_more key ∙ ap is_some (cond-true (same key_before key key) (Some (get_or cs i no_change)) (last_on key (take i cs)) (same_level key_before key_of key_lawful key key refl))) h)

  new_more : (k : Key) → among test (take (i + 1) cs) cs k ≡ true → (among test (take i cs) cs k ≡ true) ⊎ ((k ≡ changed_key (get_or cs i no_change)) × (is_set cs (changed_key (get_or cs i no_change)) ≡ true))
  new_more k h =
      ⊎_elim
      (λ t. inl (or_left (test k) _ t))
      (λ t.
      let p = and_parts (is_touched (take (i + 1) cs) k) (is_set cs k) t in
      ⊎_elim
      (λ o. inl (or_right (test k) _ (and_from (is_touched (take i cs) k) (is_set cs k) o p.1)))
      (λ x. let e = same_is key_before key_of key_lawful (changed_key (get_or cs i no_change)) k x in inr (sym e, ap (is_set cs) e ∙ p.1))
      (either (same key_before (changed_key (get_or cs i no_change)) k) (get_or cs i no_change) (last_on k (take i cs)) (sym (touched_more k) ∙ p.0)))
      (or_cases (test k) _ h)

  -- one turn of a loop that keeps the least
  pub least_more : (probe : Key) (best new : Option Key) (b : Bool) → b ≡ takes_place cs probe (changed_key (get_or cs i no_change)) best → new ≡ cond b (Some (changed_key (get_or cs i no_change))) best → LeastOf (among test (take i cs) cs) probe best → LeastOf (among test (take (i + 1) cs) cs) probe new
  least_more probe best new true h e old =
      subst (λ (o : Option Key). LeastOf (among test (take (i + 1) cs) cs) probe o) (sym e)
      (least_taken (among test (take i cs) cs) (among test (take (i + 1) cs) cs) (changed_key (get_or cs i no_change)) probe (is_set cs (changed_key (get_or cs i no_change))) on_more here_more new_more best old (sym h))
  least_more probe best new false h e old =
      subst (λ (o : Option Key). LeastOf (among test (take (i + 1) cs) cs) probe o) (sym e)
      (least_kept (among test (take i cs) cs) (among test (take (i + 1) cs) cs) (changed_key (get_or cs i no_change)) probe (is_set cs (changed_key (get_or cs i no_change))) on_more here_more new_more best old (sym h))

-- no transaction sets no key
pub among_none : (test : Key → Bool) (cs : List Change) (k : Key) → test k ≡ among test [] cs k
among_none test cs k = of (test k)
  where
    of : (b : Bool) → b ≡ (b || false)
    of true = refl
    of false = refl

-- and all of them set just those that are set
pub among_all : (test : Key → Bool) (cs : List Change) (k : Key) → among test cs cs k ≡ (test k || is_set cs k)
among_all test cs k = ap (λ (b : Bool). test k || b) (of (last_on k cs))
  where
    of : (o : Option Change) → (is_some o && leaves_one o) ≡ leaves_one o
    of (Some c) = refl
    of None = refl

-- a key of the overlay is left alone or set
overlaid : (m : List Record) (cs : List Change) (k : Key) → IsMap m → every_lawful cs ≡ true → (is_untouched m cs k || is_set cs k) ≡ has_key (done_all m cs) k
overlaid m cs k is h = of (last_on k cs) (schedule_of m k) ∙ sym (ap is_some (all_look m cs k is h))
  where
    of : (o : Option Change) (x : Option Record) → ((is_some x && not (is_some o)) || leaves_one o) ≡ is_some (after_last o x)
    of (Some c) (Some r) = refl
    of (Some c) None = refl
    of None (Some r) = refl
    of None None = refl

-- the least of the overlay's keys
pub overlay_least : (m : List Record) (cs : List Change) (probe : Key) (o : Option Key) → IsMap m → every_lawful cs ≡ true → LeastOf (λ k. is_untouched m cs k || is_set cs k) probe o → o ≡ not_before (done_all m cs) probe
overlay_least m cs probe o is h l =
    is_not_before (done_all m cs) probe o (all_map m cs is h)
    (same_least (λ k. is_untouched m cs k || is_set cs k) (has_key (done_all m cs)) probe o (λ k. overlaid m cs k is h) l)
