-- The laws of timetables, from those of maps.
use Rattle.std.proofs.Common.{◌≡◌, Bool, true, false, List, [], ◌∷◌, is_some, Some, None, Option, sym, refl, ap, ◌∙◌, subst, ⊎_elim}
use Rattle.std.proofs.lemmas.Bool.{and_parts, cases_Bool, both_ways, cond-true, cond-false, true≢false}
use Rattle.maps.specs.Orders.{same}
use Rattle.maps.specs.Maps.{ascending, after}
use Rattle.maps.proofs.Maps.{same_maps, same_level, same_is, lookup_including, lookup_excluding}
use Rattle.schedule.specs.declared.key.Key.{Key}
use Rattle.schedule.specs.declared.record.Record.{Record}
use Rattle.schedule.specs.Keys.{key_before}
use Rattle.schedule.specs.Records.{key_of}
use Rattle.timetable.specs.Timetables.{schedule_of, not_before, IsMap}
use Rattle.timetable.specs.Laws.{LookupsDecide, OthersKeep, has_key, Has, LeastOf, NotBeforeIsLeast}
use Rattle.timetable.proofs.Valid.{key_lawful}

pub decide : LookupsDecide
decide a b u v h = same_maps key_before key_of key_lawful a b u.rising v.rising h

-- a key is the same as itself, and as no other
self_same : (k : Key) → same key_before k k ≡ true
self_same k = same_level key_before key_of key_lawful k k refl

other : (a b : Key) → (a ≡ b → ⊥) → same key_before a b ≡ false
other a b ne = ⊎_elim (λ t. absurd (ne (same_is key_before key_of key_lawful a b t))) (λ f. f) (cases_Bool (same key_before a b))

pub keep : OthersKeep
keep = record {
  put = λ m r. lookup_including key_before key_of key_lawful m r (key_of r) ∙ cond-true (same key_before (key_of r) (key_of r)) _ _ (self_same (key_of r));
  put_others = λ m r k ne. lookup_including key_before key_of key_lawful m r k ∙ cond-false (same key_before (key_of r) k) _ _ (other (key_of r) k ne);
  removed = λ m k is. lookup_excluding key_before key_of key_lawful m k k is.rising ∙ cond-true (same key_before k k) _ _ (self_same k);
  removed_others = λ m k q is ne. lookup_excluding key_before key_of key_lawful m k q is.rising ∙ cond-false (same key_before k q) _ _ (other k q ne);
}

-- what is in a map with a first schedule
pub has_cases : (y : Record) (ys : List Record) (k : Key) (P : Type 0) → Has (y ∷ ys) k → (key_of y ≡ k → P) → (Has ys k → P) → P
has_cases y ys k P h here later =
    ⊎_elim
    (λ t. here (same_is key_before key_of key_lawful (key_of y) k t))
    (λ f. later (sym (ap is_some (cond-false (same key_before (key_of y) k) (Some y) (schedule_of ys k) f)) ∙ h))
    (cases_Bool (same key_before (key_of y) k))

pub has_none : (k : Key) → Has [] k → ⊥
has_none k h = true≢false (sym h)

has_first : (y : Record) (ys : List Record) → Has (y ∷ ys) (key_of y)
has_first y ys = ap is_some (cond-true (same key_before (key_of y) (key_of y)) (Some y) (schedule_of ys (key_of y)) (self_same (key_of y)))

has_later : (y : Record) (ys : List Record) (k : Key) → Has ys k → Has (y ∷ ys) k
has_later y ys k h =
    ⊎_elim
    (λ t. ap is_some (cond-true (same key_before (key_of y) k) (Some y) (schedule_of ys k) t))
    (λ f. ap is_some (cond-false (same key_before (key_of y) k) (Some y) (schedule_of ys k) f) ∙ h)
    (cases_Bool (same key_before (key_of y) k))

-- keys of the rest come after the first
after_first : (k : Key) (ys : List Record) (q : Key) → after key_before key_of k ys ≡ true → Has ys q → key_before k q ≡ true
after_first k [] q a h = absurd (has_none q h)
after_first k (y ∷ ys) q a h =
    let p = and_parts (key_before k (key_of y)) (after key_before key_of k ys) a in
    has_cases y ys q (key_before k q ≡ true) h (λ e. subst (λ (c : Key). key_before k c ≡ true) e p.0) (λ l. after_first k ys q p.1 l)

not_before_both : (a b : Key) → key_before a b ≡ true → key_before b a ≡ false
not_before_both a b h =
    ⊎_elim (λ t. absurd (both_ways (key_before a a) (key_lawful.irreflexive a) (key_lawful.transitive a b a h t))) (λ f. f) (cases_Bool (key_before b a))

more : (y : Record) (ys : List Record) (probe : Key) (o : Option Key) → key_before (key_of y) probe ≡ true → LeastOf (has_key ys) probe o → LeastOf (has_key (y ∷ ys)) probe o
more y ys probe None t h = λ k there. has_cases y ys k (key_before k probe ≡ true) there (λ e. subst (λ (c : Key). key_before c probe ≡ true) e t) (λ l. h k l)
more y ys probe (Some least) t h = (
  has_later y ys least h.0,
  h.1,
  λ k there past. has_cases y ys k (key_before k least ≡ false) there
      (λ e. absurd (both_ways (key_before k probe) past (subst (λ (c : Key). key_before c probe ≡ true) e t)))
      (λ l. h.2 k l past),
)

least_rising : (m : List Record) (probe : Key) → ascending key_before key_of m ≡ true → LeastOf (has_key m) probe (not_before m probe)
least_rising [] probe up = λ k h. absurd (has_none k h)
least_rising (y ∷ ys) probe up =
    let p = and_parts (after key_before key_of (key_of y) ys) (ascending key_before key_of ys) up in
    ⊎_elim
    (λ t. subst (λ (o : Option Key). LeastOf (has_key (y ∷ ys)) probe o) (sym (cond-true (key_before (key_of y) probe) (not_before ys probe) (Some (key_of y)) t)) (more y ys probe (not_before ys probe) t (least_rising ys probe p.1)))
    (λ f. subst (λ (o : Option Key). LeastOf (has_key (y ∷ ys)) probe o) (sym (cond-false (key_before (key_of y) probe) (not_before ys probe) (Some (key_of y)) f)) (
      has_first y ys,
      f,
      λ k there past. has_cases y ys k (key_before k (key_of y) ≡ false) there
          (λ e. subst (λ (c : Key). key_before c (key_of y) ≡ false) e (key_lawful.irreflexive (key_of y)))
          (λ l. not_before_both (key_of y) k (after_first (key_of y) ys k p.0 l)),
    ))
    (cases_Bool (key_before (key_of y) probe))

pub least : NotBeforeIsLeast
least m probe is = least_rising m probe is.rising

-- two answers that are both least are one
one_least : (test : Key → Bool) (probe : Key) (a b : Option Key) → LeastOf test probe a → LeastOf test probe b → a ≡ b
one_least test probe None None h i = refl
one_least test probe None (Some l) h i = absurd (both_ways (key_before l probe) i.1 (h l i.0))
one_least test probe (Some k) None h i = absurd (both_ways (key_before k probe) h.1 (i k h.0))
one_least test probe (Some k) (Some l) h i = ap Some (key_lawful.total k l (i.2 k h.0 h.1) (h.2 l i.0 i.1))

-- tests that agree have the same least
pub same_least : (t u : Key → Bool) (probe : Key) (o : Option Key) → ((k : Key) → t k ≡ u k) → LeastOf t probe o → LeastOf u probe o
same_least t u probe None e h = λ k there. h k (e k ∙ there)
same_least t u probe (Some l) e h = (sym (e l) ∙ h.0, h.1, λ k there past. h.2 k (e k ∙ there) past)

-- what is least of a map's keys is what not-before answers
pub is_not_before : (m : List Record) (probe : Key) (o : Option Key) → IsMap m → LeastOf (has_key m) probe o → o ≡ not_before m probe
is_not_before m probe o is h = one_least (has_key m) probe o (not_before m probe) h (least m probe is)
