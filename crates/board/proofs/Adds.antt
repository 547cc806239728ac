-- The lines of one train, call by call.
use Rattle.std.proofs.Common.{◌≡◌, ℕ, zero, suc, ◌+◌, ◌<◌, ◌≤◌, Bool, true, false, cond, leb, ◌⊎◌, List, [], ◌∷◌, ◌++◌, length, option_and_then, slice_get, take, Some, None, Option, sym, refl, ap, ◌∙◌, subst, inl, inr, ⊎_elim, add-one, arith}
use Rattle.std.proofs.lemmas.Option.{none-some, same_Some}
use Rattle.std.proofs.lemmas.List.{length_push}
use Rattle.std.proofs.lemmas.Slice.Eq.{bytes_eq-Decides}
use Rattle.std.proofs.lemmas.Bool.{and_parts, cases_Bool, cond-true, cond-false, leb-true, cases_eq}
use Rattle.cif.specs.declared.content.Location.{Location}
use Rattle.maps.specs.Orders.{same}
use Rattle.maps.specs.Maps.{lookup, map_from}
use Rattle.maps.proofs.Maps.{same_is, same_level, lookup_including, lookup_gathered}
use Rattle.maps.proofs.Heaped.{gathered_push, apart_push}
use Rattle.schedule.specs.declared.record.Record.{Record}
use Rattle.std.specs.List.{list_all}
use Rattle.schedule.specs.Records.{is_at, visits, few_visits}
use Rattle.board.specs.declared.line.LineKey.{LineKey}
use Rattle.board.specs.declared.line.Line.{Line}
use Rattle.board.specs.Lines.{line_before, line_key, On, departing, line_of, line_at}
use Rattle.board.specs.Filling.{Added, calls_there}
use Rattle.board.specs.LineOrders.{line_lawful}

-- what a line at a place has
pub record Here (station : List ℕ) (r : Record) (p : ℕ) (l : Line) : Type 0 where
  pub place : l.key.place ≡ p
  pub uid : l.key.uid ≡ r.key.uid
  pub at : calls_there station (slice_get r.calls p) ≡ true

pub line_here : (station : List ℕ) (r : Record) (p : ℕ) (l : Line) → line_at station r p ≡ Some l → Here station r p l
line_here station r p l h = of (slice_get r.calls p) refl h
  where
    from : (call : Location) → calls_there station (slice_get r.calls p) ≡ true → (o : Option ℕ) → departing r p call o ≡ Some l → Here station r p l
    from call t None e = absurd (none-some l e)
    from call t (Some minute) e = let same_line = same_Some _ l e in record { place = sym (ap (λ (x : Line). x.key.place) same_line); uid = sym (ap (λ (x : Line). x.key.uid) same_line); at = t }

    of : (o : Option Location) → slice_get r.calls p ≡ o → option_and_then (line_of station r p) o ≡ Some l → Here station r p l
    of None c h = absurd (none-some l h)
    of (Some call) c h =
        ⊎_elim
        (λ t. from call (ap (calls_there station) c ∙ t) call.departure (sym (cond-true (is_at station call) (departing r p call call.departure) None t) ∙ h))
        (λ f. absurd (none-some l (sym (cond-false (is_at station call) (departing r p call call.departure) None f) ∙ h)))
        (cases_Bool (is_at station call))

pub added_none : (station : List ℕ) (r : Record) (xs : List Line) → Added station r 0 xs xs
added_none station r xs = record { only = λ l o. inl o; kept = λ l o. o; every = λ l h. absurd (omega arith); few = omega arith; distinct = λ a. a }

-- visits of one call more; past the calls there is none
pub visits_more : (t : List ℕ) (cs : List Location) (p : ℕ) → visits t (take (suc p) cs) ≡ cond (calls_there t (slice_get cs p)) (visits t (take p cs) + 1) (visits t (take p cs))
visits_more t [] zero = refl
visits_more t [] (suc p) = refl
visits_more t (c ∷ cs) zero = refl
visits_more t (c ∷ cs) (suc p) =
    ⊎_elim
    (λ (u : is_at t c ≡ true). rw u (ap (λ n. n + 1) (visits_more t cs p) ∙ moved (calls_there t (slice_get cs p)) (visits t (take p cs))))
    (λ (u : is_at t c ≡ false). rw u (visits_more t cs p))
    (cases_Bool (is_at t c))
  where
    moved : (b : Bool) (n : ℕ) → cond b (n + 1) n + 1 ≡ cond b ((n + 1) + 1) (n + 1)
    moved true n = refl
    moved false n = refl

-- the line that a look-up finds has the key
pub on_key : (xs : List Line) (k : LineKey) (l : Line) → lookup line_before line_key xs k ≡ Some l → line_key l ≡ k
on_key [] k l h = absurd (none-some l h)
on_key (y ∷ ys) k l h =
    ⊎_elim
    (λ t. ap line_key (same_Some l y (sym h ∙ cond-true (same line_before (line_key y) k) (Some y) (lookup line_before line_key ys k) t)) ∙ same_is line_before line_key line_lawful (line_key y) k t)
    (λ f. on_key ys k l (sym (cond-false (same line_before (line_key y) k) (Some y) (lookup line_before line_key ys k) f) ∙ h))
    (cases_Bool (same line_before (line_key y) k))

-- a look-up after a push of a new key
lookup_push : (ys : List Line) (x : Line) (k : LineKey) → lookup line_before line_key ys (line_key x) ≡ None → lookup line_before line_key (ys ++ x ∷ []) k ≡ cond (same line_before (line_key x) k) (Some x) (lookup line_before line_key ys k)
lookup_push ys x k none =
    sym (lookup_gathered line_before line_key line_lawful (ys ++ x ∷ []) k)
    ∙ ap (λ m. lookup line_before line_key m k) (gathered_push line_before line_key line_lawful ys x none)
    ∙ lookup_including line_before line_key line_lawful (map_from line_before line_key ys) x k
    ∙ ap (λ o. cond (same line_before (line_key x) k) (Some x) o) (lookup_gathered line_before line_key line_lawful ys k)

some_at : {X : Type 0} (o : Option X) (x y : X) → o ≡ Some x → o ≡ Some y → x ≡ y
some_at o x y p q = same_Some x y (sym p ∙ q)

other_key : (a b : LineKey) → (a ≡ b → ⊥) → same line_before a b ≡ false
other_key a b ne = ⊎_elim (λ t. absurd (ne (same_is line_before line_key line_lawful a b t))) (λ f. f) (cases_Bool (same line_before a b))

module _ (station : List ℕ) (r : Record) (p : ℕ) (xs ys : List Line) (a : Added station r p xs ys) where
  visit_more : visits station (take (p + 1) r.calls) ≡ cond (calls_there station (slice_get r.calls p)) (visits station (take p r.calls) + 1) (visits station (take p r.calls))
  visit_more = ap (λ n. visits station (take n r.calls)) (add-one p) ∙ visits_more station r.calls p

  visit_least : visits station (take p r.calls) ≤ visits station (take (p + 1) r.calls)
  visit_least =
      ⊎_elim
      (λ t. omega (arith, visit_more ∙ cond-true (calls_there station (slice_get r.calls p)) _ _ t))
      (λ f. omega (arith, visit_more ∙ cond-false (calls_there station (slice_get r.calls p)) _ _ f))
      (cases_Bool (calls_there station (slice_get r.calls p)))

  -- a call without a line adds none
  pub added_skip : None ≡ line_at station r p → Added station r (p + 1) xs ys
  added_skip none = record {
    only = λ l o. ⊎_elim (λ x. inl x) (λ h. inr (let q = h.0 in omega arith, h.1)) (a.only l o);
    kept = a.kept;
    every = λ l h e. ⊎_elim
        (λ (same_place : l.key.place ≡ p). absurd (none-some l (none ∙ (ap (line_at station r) (sym same_place) ∙ e))))
        (λ ne. a.every l (omega arith) e)
        (cases_eq l.key.place p);
    few = let f = a.few in let v = visit_least in omega arith;
    distinct = a.distinct;
  }

  module _ (x : Line) (line : Some x ≡ line_at station r p) (fresh : (l : Line) → On xs l → l.key.uid ≡ r.key.uid → ⊥) where
    here : Here station r p x
    here = line_here station r p x (sym line)

    -- no line so far has its key
    absent : lookup line_before line_key ys (line_key x) ≡ None
    absent = of (lookup line_before line_key ys (line_key x)) refl
      where
        of : (o : Option Line) → lookup line_before line_key ys (line_key x) ≡ o → lookup line_before line_key ys (line_key x) ≡ None
        of None e = e
        of (Some l) e =
            let k = on_key ys (line_key x) l e in
            let q = here.place in
            absurd (⊎_elim
            (λ old. fresh l old (ap (λ (j : LineKey). j.uid) k ∙ here.uid))
            (λ h. let s = ap (λ (j : LineKey). j.place) k in let b = h.0 in omega arith)
            (a.only l (ap (lookup line_before line_key ys) k ∙ e)))

    abbrev after : List Line
    after = ys ++ x ∷ []

    looked : (l : Line) → lookup line_before line_key after (line_key l) ≡ cond (same line_before (line_key x) (line_key l)) (Some x) (lookup line_before line_key ys (line_key l))
    looked l = lookup_push ys x (line_key l) absent

    stays : (l : Line) → (line_key x ≡ line_key l → ⊥) → On ys l → On after l
    stays l ne o = looked l ∙ (cond-false (same line_before (line_key x) (line_key l)) _ _ (other_key (line_key x) (line_key l) ne) ∙ o)

    on_x : On after x
    on_x = looked x ∙ cond-true (same line_before (line_key x) (line_key x)) _ _ (same_level line_before line_key line_lawful (line_key x) (line_key x) refl)

    -- a call with a line adds it
    pub added_line : Added station r (p + 1) xs after
    added_line = record {
      only = λ l o. ⊎_elim
          (λ t.
          let e : x ≡ l = some_at _ x l (looked l ∙ cond-true (same line_before (line_key x) (line_key l)) (Some x) (lookup line_before line_key ys (line_key l)) t) o in
          let q = here.place in
          inr (subst (λ (y : Line). (y.key.place < p + 1) × (line_at station r y.key.place ≡ Some y)) e (omega arith, ap (line_at station r) here.place ∙ sym line)))
          (λ f. ⊎_elim (λ old. inl old) (λ h. inr (let q = h.0 in omega arith, h.1))
          (a.only l (sym (looked l ∙ cond-false (same line_before (line_key x) (line_key l)) (Some x) (lookup line_before line_key ys (line_key l)) f) ∙ o)))
          (cases_Bool (same line_before (line_key x) (line_key l)));
      kept = λ l o. stays l (λ e. fresh l o (sym (ap (λ (k : LineKey). k.uid) e) ∙ here.uid)) (a.kept l o);
      every = λ l h e. ⊎_elim
          (λ (same_place : l.key.place ≡ p). subst (λ (y : Line). On after y) (same_Some x l (line ∙ (ap (line_at station r) (sym same_place) ∙ e))) on_x)
          (λ ne. stays l (λ k. ne (sym (ap (λ (j : LineKey). j.place) k) ∙ here.place)) (a.every l (omega arith) e))
          (cases_eq l.key.place p);
      few =
          let f = a.few in
          let n = length_push ys x in
          let v = visit_more ∙ cond-true (calls_there station (slice_get r.calls p)) _ _ here.at in
          omega arith;
      distinct = λ d. apart_push line_before line_key line_lawful ys x absent (a.distinct d);
    }

-- no schedule has more than two calls at a station
pub two_visits : (t : List ℕ) (cs : List Location) → few_visits cs ≡ true → visits t cs ≤ 2
two_visits t cs few = ⊎_elim (λ h. h) (λ none. omega arith) (look cs few)
  where
    look : (ds : List Location) → list_all (λ c. leb (visits c.tiploc cs) 2) ds ≡ true → (visits t cs ≤ 2) ⊎ (visits t ds ≡ 0)
    look [] e = inr refl
    look (d ∷ ds) e =
        let q = and_parts (leb (visits d.tiploc cs) 2) (list_all (λ c. leb (visits c.tiploc cs) 2) ds) e in
        ⊎_elim
        (λ (u : is_at t d ≡ true). inl (subst (λ (z : List ℕ). visits z cs ≤ 2) ((bytes_eq-Decides d.tiploc t).0 u) (leb-true (visits d.tiploc cs) 2 q.0)))
        (λ (u : is_at t d ≡ false). ⊎_elim (λ h. inl h) (λ none. inr (cond-false (is_at t d) _ _ u ∙ none)) (look ds q.1))
        (cases_Bool (is_at t d))

-- a line that is pushed is there
pub added_push : (station : List ℕ) (r : Record) (p : ℕ) (xs ys zs : List Line) (x : Line) → Added station r p xs ys → Some x ≡ line_at station r p → ((l : Line) → On xs l → l.key.uid ≡ r.key.uid → ⊥) → zs ≡ ys ++ x ∷ [] → Added station r (p + 1) xs zs
added_push station r p xs ys zs x a line fresh pushed =
    subst (λ (v : List Line). Added station r (p + 1) xs v) (sym pushed) (added_line station r p xs ys a x line fresh)

-- more calls have no fewer visits
visits_mono : (t : List ℕ) (cs : List Location) (a b : ℕ) → a ≤ b → visits t (take a cs) ≤ visits t (take b cs)
visits_mono t [] zero b l = omega arith
visits_mono t [] (suc a) zero l = omega arith
visits_mono t [] (suc a) (suc b) l = omega arith
visits_mono t (c ∷ cs) zero b l = omega arith
visits_mono t (c ∷ cs) (suc a) zero l = absurd (omega arith)
visits_mono t (c ∷ cs) (suc a) (suc b) l =
    let rest = visits_mono t cs a b (omega arith) in
    ⊎_elim (λ (u : is_at t c ≡ true). rw u (omega arith)) (λ (u : is_at t c ≡ false). rw u rest) (cases_Bool (is_at t c))

-- there is room for the line of one call more
pub room_for : (station : List ℕ) (r : Record) (p n q : ℕ) (xs ys : List Line) → Added station r p xs ys → p < q → length xs + visits station (take q r.calls) ≤ n → calls_there station (slice_get r.calls p) ≡ true → length ys < n
room_for station r p n q xs ys a l fits at =
    let f = a.few in
    let v = ap (λ k. visits station (take k r.calls)) (add-one p) ∙ (visits_more station r.calls p ∙ cond-true (calls_there station (slice_get r.calls p)) _ _ at) in
    let m = visits_mono station r.calls (p + 1) q (omega arith) in
    omega arith
