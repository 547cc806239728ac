-- Which of lines in order depart at or after a minute.
use Rattle.std.proofs.Common.{◌≡◌, ℕ, zero, suc, ◌+◌, ◌-◌, ◌<◌, ◌≤◌, min, Bool, true, false, not, List, [], ◌∷◌, ◌++◌, length, take, drop, get_or, filter, ltb, refl, ap, sym, subst, ◌∙◌, inl, inr, arith}
use Rattle.std.specs.List.{list_all}
use Rattle.std.specs.List.Sorted.{IsNonDecreasingBy, IsPartitionPoint}
use Rattle.std.proofs.lemmas.Bool.{cases_lt, and_from, and_parts, ltb-true, ltb-false, lt-leb, le-leb, lt-ltb, le-ltb, not_from_false, not-true}
use Rattle.std.proofs.lemmas.Bool.Decides.{nat_tests}
use Rattle.std.proofs.lemmas.List.{take_min, take_rest, take-append-drop, append_assoc, get_or-take, get_or-drop, length-take, length-take-le, length-drop, drop_all}
use Rattle.std.proofs.lemmas.List.Elements.{filter-append}
use Rattle.std.proofs.lemmas.List.Folds.{list_all-append}
use Rattle.maps.specs.Maps.{ascending}
use Rattle.maps.proofs.Sorted.{ascends_whole}
use Rattle.board.specs.declared.line.LineKey.{LineKey}
use Rattle.board.specs.declared.line.Line.{Line}
use Rattle.board.specs.Lines.{line_before, line_key}
use Rattle.page.specs.Pages.{departs_from, first_ten}
use Rattle.page.specs.Laws.{ShownFrom}

no_later : (a b : LineKey) → line_before a b ≡ true → a.minute ≤ b.minute
no_later a b h = grind (arith, nat_tests)

-- the minutes of lines in order do not fall
pub minutes_rise : (lines : List Line) → ascending line_before line_key lines ≡ true → IsNonDecreasingBy (λ l. l.key.minute) lines
minutes_rise lines a i j d le lt = elim (cases_lt i j) [
  | inl h ↦ no_later (get_or lines i d).key (get_or lines j d).key (ascends_whole line_before line_key lines a i j d h lt)
  | inr h ↦ let e : i ≡ j = omega arith in let m : (get_or lines i d).key.minute ≡ (get_or lines j d).key.minute = ap (λ n. (get_or lines n d).key.minute) e in omega arith
]

all_from : {X : Type 0} (p : X → Bool) (xs : List X) → ((k : ℕ) (d : X) → k < length xs → p (get_or xs k d) ≡ true) → list_all p xs ≡ true
all_from p [] h = refl
all_from p (x ∷ xs) h = and_from (p x) (list_all p xs) (h 0 x (omega arith)) (all_from p xs (λ k d lt. h (suc k) d (omega arith)))

none_kept : {X : Type 0} (p : X → Bool) (xs : List X) → list_all (λ x. not (p x)) xs ≡ true → filter p xs ≡ []
none_kept p [] h = refl
none_kept p (x ∷ xs) h = let t = and_parts (not (p x)) (list_all (λ y. not (p y)) xs) h in rw (not-true (p x) t.0) (none_kept p xs t.1)

all_kept : {X : Type 0} (p : X → Bool) (xs : List X) → list_all p xs ≡ true → filter p xs ≡ xs
all_kept p [] h = refl
all_kept p (x ∷ xs) h = let t = and_parts (p x) (list_all p xs) h in rw t.0 (ap (λ l. x ∷ l) (all_kept p xs t.1))

-- the place from which lines depart at or after a minute
abbrev pub From : ℕ → List Line → ℕ → Type 0
From m lines i = IsPartitionPoint (λ l. ltb l.key.minute m ≡ true) (λ l. ltb l.key.minute m ≡ false) lines i

earlier : (m : ℕ) (lines : List Line) (i : ℕ) → i ≤ length lines → From m lines i → list_all (λ l. not (departs_from m l)) (take i lines) ≡ true
earlier m lines i h at =
    let long = length-take-le i lines h in
    all_from (λ l. not (departs_from m l)) (take i lines) (λ k d lt.
    ap (λ l. not (departs_from m l)) (get_or-take i lines k d (omega arith))
    ∙ not_from_false (departs_from m (get_or lines k d)) (lt-leb m (get_or lines k d).key.minute (ltb-true (get_or lines k d).key.minute m (at.0 k d (omega arith) (omega arith)))))

later : (m : ℕ) (lines : List Line) (i : ℕ) → i ≤ length lines → From m lines i → list_all (departs_from m) (drop i lines) ≡ true
later m lines i h at =
    let long = length-drop i lines in
    all_from (departs_from m) (drop i lines) (λ k d lt.
    ap (departs_from m) (get_or-drop i lines k d)
    ∙ le-leb m (get_or lines (i + k) d).key.minute (ltb-false (get_or lines (i + k) d).key.minute m (at.1 (i + k) d (omega arith) (omega arith))))

-- they are the first ten
pub first_ten_is : (m : ℕ) (lines : List Line) (i : ℕ) → i ≤ length lines → From m lines i → take 10 (drop i lines) ≡ first_ten m lines
first_ten_is m lines i h at =
    sym (ap (take 10) (
    ap (filter (departs_from m)) (sym (take-append-drop i lines))
    ∙ filter-append (departs_from m) (take i lines) (drop i lines)
    ∙ ap (λ l. l ++ filter (departs_from m) (drop i lines)) (none_kept (departs_from m) (take i lines) (earlier m lines i h at))
    ∙ all_kept (departs_from m) (drop i lines) (later m lines i h at)))

shown_from : (m : ℕ) (lines : List Line) (i : ℕ) → i ≤ length lines → From m lines i → ShownFrom m lines (take 10 (drop i lines))
shown_from m lines i h at =
    let ys = drop i lines in
    record {
      before = take i lines;
      rest = drop 10 ys;
      are =
          sym (take-append-drop i lines)
          ∙ ap (λ l. take i lines ++ l) (sym (take-append-drop 10 ys))
          ∙ sym (append_assoc (take i lines) (take 10 ys) (drop 10 ys));
      earlier = earlier m lines i h at;
      later = (and_parts (list_all (departs_from m) (take 10 ys)) (list_all (departs_from m) (drop 10 ys)) (
          sym (list_all-append (departs_from m) (take 10 ys) (drop 10 ys)) ∙ ap (list_all (departs_from m)) (take-append-drop 10 ys) ∙ later m lines i h at)).0;
      at_most = omega (arith, length-take 10 ys);
      whole = elim (cases_lt (length ys) 11) [ inl few ↦ inl (drop_all 10 ys (omega arith)) | inr many ↦ inr (length-take-le 10 ys (omega arith)) ];
    }

-- there is such a place in lines whose minutes do not fall
record Place (m : ℕ) (lines : List Line) : Type 0 where
  place : ℕ
  within : place ≤ length lines
  at : From m lines place

place_of : (m : ℕ) (lines : List Line) → IsNonDecreasingBy (λ l. l.key.minute) lines → Place m lines
place_of m [] rise = record { place = 0; within = omega arith; at = (λ k d p q. absurd (let z : ⊥ = omega arith in z), λ k d p q. absurd (let z : ⊥ = omega arith in z)) }
place_of m (l ∷ ls) rise = elim (cases_lt l.key.minute m) [
  | inl h ↦
      let rest = place_of m ls (λ i j d p q. rise (suc i) (suc j) d (omega arith) (omega arith)) in
      record { place = suc rest.place; within = let w = rest.within in omega arith; at = (before h rest, behind rest) }
  | inr h ↦ record {
    place = 0;
    within = omega arith;
    at = (λ k d p q. absurd (let z : ⊥ = omega arith in z), λ k d p q. le-ltb (get_or (l ∷ ls) k d).key.minute m (let r = rise 0 k d (omega arith) q in omega arith));
  }
]
  where
    before : l.key.minute < m → (rest : Place m ls) → (k : ℕ) (d : Line) → 0 ≤ k → k < suc rest.place → ltb (get_or (l ∷ ls) k d).key.minute m ≡ true
    before h rest zero d p q = lt-ltb l.key.minute m h
    before h rest (suc k) d p q = rest.at.0 k d (omega arith) (omega arith)

    behind : (rest : Place m ls) → (k : ℕ) (d : Line) → suc rest.place ≤ k → k < length (l ∷ ls) → ltb (get_or (l ∷ ls) k d).key.minute m ≡ false
    behind rest zero d p q = absurd (let z : ⊥ = omega arith in z)
    behind rest (suc k) d p q = rest.at.1 k d (omega arith) (omega arith)

-- so the first ten of lines in order are those that are shown
pub first_ten_shown : (m : ℕ) (lines : List Line) → ascending line_before line_key lines ≡ true → ShownFrom m lines (first_ten m lines)
first_ten_shown m lines a =
    let p = place_of m lines (minutes_rise lines a) in
    subst (ShownFrom m lines) (first_ten_is m lines p.place p.within p.at) (shown_from m lines p.place p.within p.at)

-- the cut that the code makes
pub cut : (lines : List Line) (i k : ℕ) → k ≡ min (length (take (length lines - i) (drop i lines))) 10 → take k (take (length lines - i) (drop i lines)) ≡ take 10 (drop i lines)
cut lines i k e =
    let same = take_rest lines i in
    let long = ap length same in
    let least : k ≡ min 10 (length (drop i lines)) = omega arith in
    ap (take k) same ∙ ap (λ n. take n (drop i lines)) least ∙ take_min 10 (drop i lines)
