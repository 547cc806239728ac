-- A walk over the trains of a map that fills in a board.
use Rattle.std.proofs.Common.{◌≡◌, ℕ, ◌+◌, ◌<◌, ◌≤◌, true, false, List, [], length, Some, None, Option, sym, refl, ap, ◌∙◌, ⊎_elim, arith}
use Rattle.std.proofs.lemmas.Option.{none-some}
use Rattle.std.proofs.lemmas.Bool.{both_ways, cases_lt, cases_order}
use Rattle.std.proofs.lemmas.Bool.Decides.{nat_tests}
use Rattle.maps.specs.Maps.{ascending, lookup, map_from, has_distinct_keys}
use Rattle.maps.proofs.Maps.{same_maps, ascending_gathered, lookup_gathered}
use Rattle.schedule.specs.declared.key.Key.{Key}
use Rattle.schedule.specs.declared.record.Record.{Record}
use Rattle.schedule.specs.Keys.{key_before}
use Rattle.schedule.specs.Records.{key_of}
use Rattle.timetable.specs.Timetables.{not_before, IsMap}
use Rattle.timetable.proofs.Nexts.{next, all_before, left, walk_falls}
use Rattle.running.specs.Running.{Holds}
use Rattle.running.specs.Walking.{first_of, IsFirst}
use Rattle.running.proofs.Trains.{own, first_there, left_all, still_next}
use Rattle.running.proofs.Walks.{held_has}
use Rattle.board.specs.declared.line.LineKey.{LineKey}
use Rattle.board.specs.declared.line.Line.{Line}
use Rattle.board.specs.Lines.{line_before, line_key, IsLine, BoardOf, BoardIsOne}
use Rattle.board.specs.Filling.{Fresh, Earlier, StartsTrain, UpTo, Trained, AllLines}
use Rattle.board.specs.LineOrders.{line_lawful}
use Rattle.board.proofs.Adds.{on_key}

before_train : (k : Key) (u : ℕ) → key_before k (first_of u) ≡ true → k.uid < u
before_train k u h = grind (arith, nat_tests)

not_before_train : (k : Key) (u : ℕ) → u ≤ k.uid → key_before k (first_of u) ≡ false
not_before_train k u h = grind (arith, nat_tests)

from_train : (k : Key) (u : ℕ) → key_before k (first_of u) ≡ false → u ≤ k.uid
from_train k u h = ⊎_elim (λ l. absurd (both_ways (key_before k (first_of u)) h (lower k (first_of u) l))) (λ l. l) (cases_lt k.uid u)
  where
    lower : (a b : Key) → a.uid < b.uid → key_before a b ≡ true
    lower a b l = grind (arith, nat_tests)

lower_uid : (a b : Key) → a.uid < b.uid → key_before a b ≡ true
lower_uid a b l = grind (arith, nat_tests)

line_held : (m : List Record) (station : List ℕ) (day : ℕ) (l : Line) → (i : IsLine m station day l) → Holds m i.schedule
line_held m station day l i = i.force.candidate.there

-- where a train begins, what was asked is the first key from it on
pub starts : (m : List Record) (u : ℕ) (o : Option Key) → IsMap m → o ≡ not_before m (first_of u) → StartsTrain m o
starts m u None is e = tt
starts m u (Some k) is e =
    let n = next m (first_of u) k is (sym e) in
    let r = from_train k u n.past in
    still_next (first_of u) (first_of k.uid) (λ q b. let l = before_train q u b in lower_uid q (first_of k.uid) (omega arith)) m k (sym e) (not_before_train k k.uid (omega arith))

-- a line of a train that is asked for from a number on is of the next key's train or of a later one
pub not_between : (m : List Record) (station : List ℕ) (day u : ℕ) (o : Option Key) → IsMap m → o ≡ not_before m (first_of u) → (l : Line) → IsLine m station day l → u ≤ l.key.uid → Earlier o l.key.uid → ⊥
not_between m station day u None is e l i a b =
    let t = i.force.candidate.train in
    let q = before_train (key_of i.schedule) u (all_before m (first_of u) is (sym e) (key_of i.schedule) (held_has m i.schedule (line_held m station day l i))) in
    omega arith
not_between m station day u (Some k) is e l i a b =
    let t = i.force.candidate.train in
    let n = next m (first_of u) k is (sym e) in
    both_ways (key_before (key_of i.schedule) k)
    (n.least (key_of i.schedule) (held_has m i.schedule (line_held m station day l i)) (not_before_train (key_of i.schedule) u (omega arith)))
    (lower_uid (key_of i.schedule) k (omega arith))

-- a train before the number is earlier than the next key's
earlier : (m : List Record) (u uid : ℕ) (o : Option Key) → IsMap m → o ≡ not_before m (first_of u) → uid < u → Earlier o uid
earlier m u uid None is e l = tt
earlier m u uid (Some k) is e l = let r = from_train k u (next m (first_of u) k is (sym e)).past in omega arith

pub start : (m : List Record) (station : List ℕ) (day : ℕ) (o : Option Key) → IsMap m → o ≡ not_before m (first_of 0) → UpTo m station day o []
start m station day o is e = record {
  only = λ l on. absurd (none-some l on);
  every = λ l i b. absurd (not_between m station day 0 o is e l i (omega arith) b);
  distinct = refl;
}

module _ (m : List Record) (station : List ℕ) (day : ℕ) (key : Key) (is : IsMap m) (xs : List Line) (w : UpTo m station day (Some key) xs) where
  pub fresh : Fresh xs key.uid
  fresh l o e = let b = (w.only l o).1 in omega arith

  pub more : (ys : List Line) (o : Option Key) → o ≡ not_before m (first_of (key.uid + 1)) → Trained m station day key.uid xs ys → UpTo m station day o ys
  more ys o asked t = record {
    only = λ l on. ⊎_elim
        (λ x. let h = w.only l x in (h.0, let b = h.1 in earlier m (key.uid + 1) l.key.uid o is asked (omega arith)))
        (λ h. (h.0, let e = h.1 in earlier m (key.uid + 1) l.key.uid o is asked (omega arith)))
        (t.only l on);
    every = λ l i b. ⊎_elim
        (λ (e : l.key.uid ≡ key.uid). t.every l i e)
        (λ d. ⊎_elim
        (λ (below : l.key.uid < key.uid). t.kept l (w.every l i below))
        (λ above. absurd (not_between m station day (key.uid + 1) o is asked l i (omega arith) b))
        d)
        (cases_order l.key.uid key.uid);
    distinct = t.distinct w.distinct;
  }

-- at the end all lines are there
pub whole : (m : List Record) (station : List ℕ) (day : ℕ) (ys : List Line) → UpTo m station day None ys → AllLines m station day ys
whole m station day ys w = record { only = λ l o. (w.only l o).0; every = λ l i. w.every l i tt; distinct = w.distinct }

-- all lines in the order of their keys are the board
pub board_of : (m : List Record) (station : List ℕ) (day : ℕ) (ys zs : List Line) → AllLines m station day ys → (has_distinct_keys line_before line_key ys ≡ true → zs ≡ map_from line_before line_key ys) → BoardOf m station day zs
board_of m station day ys zs all sorted =
    let e = sorted all.distinct in
    let look : (l : Line) → lookup line_before line_key zs (line_key l) ≡ lookup line_before line_key ys (line_key l)
    = λ l. ap (λ v. lookup line_before line_key v (line_key l)) e ∙ lookup_gathered line_before line_key line_lawful ys (line_key l) in
    record {
      ordered = ap (ascending line_before line_key) e ∙ ascending_gathered line_before line_key line_lawful ys;
      only = λ l o. all.only l (sym (look l) ∙ o);
      every = λ l i. look l ∙ all.every l i;
    }

-- the measure: how many keys are left
abbrev pub left_from : List Record → Option Key → ℕ
left_from m None = 0
left_from m (Some k) = left m k

pub left_from_all : (m : List Record) (o : Option Key) → left_from m o ≤ length m
left_from_all m None = omega arith
left_from_all m (Some k) = left_all m k

-- a train that begins has a key that is left
pub some_left : (m : List Record) (is : IsMap m) (key : Key) → IsFirst m key → 0 < left m key
some_left m is key f =
    let n = own m key (first_there m key is f) in
    let less = walk_falls m is key key n (first_of (key.uid + 1)) (lower_uid key (first_of (key.uid + 1)) (omega arith)) in
    omega arith

-- it falls from train to train
pub falls : (m : List Record) (is : IsMap m) (key : Key) (o : Option Key) → IsFirst m key → o ≡ not_before m (first_of (key.uid + 1)) → left_from m o < left m key
falls m is key None f e = some_left m is key f
falls m is key (Some k) f e =
    let r = from_train k (key.uid + 1) (next m (first_of (key.uid + 1)) k is (sym e)).past in
    walk_falls m is key key (own m key (first_there m key is f)) k (lower_uid key k (omega arith))

-- the rules of a board leave no choice of its lines
line_of : (xs : List Line) (k : LineKey) (P : Type 0) → ((l : Line) → lookup line_before line_key xs k ≡ Some l → P) → (lookup line_before line_key xs k ≡ None → P) → P
line_of xs k P some none = of (lookup line_before line_key xs k) refl
  where
    of : (o : Option Line) → lookup line_before line_key xs k ≡ o → P
    of (Some l) e = some l e
    of None e = none e

-- a line of one map's board is a line of the other's, under the same key
carried : (m n : List Record) (station : List ℕ) (day : ℕ) (xs ys : List Line) → BoardOf m station day xs → BoardOf n station day ys → (k : LineKey) → ((l : Line) → line_key l ≡ k → IsLine m station day l → IsLine n station day l) → (l : Line) → lookup line_before line_key xs k ≡ Some l → lookup line_before line_key ys k ≡ Some l
carried m n station day xs ys a b k over l h =
    let e = on_key xs k l h in
    ap (lookup line_before line_key ys) (sym e) ∙ b.every l (over l e (a.only l (ap (lookup line_before line_key xs) e ∙ h)))

-- boards of two maps that have the same lines under a key look the same there
pub same_look : (m n : List Record) (station : List ℕ) (day : ℕ) (xs ys : List Line) → BoardOf m station day xs → BoardOf n station day ys → (k : LineKey) → ((l : Line) → line_key l ≡ k → IsLine m station day l → IsLine n station day l) → ((l : Line) → line_key l ≡ k → IsLine n station day l → IsLine m station day l) → lookup line_before line_key xs k ≡ lookup line_before line_key ys k
same_look m n station day xs ys a b k over back =
    line_of xs k (lookup line_before line_key xs k ≡ lookup line_before line_key ys k)
    (λ l e. e ∙ sym (carried m n station day xs ys a b k over l e))
    (λ e. line_of ys k (lookup line_before line_key xs k ≡ lookup line_before line_key ys k)
    (λ l f. absurd (none-some l (sym e ∙ carried n m station day ys xs b a k back l f)))
    (λ f. e ∙ sym f))

pub board_one : BoardIsOne
board_one m station day xs ys a b =
    same_maps line_before line_key line_lawful xs ys a.ordered b.ordered
    (λ k. same_look m m station day xs ys a b k (λ l _ i. i) (λ l _ i. i))
