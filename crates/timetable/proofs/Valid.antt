-- What every record of a map passes, it goes on passing.
use Rattle.std.proofs.Common.{◌≡◌, ℕ, Bool, true, false, cond, List, [], ◌∷◌, Some, Option, refl, ap, ◌∙◌, subst, arith}
use Rattle.std.proofs.lemmas.Bool.{and_parts, and_from, cond_both}
use Rattle.std.specs.List.{list_all}
use Rattle.maps.specs.Orders.{Lawful, same}
use Rattle.ordered.specs.Tables.{Put, Removed}
use Rattle.schedule.specs.declared.key.Key.{Key}
use Rattle.schedule.specs.declared.record.Record.{Record}
use Rattle.schedule.specs.Keys.{key_before}
use Rattle.schedule.specs.Records.{key_of, is_schedule, every_schedule}
use Rattle.schedule.specs.Orders.{key_irreflexive, key_transitive, key_total}
use Rattle.timetable.specs.Timetables.{schedule_of, with_schedule, without_key}

-- the order of keys is a total order
pub key_lawful : Lawful key_before
key_lawful = record { irreflexive = key_irreflexive; transitive = key_transitive; total = key_total }

-- what every record of a map passes
module _ (test : Record → Bool) where
  -- a record that is found passes it
  pub found_passes : (m : List Record) (k : Key) (r : Record) → list_all test m ≡ true → Some r ≡ schedule_of m k → test r ≡ true
  found_passes [] k r v h = let z : ◌≡◌ {A = ℕ} 0 1 = cc in absurd (omega arith)
  found_passes (y ∷ ys) k r v h =
      let parts = and_parts (test y) (list_all test ys) v in
      cond_both (same key_before (key_of y) k) (Some y) (schedule_of ys k) (λ (o : Option Record). Some r ≡ o → test r ≡ true)
      (λ _ e. let here : r ≡ y = cc in ap test here ∙ parts.0)
      (λ _ e. found_passes ys k r parts.1 e)
      h

  -- a map with one record more that passes it
  pub passes_with : (m : List Record) (x : Record) → list_all test m ≡ true → test x ≡ true → list_all test (with_schedule m x) ≡ true
  passes_with [] x v w = and_from (test x) true w refl
  passes_with (y ∷ ys) x v w =
      let parts = and_parts (test y) (list_all test ys) v in
      cond_both (key_before (key_of y) (key_of x)) _ _ (λ (rs : List Record). list_all test rs ≡ true)
      (λ _. and_from (test y) _ parts.0 (passes_with ys x parts.1 w))
      (λ _. cond_both (key_before (key_of x) (key_of y)) _ _ (λ (rs : List Record). list_all test rs ≡ true)
      (λ _. and_from (test x) _ w v)
      (λ _. and_from (test x) _ w parts.1))

  -- and with one key less
  pub passes_without : (m : List Record) (k : Key) → list_all test m ≡ true → list_all test (without_key m k) ≡ true
  passes_without [] k v = refl
  passes_without (y ∷ ys) k v =
      let parts = and_parts (test y) (list_all test ys) v in
      cond_both (key_before (key_of y) k) _ _ (λ (rs : List Record). list_all test rs ≡ true)
      (λ _. and_from (test y) _ parts.0 (passes_without ys k parts.1))
      (λ _. cond_both (key_before k (key_of y)) _ _ (λ (rs : List Record). list_all test rs ≡ true) (λ _. v) (λ _. parts.1))

-- so maps of schedules stay maps of schedules
pub found_valid : (m : List Record) (k : Key) (r : Record) → every_schedule m ≡ true → Some r ≡ schedule_of m k → is_schedule r ≡ true
found_valid = found_passes is_schedule

pub valid_with : (m : List Record) (x : Record) → every_schedule m ≡ true → is_schedule x ≡ true → every_schedule (with_schedule m x) ≡ true
valid_with = passes_with is_schedule

pub valid_without : (m : List Record) (k : Key) → every_schedule m ≡ true → every_schedule (without_key m k) ≡ true
valid_without = passes_without is_schedule

-- so does what a table does with a schedule that is put, or a key that is removed
pub put_valid : (m n : List Record) (c : ℕ) (x : Record) (r : Bool) → Put key_before key_of m n c x r → every_schedule m ≡ true → is_schedule x ≡ true → every_schedule n ≡ true
put_valid m n c x r h v w = ap every_schedule h.gives ∙ either r
  where
    either : (b : Bool) → every_schedule (cond b (with_schedule m x) m) ≡ true
    either true = valid_with m x v w
    either false = v

pub removed_valid : (m n : List Record) (k : Key) (r : Bool) → Removed key_before key_of m n k r → every_schedule m ≡ true → every_schedule n ≡ true
removed_valid m n k r h v = ap every_schedule h.gives ∙ valid_without m k v

-- an equal schedule is put alike
pub put_equal : (m n : List Record) (c : ℕ) (x y : Record) (r : Bool) → x ≡ y → Put key_before key_of m n c x r → Put key_before key_of m n c y r
put_equal m n c x y r e h = subst (λ (z : Record). Put key_before key_of m n c z r) e h
