-- Total orders of keys.
use Rattle.std.specs.Prelude.{◌≡◌, Bool, true, false, not, ◌&&◌}

-- no key is before itself, what is before a key is before all that come after it, and of two different keys one is before the other
pub record Lawful {K : Type 0} (before : K → K → Bool) : Type 0 where
  pub irreflexive : (x : K) → before x x ≡ false
  pub transitive : (x y z : K) → before x y ≡ true → before y z ≡ true → before x z ≡ true
  pub total : (x y : K) → before x y ≡ false → before y x ≡ false → x ≡ y

-- two keys are one
abbrev pub same : {K : Type 0} → (K → K → Bool) → K → K → Bool
same before a b = not (before a b) && not (before b a)
