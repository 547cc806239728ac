-- Where a search by halves ends.
use Rattle.std.specs.Prelude.{ℕ, Bool, List}
use Rattle.maps.specs.Places.{AllBelow, NoneBelow}

-- of the first n elements, those before the place r have keys before k, and those from r on have none
pub record IsLowerBound {E K : Type 0} (before : K → K → Bool) (key : E → K) (xs : List E) (n : ℕ) (k : K) (r : ℕ) : Type 0 where
  pub under : AllBelow before key xs k r
  pub over : NoneBelow before key xs k r n
