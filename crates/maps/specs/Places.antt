-- Where an element of a key stands in a list, or would stand.
use Rattle.std.specs.Prelude.{◌≡◌, ℕ, ◌<◌, ◌≤◌, Bool, true, false, List, length, slice_index_or}
use Rattle.maps.specs.Orders.{same}

module _ {E K : Type 0} (before : K → K → Bool) (key : E → K) where
  -- the keys of the first n elements rise
  abbrev pub Ascends : List E → ℕ → Type 0
  Ascends xs n = (i j : ℕ) (d : E) → i < j → j < n → before (key (slice_index_or xs i d)) (key (slice_index_or xs j d)) ≡ true

  -- every element before the place r has a key before k
  abbrev pub AllBelow : List E → K → ℕ → Type 0
  AllBelow xs k r = (i : ℕ) (d : E) → i < r → before (key (slice_index_or xs i d)) k ≡ true

  -- no element from the place r to n has a key before k
  abbrev pub NoneBelow : List E → K → ℕ → ℕ → Type 0
  NoneBelow xs k r n = (i : ℕ) (d : E) → r ≤ i → i < n → before (key (slice_index_or xs i d)) k ≡ false

  -- every one of the first n elements has another key than k
  abbrev pub NoneOfKey : List E → K → ℕ → Type 0
  NoneOfKey xs k n = (j : ℕ) (d : E) → j < n → same before (key (slice_index_or xs j d)) k ≡ false

-- the element of the key k stands at the place i, after lower keys
pub record StandsAt {E K : Type 0} (before : K → K → Bool) (key : E → K) (xs : List E) (k : K) (i : ℕ) : Type 0 where
  pub within : i < length xs
  pub under : AllBelow before key xs k i
  pub is : (d : E) → key (slice_index_or xs i d) ≡ k

-- there is no element of the key k, and its place would be i
pub record BelongsAt {E K : Type 0} (before : K → K → Bool) (key : E → K) (xs : List E) (k : K) (i : ℕ) : Type 0 where
  pub within : i ≤ length xs
  pub under : AllBelow before key xs k i
  pub past : (d : E) → i < length xs → before k (key (slice_index_or xs i d)) ≡ true

-- the first element of the key k stands at the place i, among elements in any order
pub record StandsFirstAt {E K : Type 0} (before : K → K → Bool) (key : E → K) (xs : List E) (k : K) (i : ℕ) : Type 0 where
  pub within : i < length xs
  pub passed : NoneOfKey before key xs k i
  pub is : (d : E) → key (slice_index_or xs i d) ≡ k
