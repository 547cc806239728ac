-- A finite map as the list of its elements, whose keys rise strictly. Two maps with the same look-ups are the same list.
use Rattle.std.specs.Prelude.{Bool, true, if◌then◌else◌, not, ◌&&◌, List, [], ◌∷◌, is_some, Some, None, Option}
use Rattle.maps.specs.Orders.{same}

module _ {E K : Type 0} (before : K → K → Bool) (key : E → K) where
  -- every key is after k
  abbrev pub after : K → List E → Bool
  after k [] = true
  after k (y ∷ ys) = before k (key y) && after k ys

  -- the keys rise strictly
  abbrev pub ascending : List E → Bool
  ascending [] = true
  ascending (y ∷ ys) = after (key y) ys && ascending ys

  -- the first element with the key k
  abbrev pub lookup : List E → K → Option E
  lookup [] k = None
  lookup (y ∷ ys) k = if same before (key y) k then Some y else lookup ys k

  -- the map with the element x, in place of one of its key if there is one
  abbrev pub with_element : List E → E → List E
  with_element [] x = x ∷ []
  with_element (y ∷ ys) x =
      if before (key y) (key x) then y ∷ with_element ys x
      else (if before (key x) (key y) then x ∷ y ∷ ys else x ∷ ys)

  -- the map with no element of the key k
  abbrev pub without_element : List E → K → List E
  without_element [] k = []
  without_element (y ∷ ys) k =
      if before (key y) k then y ∷ without_element ys k
      else (if before k (key y) then y ∷ ys else ys)

  -- the first key that is not before k
  abbrev pub ceiling : List E → K → Option K
  ceiling [] k = None
  ceiling (y ∷ ys) k = if before (key y) k then ceiling ys k else Some (key y)

  -- the map of elements in any order, where the first of a key counts
  abbrev pub map_from : List E → List E
  map_from [] = []
  map_from (x ∷ xs) = with_element (map_from xs) x

  -- no two elements have one key
  abbrev pub has_distinct_keys : List E → Bool
  has_distinct_keys [] = true
  has_distinct_keys (x ∷ xs) = not (is_some (lookup xs (key x))) && has_distinct_keys xs

-- the lower of a key and another, if there is one
abbrev pub lower : {K : Type 0} → (K → K → Bool) → K → Option K → Option K
lower before a None = Some a
lower before a (Some b) = if before b a then Some b else Some a
