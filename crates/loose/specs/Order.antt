-- The order in which a table in no order of keys has its elements: what a put and a removal make of it.
use Rattle.std.specs.Prelude.{Bool, if◌then◌else◌, List, [], ◌∷◌, length, take, slice_index_or}
use Rattle.maps.specs.Orders.{same}

-- the last element stands first, and the others follow as they stood
abbrev pub last_first : {E : Type 0} → List E → List E
last_first [] = []
last_first (y ∷ ys) = slice_index_or (y ∷ ys) (length ys) y ∷ take (length ys) (y ∷ ys)

module _ {E K : Type 0} (before : K → K → Bool) (key : E → K) where
  -- an element that is put stands in the place of the one of its key, or else after the others
  abbrev pub in_place_or_last : List E → E → List E
  in_place_or_last [] x = x ∷ []
  in_place_or_last (y ∷ ys) x = if same before (key y) (key x) then x ∷ ys else y ∷ in_place_or_last ys x

  -- the last element takes the place of the one of the key that is removed, and every other one keeps its place
  abbrev pub last_in_its_place : List E → K → List E
  last_in_its_place [] k = []
  last_in_its_place (y ∷ ys) k = if same before (key y) k then last_first ys else y ∷ last_in_its_place ys k
