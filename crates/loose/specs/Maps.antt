-- The map that elements in any order make up: in the order of its keys, and as long as they are.
use Rattle.std.proofs.Common.{◌≡◌, ◌≤◌, Bool, true, false, List, length, ◌∙◌, arith}
use Rattle.std.proofs.lemmas.List.{length-take-le}
use Rattle.maps.specs.Orders.{Lawful}
use Rattle.maps.specs.Maps.{ascending, has_distinct_keys, map_from}
use Rattle.maps.proofs.Maps.{ascending_gathered}
use Rattle.maps.proofs.Heaped.{length_gathered}
use Rattle.ordered.specs.declared.slots.Slots.{Slots}
use Rattle.ordered.specs.Tables.{items, room}

module _ {E K : Type 0} (before : K → K → Bool) (key : E → K) (irreflexive : (x : K) → before x x ≡ false)
    (transitive : (x y z : K) → before x y ≡ true → before y z ≡ true → before x z ≡ true)
    (total : (x y : K) → before x y ≡ false → before y x ≡ false → x ≡ y) where
  lawful : Lawful before
  lawful = record { irreflexive = irreflexive; transitive = transitive; total = total }

  pub map_rises : (xs : List E) → ascending before key (map_from before key xs) ≡ true
  map_rises xs = ascending_gathered before key lawful xs

  pub map_fits : (s : Slots E) → has_distinct_keys before key (items s) ≡ true → length (map_from before key (items s)) ≤ room s
  map_fits s a =
      let f = s.fits in
      let long = length_gathered before key lawful (items s) a ∙ length-take-le s.len s.slots.now s.fits in
      omega arith
