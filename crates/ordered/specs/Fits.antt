-- The elements of a list over lent slots fit them.
use Rattle.std.proofs.Common.{◌≤◌, length, arith}
use Rattle.std.proofs.lemmas.List.{length-take-le}
use Rattle.ordered.specs.declared.slots.Slots.{Slots}
use Rattle.ordered.specs.Tables.{items, room}

pub items_fit : {E : Type 0} (s : Slots E) → length (items s) ≤ room s
items_fit s = let f = s.fits in let q = length-take-le s.len s.slots.now s.fits in omega arith
