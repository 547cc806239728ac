-- Slots are their cells and their length, and a table is its slots: a fact in a ghost field has one proof.
use Rattle.std.proofs.Common.{◌≡◌, ◌≤◌, true, length}
use mathlib.Core.HLevel.{is_prop→PathP}
use denote.Struct.Props.{props}
use Rattle.maps.specs.Maps.{ascending}
use Rattle.ordered.specs.declared.ordered.Ordered.{Ordered}
use Rattle.ordered.specs.declared.slots.Slots.{Slots}
use Rattle.ordered.specs.Tables.{items}

pub same_slots : {E : Type 0} (s t : Slots E) → s.slots ≡ t.slots → s.len ≡ t.len → s ≡ t
same_slots s t p q = λ i. record {
  slots = p i;
  len = q i;
  fits = is_prop→PathP (λ j. q j ≤ length (p j).now) (λ j. hlevel props) s.fits t.fits i;
}

pub same_ordered : {E K : Type 0} {M : _} {N : _} (s t : Ordered E K M N) → s.elements ≡ t.elements → s ≡ t
same_ordered {M = M} {N = N} s t p = λ i. record {
  elements = p i;
  rising = is_prop→PathP (λ j. ascending N.before M.keyed (items (p j)) ≡ true) (λ j. hlevel props) s.rising t.rising i;
}
