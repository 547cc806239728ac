-- A table is its slots: the fact in its ghost field has one proof.
use Rattle.std.proofs.Common.{◌≡◌, true}
use mathlib.Core.HLevel.{is_prop→PathP}
use denote.Struct.Props.{props}
use Rattle.maps.specs.Maps.{has_distinct_keys}
use Rattle.ordered.specs.Tables.{items}
use Rattle.loose.specs.declared.loose.Loose.{Loose}

pub same_loose : {E K : Type 0} {M : _} {N : _} (s t : Loose E K M N) → s.elements ≡ t.elements → s ≡ t
same_loose {M = M} {N = N} s t p = λ i. record {
  elements = p i;
  distinct = is_prop→PathP (λ j. has_distinct_keys N.before M.keyed (items (p j)) ≡ true) (λ j. hlevel props) s.distinct t.distinct i;
}
