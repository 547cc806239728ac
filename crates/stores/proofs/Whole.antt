-- A store is its table: the facts in its ghost fields have one proof each.
use Rattle.std.proofs.Common.{◌≡◌, ◌≤◌, true}
use mathlib.Core.HLevel.{is_prop→PathP}
use denote.Struct.Props.{props}
use Rattle.ordered.specs.Tables.{room}
use Rattle.schedule.specs.Records.{every_schedule}
use Rattle.stores.specs.declared.slot_store.SlotStore.{SlotStore}

pub same_store : {T : Type 0} {M : _} (s t : SlotStore T M) → s.table ≡ t.table → s ≡ t
same_store {M = M} s t e = λ i. record {
  table = e i;
  small = is_prop→PathP (λ j. room (M.slots (e j)) ≤ 65535) (λ j. hlevel props) s.small t.small i;
  valid = is_prop→PathP (λ j. every_schedule (M.map (e j)) ≡ true) (λ j. hlevel props) s.valid t.valid i;
}
