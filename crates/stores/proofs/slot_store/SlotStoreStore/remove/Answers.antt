use Rattle.std.proofs.Common.{arith}
use Rattle.std.proofs.lemmas.Bool.{OnFalse_at, OnFalse_from}
use Rattle.timetable.proofs.Valid.{removed_valid}
use Rattle.stores.proofs.Whole.{same_store}
use Rattle.stores.proofs.slot_store.SlotStoreStore.remove.Goals as goal

pub invariant_of-self : goal.invariant_of-self
invariant_of-self g c =
    let same_slots = c.remove.ensures.rest.slots in
    let small = c.args.self.now.small in
    record {
      small = omega arith;
      valid = removed_valid _ _ _ _ c.remove.ensures.removed c.args.self.now.valid;
    }

pub returns-clause-unchanged : goal.returns-clause-unchanged
returns-clause-unchanged g c = OnFalse_from c.remove.result _ (λ h. same_store _ _ (OnFalse_at h c.remove.ensures.unchanged))
