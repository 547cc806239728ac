use Rattle.std.proofs.Common.{arith}
use Rattle.std.proofs.lemmas.Result.{on_err_weaker}
use Rattle.timetable.proofs.Valid.{put_valid, put_equal}
use Rattle.stores.proofs.Whole.{same_store}
use Rattle.stores.proofs.slot_store.SlotStoreStore.put.Goals as goal

pub invariant_of-self : goal.invariant_of-self
invariant_of-self g c =
    let same_slots = c.put.ensures.rest.slots in
    let small = c.args.self.now.small in
    record {
      small = omega arith;
      valid = put_valid _ _ _ _ _ (put_equal _ _ _ _ _ _ c.into.ensures c.put.ensures.put) c.args.self.now.valid c.args.schedule.valid;
    }

pub returns-clause-unchanged : goal.returns-clause-unchanged
returns-clause-unchanged g c = on_err_weaker c.put.result (λ e. same_store _ _ e) c.put.ensures.unchanged
