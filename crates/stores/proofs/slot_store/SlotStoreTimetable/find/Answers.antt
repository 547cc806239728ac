use Rattle.std.proofs.Common.{is_some, unwrap_or, ap, ◌∙◌}
use Rattle.std.proofs.lemmas.Bool.{OnTrue_at}
use Rattle.timetable.proofs.Valid.{found_valid}
use Rattle.stores.proofs.Whole.{same_store}
use Rattle.stores.proofs.slot_store.SlotStoreTimetable.find.Goals as goal

pub returns-in-Some-clause-found : goal.returns-in-Some-clause-found
returns-in-Some-clause-found g c = c.set.ensures.told ∙ found_valid _ c.args.key c.in-Some.fields c.args.self.now.valid c.in-Some.ensures.value ∙ ap is_some c.in-Some.ensures.value

pub returns-in-Some-clause-copied : goal.returns-in-Some-clause-copied
returns-in-Some-clause-copied g c =
    OnTrue_at (c.set.ensures.told ∙ found_valid _ c.args.key c.in-Some.fields c.args.self.now.valid c.in-Some.ensures.value) c.set.ensures.set
    ∙ ap (λ o. unwrap_or o c.args.place.now.fields) c.in-Some.ensures.value

pub returns-in-Some-clause-same : goal.returns-in-Some-clause-same
returns-in-Some-clause-same g c = same_store _ _ c.in-Some.ensures.same

pub returns-in-None-clause-same : goal.returns-in-None-clause-same
returns-in-None-clause-same g c = same_store _ _ c.in-None.ensures.same
