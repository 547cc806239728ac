use Rattle.std.proofs.Common.{rules, arith, ◌≡◌, ◌+◌, true, min, length, is_ok, Ok, sym, ap, subst, ◌∙◌}
use Rattle.std.proofs.lemmas.Bool.{true≢false}
use Rattle.cif.specs.Refusals.{fault_of}
use Rattle.timetable.specs.Timetables.{Meaning, IsWithinCapacity}
use Rattle.overlay.specs.Overlays.{pending_in}
use Rattle.overlay.specs.Settling.{after_tries}
use Rattle.overlay.proofs.Settled.{tries_capacity}
use Rattle.extract.specs.Progress.{idle}
use Rattle.extract.specs.Standings.{standing}
use Rattle.board.specs.Boards.{slots_of}
use Rattle.board.specs.Lines.{LinesFor}
use Rattle.controller.specs.declared.fault.ExtractFault.{ExtractFault}
use Rattle.controller.specs.Calls.{Confirm, refusal_of}
use Rattle.controller.specs.Shown.{store_of}
use Rattle.controller.specs.Keeping.{State, state, state_in}
use Rattle.controller.proofs.Called.{at_ok}
use Rattle.controller.proofs.Kept.{does_all, obeys_done, keeps_confirmed, keeps_unnamed}
use Rattle.controller.proofs.controller.Controller.confirm.Goals as goal

pub follow-requires : goal.follow-requires
follow-requires g c =
    let meaning = g.S.Timetable.meaning in
    let before = c.args.self.now in
    let asked = c.may_confirm.new.self in
    let after = c.settle.new.self in
    let ok : is_ok c.may_confirm.result ≡ true = search rules in
    let enough = at_ok _ c.may_confirm.result c.may_confirm.ensures.enough ok in
    let within = at_ok _ c.may_confirm.result c.may_confirm.ensures.within ok in
    let same : asked ≡ before = c.may_confirm.ensures.same.0 in
    let settled : IsWithinCapacity (meaning after.store) = c.settle.ensures.within (subst (λ self. IsWithinCapacity (meaning (store_of self))) (sym same) within) in
    let capacity : (meaning after.store).capacity ≡ (meaning (store_of before)).capacity = ap (λ (t : Meaning). t.capacity) c.settle.ensures.store ∙ tries_capacity (meaning (store_of asked)) (pending_in asked.overlay.pending) ∙ ap (λ self. (meaning (store_of self)).capacity) same in
    let slots : slots_of c.may_confirm.new.board ≡ slots_of c.args.board.now = ap slots_of c.may_confirm.ensures.same.1 in
    record { enough = omega (arith, enough, settled, capacity, slots) }

pub returns-clause-lines : goal.returns-clause-lines
returns-clause-lines g c = search rules

pub returns-clause-all_done : goal.returns-clause-all_done
returns-clause-all_done g c = does_all (state_in g.S.Timetable.meaning c.args.self.now c.args.board.now) (g.S.Timetable.meaning c.follow.new.timetable) (search rules)

pub returns-clause-obeys : goal.returns-clause-obeys
returns-clause-obeys g c =
    let before = state_in g.S.Timetable.meaning c.args.self.now c.args.board.now in
    let after : State = state (standing g.S.Timetable.meaning c.new-self.result (record { store = c.follow.new.timetable; pending = c.settle.new.self.pending }) c.current-self.result) c.saturating_add-self.result c.follow.new.self in
    let told : fault_of {E = ExtractFault} (Ok (tt {0})) ≡ refusal_of Confirm before.standing before.slots = search rules in
    let store : after.standing.store ≡ after_tries before.standing.store before.standing.extract.changes = search rules in
    let capacity : after.standing.store.capacity ≡ before.standing.store.capacity = ap (λ (t : Meaning). t.capacity) store ∙ tries_capacity before.standing.store before.standing.extract.changes in
    let reference : after.standing.reference ≡ before.standing.extract.current = search rules in
    let tally : after.tally ≡ min (before.tally + length before.standing.extract.changes) 4294967295 = search rules in
    let idles : after.standing.extract ≡ idle = search rules in
    let shown : after.shown ≡ before.shown = search rules in
    let slots : after.slots ≡ before.slots = search rules in
    let lines : LinesFor after.standing.store.map before.shown after.lines = returns-clause-lines g c in
    obeys_done before after Confirm (Ok (tt {0})) told (λ ℓ h. h)
    (λ ok ℓ k. (keeps_confirmed before after ℓ k store reference tally idles shown lines, λ e. keeps_unnamed before after ℓ k store reference tally idles shown lines))
    (λ no. absurd (true≢false no)) capacity slots
