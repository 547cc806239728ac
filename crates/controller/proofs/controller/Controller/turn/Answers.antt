use Rattle.std.proofs.Common.{rules, ◌≡◌, sym, refl, ap, ◌∙◌}
use Rattle.std.proofs.lemmas.Bool.{true≢false}
use Rattle.cif.specs.Refusals.{fault_of}
use Rattle.extract.specs.Judging.{Standing}
use Rattle.extract.specs.Standings.{standing}
use Rattle.controller.specs.Calls.{Turn, refusal_of}
use Rattle.controller.specs.Keeping.{State, state, state_in}
use Rattle.controller.proofs.Called.{no_row_ok, at_ok, at_err}
use Rattle.controller.proofs.Kept.{obeys_done, keeps_shown}
use Rattle.controller.proofs.controller.Controller.turn.Goals as goal

pub returns-clause-obeys : goal.returns-clause-obeys
returns-clause-obeys g c =
    let self = c.args.self.now in
    let judged : g.row.S.Denot → Standing = λ v. standing g.S.Timetable.meaning self.extract (record { store = v; pending = self.overlay.pending }) self.reference in
    let before = state_in g.S.Timetable.meaning self c.args.board.now in
    let after : State = state (judged c.turn.new.store) self.tally c.turn.new.self in
    let out = c.without_row.result in
    let same = no_row_ok c.turn.result out c.without_row.ensures in
    let told : fault_of out ≡ refusal_of (Turn c.args.station.now c.args.day) before.standing before.slots = search rules in
    let kept : after.standing ≡ before.standing = ap judged c.turn.ensures.same in
    obeys_done before after (Turn c.args.station.now c.args.day) out told (λ ℓ h. h)
    (λ ok ℓ k. (keeps_shown before after ℓ k c.args.station.now c.args.day kept refl (at_ok _ c.turn.result c.turn.ensures.set (sym same ∙ ok)) (at_ok _ c.turn.result c.turn.ensures.board (sym same ∙ ok)), λ e. absurd (true≢false (sym e))))
    (λ no. ap (λ s. state s self.tally c.turn.new.self) kept ∙ ap (state before.standing self.tally) (at_err _ c.turn.result c.turn.ensures.unchanged (sym same ∙ no)))
    (ap (λ v. (g.S.Timetable.meaning v).capacity) c.turn.ensures.same) c.turn.ensures.slots.slots
