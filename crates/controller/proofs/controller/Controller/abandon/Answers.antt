use Rattle.std.proofs.Common.{rules, ◌≡◌, [], true, is_ok, Ok, sym, refl, ap, ◌∙◌}
use Rattle.std.proofs.lemmas.Bool.{true≢false}
use Rattle.cif.specs.Refusals.{fault_of}
use Rattle.overlay.specs.Overlays.{pending_in}
use Rattle.extract.specs.Progress.{idle}
use Rattle.extract.specs.Standings.{progress_with, standing}
use Rattle.controller.specs.declared.fault.ExtractFault.{ExtractFault}
use Rattle.controller.specs.Calls.{Abandon, refusal_of}
use Rattle.controller.specs.Keeping.{State, state, state_in}
use Rattle.controller.proofs.Called.{idle_agrees, no_row_ok, at_ok}
use Rattle.controller.proofs.Kept.{obeys_done, keeps_extract}
use Rattle.controller.proofs.controller.Controller.abandon.Goals as goal

pub returns-clause-obeys : goal.returns-clause-obeys
returns-clause-obeys g c b =
    let before = state_in g.S.Timetable.meaning c.args.self.now b in
    let after : State = state (standing g.S.Timetable.meaning c.abandon.new.self (record { store = c.args.self.now.overlay.store; pending = c.clear.new.self }) c.args.self.now.reference) c.args.self.now.tally b in
    let told : fault_of {E = ExtractFault} (Ok (tt {0})) ≡ refusal_of Abandon before.standing before.slots = search rules in
    let done : is_ok c.abandon.result ≡ true = sym (no_row_ok c.abandon.result c.without_row.result c.without_row.ensures) ∙ ap is_ok c.in_ok-without_row.was in
    let fresh : progress_with c.abandon.new.self (pending_in c.clear.new.self) ≡ idle = ap (progress_with c.abandon.new.self) c.clear.ensures ∙ at_ok _ c.abandon.result c.abandon.ensures.dropped done in
    obeys_done before after Abandon (Ok (tt {0})) told (λ ℓ h. h)
    (λ ok ℓ k. (
      keeps_extract before after ℓ k [] (record { store = refl; reference = refl; tally = refl; shown = refl; lines = refl })
          (idle_agrees (g.S.Timetable.meaning c.args.self.now.overlay.store) _ fresh k.extract.is_map k.extract.within),
      λ e. absurd (true≢false (sym e)),
    ))
    (λ no. absurd (true≢false no)) refl refl
