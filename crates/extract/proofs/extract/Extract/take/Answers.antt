use Rattle.std.proofs.Common.{rules, false, Ok, length, sym, refl, ap, ◌∙◌}
use Rattle.std.proofs.lemmas.Bool.{ltb-true}
use Rattle.cif.specs.declared.content.Content.TheVariants.{Operator as OfOperator, Origin as OfOrigin, Intermediate as OfIntermediate, Terminus as OfTerminus, Unread}
use Rattle.cif.specs.declared.identity.Identity.TheVariants.{BasicExtra, Origin, Intermediate, Terminus, ChangeEnRoute, TiplocInsert, TiplocAmend, TiplocDelete, Association}
use Rattle.cif.specs.Refusals.{then}
use Rattle.overlay.specs.Overlays.{pending_in}
use Rattle.extract.specs.declared.stage.Stage.TheVariants.{Between, Begun, Extra, Running, Changed}
use Rattle.extract.specs.Stages.{next_stage, has_room}
use Rattle.extract.specs.Standings.{standing}
use Rattle.extract.proofs.Ranges.{schedule_range}
use Rattle.extract.proofs.Taken.{in_place, told_by}
use Rattle.extract.proofs.extract.Extract.take.Goals as goal

pub take_schedule-requires : goal.take_schedule-requires
take_schedule-requires g c = record { stage = c.in-Between-BasicSchedule.is-0; range = schedule_range c.args.row.now.bytes c.in_ok-schedule-in-Between-BasicSchedule.schedule (sym c.in_ok-schedule-in-Between-BasicSchedule.ensures) }

pub take_terminus-requires : goal.take_terminus-requires
take_terminus-requires g c =
    let n = length (pending_in c.args.overlay.now.pending) in
    record { stage = c.in-Running-Terminus.is-0; room = ltb-true n 32 (sym (ap (λ x. has_room x n) c.in-Running-Terminus.is-0) ∙ c.requires) }

pub returns-in-Between-TiplocInsert-clause-told : goal.returns-in-Between-TiplocInsert-clause-told
returns-in-Between-TiplocInsert-clause-told g c r =
    let s = standing g.S.Timetable.meaning c.args.self.now c.args.overlay.now r in
    told_by _ _ _ c.pass.result (in_place s c.args.row.now.identity TiplocInsert c.args.row.now.bytes Between (Unread TiplocInsert) c.in-Between-TiplocInsert.is-0 (sym c.in-Between-TiplocInsert.ensures) refl refl) (c.pass.ensures.told s TiplocInsert refl (ap (λ x. next_stage x TiplocInsert false) c.in-Between-TiplocInsert.is-0, refl))

pub returns-in-Between-TiplocAmend-clause-told : goal.returns-in-Between-TiplocAmend-clause-told
returns-in-Between-TiplocAmend-clause-told g c r =
    let s = standing g.S.Timetable.meaning c.args.self.now c.args.overlay.now r in
    told_by _ _ _ c.pass-in-Between-TiplocAmend.result (in_place s c.args.row.now.identity TiplocAmend c.args.row.now.bytes Between (Unread TiplocAmend) c.in-Between-TiplocAmend.is-0 (sym c.in-Between-TiplocAmend.ensures) refl refl) (c.pass-in-Between-TiplocAmend.ensures.told s TiplocAmend refl (ap (λ x. next_stage x TiplocAmend false) c.in-Between-TiplocAmend.is-0, refl))

pub returns-in-Between-TiplocDelete-clause-told : goal.returns-in-Between-TiplocDelete-clause-told
returns-in-Between-TiplocDelete-clause-told g c r =
    let s = standing g.S.Timetable.meaning c.args.self.now c.args.overlay.now r in
    told_by _ _ _ c.pass-in-Between-TiplocDelete.result (in_place s c.args.row.now.identity TiplocDelete c.args.row.now.bytes Between (Unread TiplocDelete) c.in-Between-TiplocDelete.is-0 (sym c.in-Between-TiplocDelete.ensures) refl refl) (c.pass-in-Between-TiplocDelete.ensures.told s TiplocDelete refl (ap (λ x. next_stage x TiplocDelete false) c.in-Between-TiplocDelete.is-0, refl))

pub returns-in-Between-Association-clause-told : goal.returns-in-Between-Association-clause-told
returns-in-Between-Association-clause-told g c r =
    let s = standing g.S.Timetable.meaning c.args.self.now c.args.overlay.now r in
    told_by _ _ _ c.pass-in-Between-Association.result (in_place s c.args.row.now.identity Association c.args.row.now.bytes Between (Unread Association) c.in-Between-Association.is-0 (sym c.in-Between-Association.ensures) refl refl) (c.pass-in-Between-Association.ensures.told s Association refl (ap (λ x. next_stage x Association false) c.in-Between-Association.is-0, refl))

pub returns-in-Running-ChangeEnRoute-clause-told : goal.returns-in-Running-ChangeEnRoute-clause-told
returns-in-Running-ChangeEnRoute-clause-told g c r =
    let s = standing g.S.Timetable.meaning c.args.self.now c.args.overlay.now r in
    told_by _ _ _ c.pass-in-Running-ChangeEnRoute.result (in_place s c.args.row.now.identity ChangeEnRoute c.args.row.now.bytes Running (Unread ChangeEnRoute) c.in-Running-ChangeEnRoute.is-0 (sym c.in-Running-ChangeEnRoute.ensures) refl refl) (c.pass-in-Running-ChangeEnRoute.ensures.told s ChangeEnRoute refl (ap (λ x. next_stage x ChangeEnRoute false) c.in-Running-ChangeEnRoute.is-0, refl))

pub returns-in_ok-operator-in-Begun-BasicExtra-clause-told : goal.returns-in_ok-operator-in-Begun-BasicExtra-clause-told
returns-in_ok-operator-in-Begun-BasicExtra-clause-told g c r =
    let s = standing g.S.Timetable.meaning c.args.self.now c.args.overlay.now r in
    told_by _ _ _ c.take_operator.result (in_place s c.args.row.now.identity BasicExtra c.args.row.now.bytes Begun (OfOperator c.in_ok-operator-in-Begun-BasicExtra.field-0) c.in-Begun-BasicExtra.is-0 (sym c.in-Begun-BasicExtra.ensures) refl (ap (λ x. then x (λ v. Ok (OfOperator v))) (sym c.in_ok-operator-in-Begun-BasicExtra.ensures))) (c.take_operator.ensures.told s refl)

pub returns-in_ok-origin-in-Begun-Origin-clause-told : goal.returns-in_ok-origin-in-Begun-Origin-clause-told
returns-in_ok-origin-in-Begun-Origin-clause-told g c r =
    let s = standing g.S.Timetable.meaning c.args.self.now c.args.overlay.now r in
    told_by _ _ _ c.take_call.result (in_place s c.args.row.now.identity Origin c.args.row.now.bytes Begun (OfOrigin c.in_ok-origin-in-Begun-Origin.field-0) c.in-Begun-Origin.is-0 (sym c.in-Begun-Origin.ensures) refl (ap (λ x. then x (λ v. Ok (OfOrigin v))) (sym c.in_ok-origin-in-Begun-Origin.ensures))) (c.take_call.ensures.origin s refl (ap (λ x. next_stage x Origin false) c.in-Begun-Origin.is-0))

pub returns-in_ok-origin-in-Extra-Origin-clause-told : goal.returns-in_ok-origin-in-Extra-Origin-clause-told
returns-in_ok-origin-in-Extra-Origin-clause-told g c r =
    let s = standing g.S.Timetable.meaning c.args.self.now c.args.overlay.now r in
    told_by _ _ _ c.take_call-in-Extra-Origin.result (in_place s c.args.row.now.identity Origin c.args.row.now.bytes Extra (OfOrigin c.in_ok-origin-in-Extra-Origin.field-0) c.in-Extra-Origin.is-0 (sym c.in-Extra-Origin.ensures) refl (ap (λ x. then x (λ v. Ok (OfOrigin v))) (sym c.in_ok-origin-in-Extra-Origin.ensures))) (c.take_call-in-Extra-Origin.ensures.origin s refl (ap (λ x. next_stage x Origin false) c.in-Extra-Origin.is-0))

pub returns-in_ok-intermediate-in-Running-Intermediate-clause-told : goal.returns-in_ok-intermediate-in-Running-Intermediate-clause-told
returns-in_ok-intermediate-in-Running-Intermediate-clause-told g c r =
    let s = standing g.S.Timetable.meaning c.args.self.now c.args.overlay.now r in
    told_by _ _ _ c.take_call-in-Running-Intermediate.result (in_place s c.args.row.now.identity Intermediate c.args.row.now.bytes Running (OfIntermediate c.in_ok-intermediate-in-Running-Intermediate.field-0) c.in-Running-Intermediate.is-0 (sym c.in-Running-Intermediate.ensures) refl (ap (λ x. then x (λ v. Ok (OfIntermediate v))) (sym c.in_ok-intermediate-in-Running-Intermediate.ensures))) (c.take_call-in-Running-Intermediate.ensures.intermediate s refl (ap (λ x. next_stage x Intermediate false) c.in-Running-Intermediate.is-0))

pub returns-in_ok-intermediate-in-Changed-Intermediate-clause-told : goal.returns-in_ok-intermediate-in-Changed-Intermediate-clause-told
returns-in_ok-intermediate-in-Changed-Intermediate-clause-told g c r =
    let s = standing g.S.Timetable.meaning c.args.self.now c.args.overlay.now r in
    told_by _ _ _ c.take_call-in-Changed-Intermediate.result (in_place s c.args.row.now.identity Intermediate c.args.row.now.bytes Changed (OfIntermediate c.in_ok-intermediate-in-Changed-Intermediate.field-0) c.in-Changed-Intermediate.is-0 (sym c.in-Changed-Intermediate.ensures) refl (ap (λ x. then x (λ v. Ok (OfIntermediate v))) (sym c.in_ok-intermediate-in-Changed-Intermediate.ensures))) (c.take_call-in-Changed-Intermediate.ensures.intermediate s refl (ap (λ x. next_stage x Intermediate false) c.in-Changed-Intermediate.is-0))

pub returns-in_ok-terminus-in-Running-Terminus-clause-told : goal.returns-in_ok-terminus-in-Running-Terminus-clause-told
returns-in_ok-terminus-in-Running-Terminus-clause-told g c r =
    let s = standing g.S.Timetable.meaning c.args.self.now c.args.overlay.now r in
    told_by _ _ _ c.take_terminus.result (in_place s c.args.row.now.identity Terminus c.args.row.now.bytes Running (OfTerminus c.in_ok-terminus-in-Running-Terminus.field-0) c.in-Running-Terminus.is-0 (sym c.in-Running-Terminus.ensures) refl (ap (λ x. then x (λ v. Ok (OfTerminus v))) (sym c.in_ok-terminus-in-Running-Terminus.ensures))) (c.take_terminus.ensures.told s refl refl)

pub returns-in_ok-schedule-in-Between-BasicSchedule-clause-told : goal.returns-in_ok-schedule-in-Between-BasicSchedule-clause-told
returns-in_ok-schedule-in-Between-BasicSchedule-clause-told g c r = let t = c.take_schedule.ensures.told r in search rules
