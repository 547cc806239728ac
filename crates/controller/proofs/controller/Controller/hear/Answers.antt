use Rattle.std.proofs.Common.{is_ok, sym, ap, ◌∙◌}
use Rattle.std.proofs.lemmas.Result.{MatchResult-at_ok, err_from_is_err_and}
use Rattle.extract.specs.Judging.{is_misplaced}
use Rattle.controller.specs.Shown.{standing_in}
use Rattle.controller.proofs.Heard.{with_place_ok, with_place_err, placed_ok, placed_err}
use Rattle.controller.proofs.Called.{at_err}
use Rattle.controller.proofs.Whole.{same_controller}
use Rattle.controller.proofs.controller.Controller.hear.Goals as goal

pub returns-in_err-with_place-clause-told : goal.returns-in_err-with_place-clause-told
returns-in_err-with_place-clause-told g c =
    let row = c.in_ok-row.row in
    let made = MatchResult-at_ok _ _ row (with_place_ok c.check.result _ row (sym c.in_ok-row.ensures)) c.check.ensures.made in
    placed_err is_misplaced (standing_in g.S.Timetable.meaning c.args.self.now) c.args.bytes.now row.bytes row.identity _ c.take.result made.0 made.1 (c.take.ensures.told c.args.self.now.reference) c.letters-letters.result c.letters-letters.ensures c.in_err-with_place.field-0.0 c.from_residual-in_err-with_place.result
    (sym c.with_place-2.ensures ∙ c.in_err-with_place.was) c.from_residual-in_err-with_place.ensures.1

pub returns-in_err-with_place-clause-unchanged : goal.returns-in_err-with_place-clause-unchanged
returns-in_err-with_place-clause-unchanged g c =
    let refused = with_place_err c.take.result c.letters-letters.result c.in_err-with_place.field-0.0 (sym c.with_place-2.ensures ∙ c.in_err-with_place.was) in
    let kept = at_err _ c.take.result c.take.ensures.unchanged (ap is_ok refused.0) in
    let p = err_from_is_err_and c.from_residual-in_err-with_place.result c.from_residual-in_err-with_place.ensures.1 in
    rw p.1 (same_controller c.args.self.now _ _ _ kept.1 kept.0)

pub returns-clause-told : goal.returns-clause-told
returns-clause-told g c =
    let row = c.in_ok-row.row in
    let made = MatchResult-at_ok _ _ row (with_place_ok c.check.result _ row (sym c.in_ok-row.ensures)) c.check.ensures.made in
    placed_ok is_misplaced (standing_in g.S.Timetable.meaning c.args.self.now) c.args.bytes.now row.bytes row.identity _ c.take.result made.0 made.1 (c.take.ensures.told c.args.self.now.reference) c.letters-letters.result c.letters-letters.ensures _
    (sym c.with_place-2.ensures ∙ c.in_ok-with_place.was)
