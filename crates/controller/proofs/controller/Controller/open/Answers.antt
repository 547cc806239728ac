use Rattle.std.proofs.Common.{◌+◌, refl, ap, ◌∙◌}
use Rattle.cif.specs.Refusals.{map_err}
use Rattle.extract.specs.Judging.{is_no_opening}
use Rattle.controller.specs.Faults.{in_extract}
use Rattle.controller.specs.Calls.{Open}
use Rattle.controller.specs.Shown.{progress_in, standing_in}
use Rattle.controller.proofs.Agreed.{opening_places}
use Rattle.controller.proofs.Called.{opening_refused}
use Rattle.controller.proofs.RowCalls.{RowHeard, row_taken, row_unchanged, row_obeys}
use Rattle.controller.proofs.controller.Controller.open.Goals as goal

heard : (g : _) (c : goal.After-numbered g) → RowHeard g.S.Timetable.meaning is_no_opening c.args.self.now c.hear_opening.new.self c.args.row.now c.hear_opening.result c.numbered.result
heard g c = record {
  numbered = c.numbered.ensures ∙ ap (λ k. map_err (in_extract (k + 1)) c.hear_opening.result) c.rows_taken-number.ensures;
  told = c.hear_opening.ensures.told;
  unchanged = c.hear_opening.ensures.unchanged;
  rest = c.hear_opening.ensures.rest;
}

pub returns-clause-told : goal.returns-clause-told
returns-clause-told g c = opening_refused (standing_in g.S.Timetable.meaning c.args.self.now) c.args.row.now (progress_in c.hear_opening.new.self) c.hear_opening.result c.numbered.result (heard g c).numbered c.hear_opening.ensures.told

pub returns-clause-taken : goal.returns-clause-taken
returns-clause-taken g c = row_taken _ _ _ _ _ _ _ (heard g c)

pub returns-clause-unchanged : goal.returns-clause-unchanged
returns-clause-unchanged g c = row_unchanged _ _ _ _ _ _ _ (heard g c)

pub returns-clause-obeys : goal.returns-clause-obeys
returns-clause-obeys g c = row_obeys _ _ _ _ _ _ _ (heard g c) opening_places (Open c.args.row.now) (λ slots. returns-clause-told g c) (λ ℓ h. h) (λ ℓ. refl) refl
