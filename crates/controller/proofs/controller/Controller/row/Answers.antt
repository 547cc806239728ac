use Rattle.std.proofs.Common.{◌+◌, refl, ap, ◌∙◌}
use Rattle.cif.specs.Refusals.{map_err}
use Rattle.extract.specs.Judging.{is_misplaced}
use Rattle.controller.specs.Faults.{in_extract}
use Rattle.controller.specs.Calls.{Row}
use Rattle.controller.specs.Shown.{progress_in, standing_in}
use Rattle.controller.proofs.Agreed.{row_places}
use Rattle.controller.proofs.Called.{row_refused}
use Rattle.controller.proofs.RowCalls.{RowHeard, row_taken, row_unchanged, row_obeys}
use Rattle.controller.proofs.controller.Controller.row.Goals as goal

heard : (g : _) (c : goal.After-numbered g) → RowHeard g.S.Timetable.meaning is_misplaced c.args.self.now c.hear.new.self c.args.row.now c.hear.result c.numbered.result
heard g c = record {
  numbered = c.numbered.ensures ∙ ap (λ k. map_err (in_extract (k + 1)) c.hear.result) c.rows_taken-number.ensures;
  told = c.hear.ensures.told;
  unchanged = c.hear.ensures.unchanged;
  rest = c.hear.ensures.rest;
}

pub returns-clause-told : goal.returns-clause-told
returns-clause-told g c = row_refused (standing_in g.S.Timetable.meaning c.args.self.now) c.args.row.now (progress_in c.hear.new.self) c.hear.result c.numbered.result (heard g c).numbered c.hear.ensures.told

pub returns-clause-taken : goal.returns-clause-taken
returns-clause-taken g c = row_taken _ _ _ _ _ _ _ (heard g c)

pub returns-clause-unchanged : goal.returns-clause-unchanged
returns-clause-unchanged g c = row_unchanged _ _ _ _ _ _ _ (heard g c)

pub returns-clause-obeys : goal.returns-clause-obeys
returns-clause-obeys g c = row_obeys _ _ _ _ _ _ _ (heard g c) row_places (Row c.args.row.now) (λ slots. returns-clause-told g c) (λ ℓ h. h) (λ ℓ. refl) refl
