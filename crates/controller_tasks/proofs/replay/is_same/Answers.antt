use Rattle.std.proofs.Common.{rules, ◌≡◌, sym, ◌∙◌}
use Rattle.std.specs.Bool.{Decides}
use Rattle.std.proofs.lemmas.Slice.Eq.{slice_eq-Decides, bytes_eq-Decides}
use Rattle.board.specs.declared.line.Line.{Line}
use Rattle.board.specs.contracts.line.LinePartialEq.TheImpl as same_line
use Rattle.controller_tasks.proofs.replay.is_same.Goals as goal

-- two lines are equal exactly when they are the same
decides : (a b : Line) → Decides (same_line.eq-value.it a b) (a ≡ b)
decides a b = search (rules, bytes_eq-Decides)

pub returns : goal.returns
returns c =
    let same = slice_eq-Decides {E = same_line.eq-value.it} decides c.lines.result.now c.lines-2.result.now c.eq.result c.eq.ensures in
    (λ t. sym c.lines.ensures ∙ (same.0 t ∙ c.lines-2.ensures), λ e. same.1 (c.lines.ensures ∙ (e ∙ sym c.lines-2.ensures)))
