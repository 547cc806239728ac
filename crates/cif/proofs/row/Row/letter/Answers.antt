use Rattle.std.proofs.Common.{subst, ap, ◌∙◌}
use Rattle.std.specs.Option.{ok_or}
use Rattle.cif.specs.Refusals.{field_at}
use Rattle.cif.proofs.Steps.{formed_or}
use Rattle.cif.proofs.row.Row.letter.Goals as goal

pub returns : goal.returns
returns g c = (
  c.try_from.result,
  subst (λ b. g.L.TryFrom.try_from_gives b c.try_from.result) c.byte.ensures c.try_from.ensures,
  c.ok_or.ensures.value
      ∙ (ap (λ e. ok_or c.ok.result e) c.at.ensures ∙ (formed_or c.args.column c.ok.result ∙ ap (field_at c.args.column) c.ok.ensures.value)),
)
