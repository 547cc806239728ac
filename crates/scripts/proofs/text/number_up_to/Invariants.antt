use Rattle.std.proofs.Common.{◌≡◌, ◌≤◌, drop}
use Rattle.forms.specs.Forms.{number_after}
use Rattle.scripts.specs.Texts.{at_most}
use Rattle.scripts.proofs.text.number_up_to.Given as goal

abbrev pub invariant-loop-digit : goal.invariant-loop-digit
invariant-loop-digit l =
    (at_most l.most (number_after l.number (drop l.digit-index l.digits)) ≡ at_most l.most (number_after 0 l.digits)) × (l.number ≤ l.most)
