use Rattle.std.proofs.Common.{◌≡◌, ◌^◌, ◌<◌, drop}
use Rattle.forms.specs.Forms.{number_after}
use Rattle.forms.proofs.numbers.number.Given as goal

abbrev pub invariant-loop-b : goal.invariant-loop-b
invariant-loop-b l = (number_after l.n (drop l.b-index l.bytes) ≡ number_after 0 l.bytes) × (l.n < 10 ^ l.b-index)
