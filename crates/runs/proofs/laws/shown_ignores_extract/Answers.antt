use Rattle.runs.proofs.Ledgers.{shown_ignores}
use Rattle.runs.proofs.laws.shown_ignores_extract.Goals as goal

pub returns : goal.returns
returns c = shown_ignores
