use Rattle.controller.proofs.Ledgered.{ledgered}
use Rattle.controller.proofs.laws.ledger_rows_are_taken.Goals as goal

pub returns : goal.returns
returns c = ledgered
