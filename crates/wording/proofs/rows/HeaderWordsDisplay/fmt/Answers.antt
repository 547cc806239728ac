use Rattle.std.proofs.Common.{append_assoc}
use Rattle.std.proofs.Output.{has_written_of_eq}
use Rattle.wording.proofs.rows.HeaderWordsDisplay.fmt.Goals as goal

pub returns-clause-writes : goal.returns-clause-writes
returns-clause-writes g c = λ plain ok. has_written_of_eq _ _ _ _ _
    (rw c.coverage-coverage.ensures (simp append_assoc)) (c.write.ensures.writes plain ok)
