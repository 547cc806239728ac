use Rattle.std.proofs.Common.{◌/◌, ◌%◌, append_assoc}
use Rattle.std.proofs.Output.{has_written_of_eq}
use Rattle.wording.proofs.Texts.{two_digits}
use Rattle.wording.proofs.rows.TimeDisplay.fmt.Goals as goal

pub returns-in-Some-clause-writes : goal.returns-in-Some-clause-writes
returns-in-Some-clause-writes g c = λ plain ok. has_written_of_eq _ _ _ _ _
    (rw (c.in-Some.is, c.laid_out.ensures, c.laid_out-in-Some.ensures, two_digits (c.in-Some.minute / 60), two_digits (c.in-Some.minute % 60)) (simp append_assoc))
    (c.write.ensures.writes plain ok)
