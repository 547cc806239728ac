use Rattle.std.proofs.Common.{◌/◌, ◌%◌, append_assoc}
use Rattle.std.proofs.Output.{has_written_of_eq}
use Rattle.wording.proofs.Texts.{two_digits}
use Rattle.wording.proofs.answers.LineWordsDisplay.fmt.Goals as goal

pub returns-clause-writes : goal.returns-clause-writes
returns-clause-writes g c =
    let minute = c.args.self.now.0.now.key.minute in
    λ plain ok. has_written_of_eq _ _ _ _ _
    (rw (c.laid_out.ensures, c.laid_out-2.ensures, two_digits (minute / 60), two_digits (minute % 60)) (simp append_assoc))
    (c.write.ensures.writes plain ok)
