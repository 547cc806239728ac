use Rattle.cif.proofs.Tables.{content_told}
use Rattle.cif.proofs.reading.leftmost_is_told.Goals as goal

pub returns : goal.returns
returns c = content_told
