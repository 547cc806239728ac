use Rattle.cif.proofs.Dated.{only_no_end_is_new}
use Rattle.cif.proofs.reading.only_no_end_is_new.Goals as goal

pub returns : goal.returns
returns c = only_no_end_is_new
