use Rattle.page.proofs.Laid.{laid_out}
use Rattle.page.proofs.laws.page_is_laid_out.Goals as goal

pub returns : goal.returns
returns c = laid_out
