use Rattle.running.proofs.Dated.{same_where_all_end}
use Rattle.running.proofs.laws.same_candidates_where_all_end.Goals as goal

pub returns : goal.returns
returns c = same_where_all_end
