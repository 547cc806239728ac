use Rattle.controller.proofs.Parting.{extract_parted}
use Rattle.controller.proofs.laws.extract_comes_to_parts.Goals as goal

pub returns : goal.returns
returns c = extract_parted
