use Rattle.overlay.proofs.Settled.{all_tried}
use Rattle.overlay.proofs.laws.room_for_all.Goals as goal

pub returns : goal.returns
returns c = all_tried
