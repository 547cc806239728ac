use Rattle.forms.proofs.Tiplocs.{by_places}
use Rattle.forms.proofs.places.tiploc_by_places.Goals as goal

pub returns : goal.returns
returns c = by_places
