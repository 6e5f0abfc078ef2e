use Rattle.lookup.proofs.Places.{places_go_round}
use Rattle.lookup.proofs.theorems.places_go_round.Goals as goal

pub returns : goal.returns
returns c = places_go_round
