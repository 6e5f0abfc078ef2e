use Rattle.lookup.proofs.Pairing.{shares_join}
use Rattle.lookup.proofs.theorems.shares_join.Goals as goal

pub returns : goal.returns
returns g c = shares_join _ g.met.G.Group.laws
