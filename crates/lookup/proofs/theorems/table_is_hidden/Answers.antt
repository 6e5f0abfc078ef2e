use Rattle.lookup.proofs.Pairing.{table_hidden}
use Rattle.lookup.proofs.theorems.table_is_hidden.Goals as goal

pub returns : goal.returns
returns g c = table_hidden _ g.met.G.Group.laws
