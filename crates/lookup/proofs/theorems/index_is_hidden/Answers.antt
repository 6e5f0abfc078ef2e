use Rattle.lookup.proofs.Pairing.{index_hidden}
use Rattle.lookup.proofs.theorems.index_is_hidden.Goals as goal

pub returns : goal.returns
returns g c = index_hidden _
