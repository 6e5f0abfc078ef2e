use Rattle.arithmetic.proofs.Integers.{floor_unique}
use Rattle.arithmetic.proofs.theorems.floor_unique.Goals as goal

pub returns : goal.returns
returns c = floor_unique
