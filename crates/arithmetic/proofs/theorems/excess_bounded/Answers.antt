use Rattle.arithmetic.proofs.Division.{excess_bounded}
use Rattle.arithmetic.proofs.theorems.excess_bounded.Goals as goal

pub returns : goal.returns
returns c = excess_bounded
