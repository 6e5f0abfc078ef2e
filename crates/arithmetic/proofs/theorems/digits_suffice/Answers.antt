use Rattle.arithmetic.proofs.Comparison.{digits_suffice}
use Rattle.arithmetic.proofs.theorems.digits_suffice.Goals as goal

pub returns : goal.returns
returns c = digits_suffice
