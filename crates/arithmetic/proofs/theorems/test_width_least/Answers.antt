use Rattle.arithmetic.proofs.Tests.{test_width_least}
use Rattle.arithmetic.proofs.theorems.test_width_least.Goals as goal

pub returns : goal.returns
returns c = test_width_least
