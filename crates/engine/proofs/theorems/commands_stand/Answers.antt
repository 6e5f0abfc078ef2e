use Rattle.engine.proofs.Certifying.{commands_stand}
use Rattle.engine.proofs.theorems.commands_stand.Goals as goal

pub returns : goal.returns
returns c = commands_stand
