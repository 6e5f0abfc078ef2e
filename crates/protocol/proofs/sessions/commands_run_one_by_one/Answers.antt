use Rattle.protocol.proofs.Rows.{one_by_one}
use Rattle.protocol.proofs.sessions.commands_run_one_by_one.Goals as goal

pub returns : goal.returns
returns g c = λ J. one_by_one _
