use Rattle.protocol.proofs.Rows.{session_flipped}
use Rattle.protocol.proofs.sessions.seats_see_one_session.Goals as goal

pub returns : goal.returns
returns g c = λ J. session_flipped _
