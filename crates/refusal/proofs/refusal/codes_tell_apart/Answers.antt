use Rattle.refusal.proofs.Decoding.{codes_tell_apart}
use Rattle.refusal.proofs.refusal.codes_tell_apart.Goals as goal

pub returns : goal.returns
returns c = codes_tell_apart
