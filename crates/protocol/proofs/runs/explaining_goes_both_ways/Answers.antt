use Rattle.protocol.proofs.Silent.{both_ways}
use Rattle.protocol.proofs.runs.explaining_goes_both_ways.Goals as goal

pub returns : goal.returns
returns g c = both_ways _
