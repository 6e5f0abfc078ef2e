use native.Mathlib.Nat.{mod-add-mod}
use Rattle.std.proofs.Common.{◌*◌, ◌^◌}
use Rattle.dealer.specs.Running.{step}
use Rattle.dealer.proofs.running.next.Goals as goal

pub returns : goal.returns
unfolding step
returns c = mod-add-mod (6364136223846793005 * c.args.x) (2 ^ 64) 1442695040888963407
