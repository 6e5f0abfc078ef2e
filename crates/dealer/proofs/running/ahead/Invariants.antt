use Rattle.std.proofs.Common.{◌≡◌}
use Rattle.dealer.specs.Running.{run}
use Rattle.dealer.proofs.running.ahead.Given as goal

abbrev pub invariant-loop-i : goal.invariant-loop-i
invariant-loop-i l = l.y ≡ run l._i l.x
