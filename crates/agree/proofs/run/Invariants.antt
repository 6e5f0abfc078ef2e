-- No more lookups were right than the loop has made, of 16.
use Rattle.std.proofs.Common.{◌≤◌}
use Rattle.agree.proofs.run.Given as goal

abbrev pub invariant-loop-i : goal.invariant-loop-i
invariant-loop-i g l = l.agreed ≤ l.i
