use Rattle.std.specs.Prelude.{◌≡◌, map}
use Rattle.std.specs.List.{range_with_len}
use Rattle.dealer.specs.Running.{run, mask}
use Rattle.dealer.proofs.running.sender_half.Given as goal

-- the words so far are the masks so far
abbrev pub invariant-loop : goal.invariant-loop
invariant-loop l = (l.y ≡ run l.counter l.x) × (l.half.items ≡ map (mask l.kind l.x) (range_with_len 0 l.counter))
