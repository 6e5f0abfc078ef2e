use Rattle.std.specs.Prelude.{◌<◌}
use Rattle.std.proofs.Common.{arith}
use Rattle.refusal.specs.PerKinds.{at}
use Rattle.dealer.specs.Dealers.{dealer_owner}
use Rattle.dealer.proofs.Steps.{length_dealt, dealer_took}
use Rattle.dealer.proofs.dealer.deals.DealerSource.take.Goals as goal

pub returns-clause-takes : goal.returns-clause-takes
returns-clause-takes c =
    let s = c.args.self.now in
    let k = c.args.kind in
    let moved = c.move_on.ensures in
    let some : 0 < at s.counts k = omega (arith, c.in_ok-check.ensures, length_dealt (dealer_owner s) k (at s.counts k) (at s.running k)) in
    rw (c.half-taken.ensures.half, moved.seat, moved.counts, moved.running, c.half-taken.ensures.after, c.get.ensures) (dealer_took (dealer_owner s) k s.counts s.running some)
