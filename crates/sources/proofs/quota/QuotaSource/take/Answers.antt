use Rattle.std.proofs.Common.{◌<◌, ap, ◌∙◌, subst, sym, arith}
use Rattle.refusal.specs.PerKinds.{at}
use Rattle.sources.specs.Quotas.{quota_left, quota_past}
use Rattle.sources.specs.Calls.{Took}
use Rattle.sources.proofs.Limits.{below_took, beyond_stays}
use Rattle.sources.proofs.quota.QuotaSource.take.Goals as goal

pub returns-clause-takes : goal.returns-clause-takes
returns-clause-takes g c =
    let s = c.args.self.now in
    let S = g.S.Source in
    let left' = S.left c.take.new.self in
    let some : 0 < at s.allowed c.args.kind = omega (arith, c.in_ok-enough.ensures) in
    subst (λ q. Took (S.owner s.below) (quota_left S.left s) (quota_left S.left q) c.args.kind c.in_ok-half.half.items) (sym c.lower.ensures)
    (below_took s.allowed (S.owner s.below) (S.left s.below) left' c.args.kind c.in_ok-half.half.items some c.in_ok-half.ensures.takes)

pub returns-clause-past : goal.returns-clause-past
returns-clause-past g c =
    let s = c.args.self.now in
    let S = g.S.Source in
    let left' = S.left c.take.new.self in
    let some : 0 < at s.allowed c.args.kind = omega (arith, c.in_ok-enough.ensures) in
    ap (quota_past S.left) c.lower.ensures
    ∙ beyond_stays s.allowed (S.owner s.below) (S.left s.below) left' c.args.kind c.in_ok-half.half.items some c.in_ok-half.ensures.takes
