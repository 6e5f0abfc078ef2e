use Rattle.std.proofs.Common.{sym, refl, take-append-drop}
use Rattle.refusal.specs.PerKinds.{at}
use Rattle.sources.proofs.quota.Quota.into_below.Goals as goal

pub returns : goal.returns
returns g c = record { below = refl; left = λ k. sym (take-append-drop (at c.args.self.allowed k) (g.S.Source.left c.args.self.below k)) }
