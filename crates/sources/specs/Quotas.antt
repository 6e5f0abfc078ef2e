-- What a quota stands for, over what the source below it stands for.
use Rattle.std.specs.Prelude.{ℕ, length, take, drop, if◌then◌else◌, nat_lt}
use Rattle.refusal.specs.declared.kind.Kind.{Kind}
use Rattle.refusal.specs.declared.refusal.Layer.{Layer}
use Rattle.refusal.specs.declared.refusal.Layer.TheVariants.{Quota as QuotaLayer}
use Rattle.refusal.specs.PerKinds.{at}
use Rattle.sources.specs.declared.quota.Quota.{Quota}
use Rattle.sources.specs.Halves.{Halves}

module _ {S : Type 0} where
  abbrev pub quota_owner : (S → ℕ) → Quota S → ℕ
  quota_owner owner q = owner q.below

  -- the first so many of the halves below
  abbrev pub quota_left : (S → Halves) → Quota S → Halves
  quota_left left q k = take (at q.allowed k) (left q.below k)

  -- a shortage below is passed up if the list there is shorter than the number
  abbrev pub quota_layer : (S → Halves) → (S → Kind → Layer) → Quota S → Kind → Layer
  quota_layer left layer q k = if nat_lt (length (left q.below k)) (at q.allowed k) then layer q.below k else QuotaLayer

  -- what of the source below lies past the quota
  abbrev pub quota_past : (S → Halves) → Quota S → Halves
  quota_past left q k = drop (at q.allowed k) (left q.below k)
