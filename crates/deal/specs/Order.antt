-- What the program may be asked for.
use Rattle.std.specs.Prelude.{ℕ, ◌<◌}
use Rattle.refusal.specs.declared.per_kind.PerKind.{PerKind}

-- counts that the fields of a sheet can hold
pub record Few (counts : PerKind ℕ) : Type 0 where
  pub bit : counts.bit < 8192
  pub ring0 : counts.ring0 < 8192
  pub ring1 : counts.ring1 < 8192
