-- One value for each kind, read and written.
use Rattle.refusal.specs.declared.kind.Kind.{Kind}
use Rattle.refusal.specs.declared.kind.Kind.TheVariants.{Bit, Ring0, Ring1}
use Rattle.refusal.specs.declared.per_kind.PerKind.{PerKind}

module _ {T : Type 0} where
  abbrev pub at : PerKind T → Kind → T
  at p Bit = p.bit
  at p Ring0 = p.ring0
  at p Ring1 = p.ring1

  -- p with another value at one kind
  abbrev pub with_at : Kind → T → PerKind T → PerKind T
  with_at Bit v p = record { bit = v; ring0 = p.ring0; ring1 = p.ring1 }
  with_at Ring0 v p = record { bit = p.bit; ring0 = v; ring1 = p.ring1 }
  with_at Ring1 v p = record { bit = p.bit; ring0 = p.ring0; ring1 = v }
