-- Seats and kinds by number, and values by kind after a write.
use Rattle.std.proofs.Common.{◌≡◌, ◌<◌, ◌⊎◌, refl, ap, inl, inr, arith, lit<}
use Rattle.refusal.specs.declared.kind.Kind.{Kind}
use Rattle.refusal.specs.declared.kind.Kind.TheVariants.{Bit, Ring0, Ring1}
use Rattle.refusal.specs.declared.per_kind.PerKind.{PerKind}
use Rattle.refusal.specs.declared.seat.Seat.{Seat}
use Rattle.refusal.specs.declared.seat.Seat.TheVariants.{Zero, One}
use Rattle.refusal.specs.Kinds.{number, kind_of}
use Rattle.refusal.specs.Seats.{number as seat_number}
use Rattle.refusal.specs.PerKinds.{at, with_at}

pub seat_low : (seat : Seat) → seat_number seat < 2
seat_low Zero = lit< tt
seat_low One = lit< tt

pub kind_of_number : (k : Kind) → kind_of (number k) ≡ k
kind_of_number Bit = refl
kind_of_number Ring0 = refl
kind_of_number Ring1 = refl

-- no two kinds are the same
apart : (j k : Kind) → (number j ≡ number k → ⊥) → j ≡ k → ⊥
apart j k ne e = ne (ap number e)

pub bit_ring0 : Bit ≡ Ring0 → ⊥
bit_ring0 = apart Bit Ring0 (λ e. omega arith)

pub bit_ring1 : Bit ≡ Ring1 → ⊥
bit_ring1 = apart Bit Ring1 (λ e. omega arith)

pub ring0_bit : Ring0 ≡ Bit → ⊥
ring0_bit = apart Ring0 Bit (λ e. omega arith)

pub ring0_ring1 : Ring0 ≡ Ring1 → ⊥
ring0_ring1 = apart Ring0 Ring1 (λ e. omega arith)

pub ring1_bit : Ring1 ≡ Bit → ⊥
ring1_bit = apart Ring1 Bit (λ e. omega arith)

pub ring1_ring0 : Ring1 ≡ Ring0 → ⊥
ring1_ring0 = apart Ring1 Ring0 (λ e. omega arith)

pub same_kind : (j k : Kind) → (j ≡ k) ⊎ (j ≡ k → ⊥)
same_kind Bit Bit = inl refl
same_kind Bit Ring0 = inr bit_ring0
same_kind Bit Ring1 = inr bit_ring1
same_kind Ring0 Bit = inr ring0_bit
same_kind Ring0 Ring0 = inl refl
same_kind Ring0 Ring1 = inr ring0_ring1
same_kind Ring1 Bit = inr ring1_bit
same_kind Ring1 Ring0 = inr ring1_ring0
same_kind Ring1 Ring1 = inl refl

module _ {T : Type 0} where
  pub at_with_same : (k : Kind) (v : T) (p : PerKind T) → at (with_at k v p) k ≡ v
  at_with_same Bit v p = refl
  at_with_same Ring0 v p = refl
  at_with_same Ring1 v p = refl

  pub at_with_other : (k j : Kind) (v : T) (p : PerKind T) → (j ≡ k → ⊥) → at (with_at k v p) j ≡ at p j
  at_with_other Bit Bit v p ne = absurd (ne refl)
  at_with_other Bit Ring0 v p ne = refl
  at_with_other Bit Ring1 v p ne = refl
  at_with_other Ring0 Bit v p ne = refl
  at_with_other Ring0 Ring0 v p ne = absurd (ne refl)
  at_with_other Ring0 Ring1 v p ne = refl
  at_with_other Ring1 Bit v p ne = refl
  at_with_other Ring1 Ring0 v p ne = refl
  at_with_other Ring1 Ring1 v p ne = absurd (ne refl)
