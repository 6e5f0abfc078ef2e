-- How often 2^w is in the sum of the signed shares besides the signed value, shared as a number of 32 bits: 1, 0 or -1.
use Rattle.std.specs.Prelude.{ℕ, ◌+◌, ◌-◌, ◌*◌, ◌/◌, ◌%◌, ◌^◌, ◌<◌, if◌then◌else◌, List, [], ◌∷◌, ◌==◌, bit_xor, nat_lt}
use Rattle.refusal.specs.declared.kind.Kind.{Kind}
use Rattle.refusal.specs.declared.kind.Kind.TheVariants.{Ring0}
use Rattle.arithmetic.specs.Sign.{shared_value, not_negative, flip_of}
use Rattle.arithmetic.specs.Division.{remainder}
use Rattle.refusal.specs.declared.seat.Seat.TheVariants.{Zero}
use Rattle.protocol.specs.Course.{Course, done, lookup, Computes, Follows}
use Rattle.gadgets.specs.Shares.{SharedBit, SharedNumber}
use Rattle.gadgets.specs.Sign.{top_of}

-- by how many of the top bits are set, and whether the value is not negative
abbrev pub flip_entry : ℕ → ℕ → ℕ
flip_entry tops g = if tops + g == 0 then 1 else if tops + g == 3 then 2 ^ 32 - 1 else 0

abbrev pub flip_table : ℕ → ℕ → ℕ → ℕ
flip_table t g k = if nat_lt k 4 then flip_entry (t % 2 + k / 2) (bit_xor (g % 2) (k % 2)) else 0

abbrev pub flip_index : ℕ → ℕ → ℕ
flip_index t g = 2 * (t % 2) + g % 2

-- t is the top bit of this party's share, and g its share of the sign
abbrev pub flip : ℕ → ℕ → Course ℕ
flip t g = lookup Ring0 (flip_table t g) (flip_index t g) (λ s. done (s % 2 ^ 32))

abbrev pub flip_kinds : List Kind
flip_kinds = Ring0 ∷ []

-- The parties come to share the flip of their shares a and b of w bits.
abbrev pub FlipComputes : Type 0
FlipComputes =
    (w a b g h : ℕ) → 0 < w → a < 2 ^ w → b < 2 ^ w → SharedBit g h (not_negative w (shared_value w a b))
    → Computes Zero (λ m n. SharedNumber 32 m n (remainder (flip_of w a b) (2 ^ 32))) (flip (top_of w a) g) (flip (top_of w b) h)

abbrev pub FlipFollows : Type 0
FlipFollows = (t g : ℕ) → Follows (λ r. r < 2 ^ 32) flip_kinds (flip t g)
