-- The sign of a shared number of w bits: a comparison of the bits below the top, and then the top bits.
use Rattle.std.specs.Prelude.{ℕ, ◌-◌, ◌/◌, ◌%◌, ◌^◌, ◌<◌, bit_xor}
use Rattle.arithmetic.specs.Sign.{not_negative}
use Rattle.refusal.specs.declared.seat.Seat.{Seat}
use Rattle.refusal.specs.declared.seat.Seat.TheVariants.{Zero, One}
use Rattle.refusal.specs.Seats.{number}
use Rattle.protocol.specs.Course.{Course, done, and_then, Computes, Follows}
use Rattle.gadgets.specs.Shares.{SharedBit, SharedNumber}
use Rattle.gadgets.specs.Comparison.{compare, comparison_kinds}

-- the top bit of a share of w bits
abbrev pub top_of : ℕ → ℕ → ℕ
top_of w a = a / 2 ^ (w - 1) % 2

abbrev pub sign_operand : Seat → ℕ → ℕ → ℕ
sign_operand Zero w a = 2 ^ (w - 1) - 1 - a % 2 ^ (w - 1)
sign_operand One w a = a % 2 ^ (w - 1)

-- seat 1 flips its share
abbrev pub sign_share : Seat → ℕ → ℕ → ℕ
sign_share f top carry = bit_xor (bit_xor top carry) (number f)

abbrev pub sign : Seat → ℕ → ℕ → Course ℕ
sign f w a = and_then (compare (w - 1) (sign_operand f w a)) (λ carry. done (sign_share f (top_of w a) carry))

-- The parties come to share whether the signed value is not negative.
abbrev pub SignComputes : Type 0
SignComputes = (w a b v : ℕ) → 1 < w → SharedNumber w a b v → Computes Zero (λ g h. SharedBit g h (not_negative w v)) (sign Zero w a) (sign One w b)

-- It costs a comparison at w - 1 bits.
abbrev pub SignFollows : Type 0
SignFollows = (f : Seat) (w a : ℕ) → Follows (λ r. r < 2) (comparison_kinds (w - 1)) (sign f w a)
