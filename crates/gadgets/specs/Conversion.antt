-- A shared bit as a shared number of 32 bits.
use Rattle.std.specs.Prelude.{ℕ, ◌%◌, ◌^◌, ◌<◌, Bool, if◌then◌else◌, List, [], ◌∷◌, bit_xor, nat_lt}
use Rattle.refusal.specs.declared.kind.Kind.{Kind}
use Rattle.refusal.specs.declared.kind.Kind.TheVariants.{Ring0}
use Rattle.arithmetic.specs.Bits.{bit}
use Rattle.refusal.specs.declared.seat.Seat.TheVariants.{Zero}
use Rattle.protocol.specs.Course.{Course, done, lookup, Computes, Follows}
use Rattle.gadgets.specs.Shares.{SharedBit, SharedNumber}

abbrev pub conversion_table : ℕ → ℕ → ℕ
conversion_table b k = if nat_lt k 2 then bit_xor (b % 2) k else 0

abbrev pub convert : ℕ → Course ℕ
convert b = lookup Ring0 (conversion_table b) (b % 2) (λ s. done (s % 2 ^ 32))

abbrev pub conversion_kinds : List Kind
conversion_kinds = Ring0 ∷ []

abbrev pub ConversionComputes : Type 0
ConversionComputes = (a b : ℕ) (v : Bool) → SharedBit a b v → Computes Zero (λ m n. SharedNumber 32 m n (bit v)) (convert a) (convert b)

abbrev pub ConversionFollows : Type 0
ConversionFollows = (b : ℕ) → Follows (λ r. r < 2 ^ 32) conversion_kinds (convert b)
