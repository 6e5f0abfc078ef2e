-- The and of two shared bits.
use Rattle.std.specs.Prelude.{ℕ, ◌+◌, ◌*◌, ◌/◌, ◌%◌, ◌<◌, Bool, if◌then◌else◌, ◌&&◌, List, [], ◌∷◌, bit_xor, nat_lt}
use Rattle.refusal.specs.declared.kind.Kind.{Kind}
use Rattle.refusal.specs.declared.kind.Kind.TheVariants.{Bit}
use Rattle.refusal.specs.declared.seat.Seat.TheVariants.{Zero}
use Rattle.protocol.specs.Course.{Course, done, lookup, Computes, Follows}
use Rattle.gadgets.specs.Shares.{SharedBit}
use Rattle.gadgets.specs.Prices.{prices, Tallies}

abbrev pub and_table : ℕ → ℕ → ℕ → ℕ
and_table x y k = if nat_lt k 4 then bit_xor (x % 2) (k / 2) * bit_xor (y % 2) (k % 2) else 0

abbrev pub and_index : ℕ → ℕ → ℕ
and_index x y = 2 * (x % 2) + y % 2

abbrev pub and : ℕ → ℕ → Course ℕ
and x y = lookup Bit (and_table x y) (and_index x y) (λ s. done (s % 2))

abbrev pub and_kinds : List Kind
and_kinds = Bit ∷ []

abbrev pub AndComputes : Type 0
AndComputes = (x x' y y' : ℕ) (u v : Bool) → SharedBit x x' u → SharedBit y y' v → Computes Zero (λ a b. SharedBit a b (u && v)) (and x y) (and x' y')

abbrev pub AndFollows : Type 0
AndFollows = (x y : ℕ) → Follows (λ r. r < 2) and_kinds (and x y)

abbrev pub AndTallies : Type 0
AndTallies = Tallies and_kinds (prices 1 0 0)
