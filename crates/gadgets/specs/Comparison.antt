-- Comparison of seat 0's number with seat 1's, both of v bits: the digits first, and then the pairs, level by level.
use Rattle.std.specs.Prelude.{ℕ, zero, suc, ◌+◌, ◌-◌, ◌*◌, ◌/◌, ◌%◌, ◌^◌, ◌<◌, if◌then◌else◌, ◌&&◌, List, [], ◌∷◌, ◌++◌, length, replicate, ◌==◌, bit_xor, nat_lt, slice_index}
use Rattle.refusal.specs.declared.kind.Kind.{Kind}
use Rattle.refusal.specs.declared.kind.Kind.TheVariants.{Bit}
use Rattle.refusal.specs.declared.seat.Seat.TheVariants.{Zero}
use Rattle.protocol.specs.Course.{Course, done, lookup, Computes, Follows}
use Rattle.gadgets.specs.Shares.{SharedBit}
use Rattle.gadgets.specs.Prices.{prices, Tallies}

-- A pair (less, equal) is the number 2 * less + equal, and so is each share of it.

-- a digit against each other digit
abbrev pub digit_table : ℕ → ℕ → ℕ
digit_table x k = if nat_lt x k then 2 else if x == k then 1 else 0

-- seat 0's shares of two neighbours against each index of seat 1: the products of the high `equal` with both bits of the low
abbrev pub join_table : ℕ → ℕ → ℕ → ℕ
join_table high low k =
    if nat_lt k 8 && bit_xor (high % 2) (k / 4) == 1 then 2 * bit_xor (low / 2 % 2) (k / 2 % 2) + bit_xor (low % 2) (k % 2) else 0

abbrev pub join_index : ℕ → ℕ → ℕ
join_index high low = 4 * (high % 2) + 2 * (low / 2 % 2) + low % 2

-- a party's share of the joined pair: the upper bit takes its own share of the high `less`
abbrev pub joined_pair : ℕ → ℕ → ℕ
joined_pair high share = bit_xor share (2 * (high / 2 % 2))

-- Where fewer than two pairs are left of a level, the next level begins.
abbrev pub onward : (List ℕ → List ℕ → Course ℕ) → List ℕ → List ℕ → Course ℕ
onward go ups [] = go [] ups
onward go ups (a ∷ []) = go [] (ups ++ (a ∷ []))
onward go ups (a ∷ (b ∷ more)) = go ups (a ∷ (b ∷ more))

-- so many joins are left; the pairs of the next level so far, and those left of this one
abbrev pub joins : ℕ → List ℕ → List ℕ → Course ℕ
joins zero ups more = done (slice_index more 0 / 2 % 2)
joins (suc k) ups [] = done 0
joins (suc k) ups (a ∷ []) = done 0
joins (suc k) ups (low ∷ (high ∷ more)) =
    lookup Bit (join_table high low) (join_index high low) (λ s. onward (joins k) (ups ++ (joined_pair high s ∷ [])) more)

-- so many digits are left of x; the pairs so far
abbrev pub gather : ℕ → ℕ → List ℕ → Course ℕ
gather zero x ps = joins (length ps - 1) [] ps
gather (suc n) x ps = lookup Bit (digit_table (x % 16)) (x % 16) (λ s. gather n (x / 16) (ps ++ (s ∷ [])))

unfoldable pub compare : ℕ → ℕ → Course ℕ
compare v x = gather ((v + 3) / 4) x []

-- a lookup for each digit, and one less for the joins
abbrev pub comparison_price : ℕ → ℕ
comparison_price v = 2 * ((v + 3) / 4) - 1

abbrev pub comparison_kinds : ℕ → List Kind
comparison_kinds v = replicate (comparison_price v) Bit

-- The parties come to share whether seat 0's number is below seat 1's.
abbrev pub ComparisonComputes : Type 0
ComparisonComputes = (v x y : ℕ) → 0 < v → x < 2 ^ v → y < 2 ^ v → Computes Zero (λ a b. SharedBit a b (nat_lt x y)) (compare v x) (compare v y)

abbrev pub ComparisonFollows : Type 0
ComparisonFollows = (v x : ℕ) → Follows (λ r. r < 2) (comparison_kinds v) (compare v x)

abbrev pub ComparisonTallies : Type 0
ComparisonTallies = (v : ℕ) → Tallies (comparison_kinds v) (prices (comparison_price v) 0 0)
