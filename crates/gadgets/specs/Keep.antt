-- A shared number where a shared bit is 1, and else 0.
use Rattle.std.specs.Prelude.{ℕ, ◌+◌, ◌*◌, ◌%◌, ◌^◌, ◌<◌, ◌≤◌, Bool, if◌then◌else◌, List, [], ◌∷◌, bit_xor, nat_lt}
use Rattle.refusal.specs.declared.kind.Kind.{Kind}
use Rattle.refusal.specs.declared.kind.Kind.TheVariants.{Ring0, Ring1}
use Rattle.refusal.specs.declared.seat.Seat.TheVariants.{Zero}
use Rattle.protocol.specs.Course.{Course, done, lookup, Computes, Follows}
use Rattle.gadgets.specs.Shares.{SharedBit, SharedNumber}
use Rattle.gadgets.specs.Prices.{prices, Tallies}

-- this party's share a of the number, where its share b of the bit and the other's come to 1
abbrev pub keep_table : ℕ → ℕ → ℕ → ℕ
keep_table a b k = if nat_lt k 2 then (bit_xor (b % 2) k * a) % 2 ^ 32 else 0

-- seat 0 sends first, and then seat 1
abbrev pub keep : ℕ → ℕ → ℕ → Course ℕ
keep w a b =
    lookup Ring0 (keep_table a b) (b % 2) (λ u. lookup Ring1 (keep_table a b) (b % 2) (λ v. done ((u + v) % 2 ^ w)))

abbrev pub keep_kinds : List Kind
keep_kinds = Ring0 ∷ (Ring1 ∷ [])

abbrev pub KeepComputes : Type 0
KeepComputes =
    (w a a' v b b' : ℕ) (u : Bool) → w ≤ 32 → SharedNumber w a a' v → SharedBit b b' u
    → Computes Zero (λ m n. SharedNumber w m n (if u then v else 0)) (keep w a b) (keep w a' b')

abbrev pub KeepFollows : Type 0
KeepFollows = (w a b : ℕ) → Follows (λ r. r < 2 ^ w) keep_kinds (keep w a b)

abbrev pub KeepTallies : Type 0
KeepTallies = Tallies keep_kinds (prices 0 1 1)
