-- Shift of a shared number of w bits to the right by s places, rounded towards minus infinity.
use Rattle.std.specs.Prelude.{ℕ, ◌+◌, ◌-◌, ◌%◌, ◌^◌, ◌<◌, ◌≤◌, if◌then◌else◌, List, [], ◌++◌, pos, ◌+ℤ◌, ◌-ℤ◌, ◌*ℤ◌, ◌==◌}
use Rattle.refusal.specs.declared.kind.Kind.{Kind}
use Rattle.arithmetic.specs.Sign.{signed}
use Rattle.arithmetic.specs.Division.{floor, remainder}
use Rattle.refusal.specs.declared.seat.Seat.{Seat}
use Rattle.refusal.specs.declared.seat.Seat.TheVariants.{Zero, One}
use Rattle.protocol.specs.Course.{Course, done, and_then, Computes, Follows}
use Rattle.gadgets.specs.Shares.{SharedNumber}
use Rattle.gadgets.specs.Prices.{prices, Tallies}
use Rattle.gadgets.specs.Comparison.{compare, comparison_kinds, comparison_price}
use Rattle.gadgets.specs.Sign.{sign, top_of}
use Rattle.gadgets.specs.Flip.{flip, flip_kinds}
use Rattle.gadgets.specs.Conversion.{convert, conversion_kinds}

-- the remainders are compared: seat 0 turns its own round
abbrev pub shift_operand : Seat → ℕ → ℕ → ℕ → ℕ
shift_operand Zero w s a = 2 ^ s - 1 - remainder (signed w a) (2 ^ s)
shift_operand One w s a = remainder (signed w a) (2 ^ s)

-- from the shares of the flip and of the comparison
abbrev pub shift_share : ℕ → ℕ → ℕ → ℕ → ℕ → ℕ
shift_share w s a f m = remainder ((floor (signed w a) (2 ^ s) -ℤ pos f *ℤ pos (2 ^ (w - s))) +ℤ pos m) (2 ^ w)

abbrev pub shifted : Seat → ℕ → ℕ → ℕ → Course ℕ
shifted f w s a =
    and_then (sign f w a)
    (λ g. and_then (flip (top_of w a) g)
    (λ x. and_then (compare s (shift_operand f w s a))
    (λ c. and_then (convert c)
    (λ m. done (shift_share w s a x m)))))

-- Shift by 0 places is a copy.
abbrev pub shift : Seat → ℕ → ℕ → ℕ → Course ℕ
shift f w s a = if s == 0 then done (a % 2 ^ w) else shifted f w s a

abbrev pub shifted_kinds : ℕ → ℕ → List Kind
shifted_kinds w s = comparison_kinds (w - 1) ++ (flip_kinds ++ (comparison_kinds s ++ (conversion_kinds ++ [])))

abbrev pub shift_kinds : ℕ → ℕ → List Kind
shift_kinds w s = if s == 0 then [] else shifted_kinds w s

abbrev pub shift_price : ℕ → ℕ → Kind → ℕ
shift_price w s = if s == 0 then prices 0 0 0 else prices (comparison_price (w - 1) + comparison_price s) 2 0

-- The parties come to share the floor of the signed value over 2^s, modulo 2^w.
abbrev pub ShiftComputes : Type 0
ShiftComputes =
    (w s a b v : ℕ) → 1 < w → w ≤ 32 → s < w → SharedNumber w a b v
    → Computes Zero (λ m n. SharedNumber w m n (remainder (floor (signed w v) (2 ^ s)) (2 ^ w))) (shift Zero w s a) (shift One w s b)

abbrev pub ShiftFollows : Type 0
ShiftFollows = (f : Seat) (w s a : ℕ) → Follows (λ r. r < 2 ^ w) (shift_kinds w s) (shift f w s a)

abbrev pub ShiftTallies : Type 0
ShiftTallies = (w s : ℕ) → Tallies (shift_kinds w s) (shift_price w s)
