-- Division of a shared number of w bits by a public d, rounded towards minus infinity.
use Rattle.std.specs.Prelude.{ℕ, ◌+◌, ◌-◌, ◌*◌, ◌/◌, ◌%◌, ◌^◌, ◌<◌, ◌≤◌, if◌then◌else◌, List, [], ◌++◌, ℤ, pos, ◌+ℤ◌, ◌-ℤ◌, ◌*ℤ◌, ◌==◌}
use Rattle.refusal.specs.declared.kind.Kind.{Kind}
use Rattle.arithmetic.specs.Sign.{signed}
use Rattle.arithmetic.specs.Division.{floor, remainder}
use Rattle.arithmetic.specs.Tests.{test_width}
use Rattle.refusal.specs.declared.seat.Seat.{Seat}
use Rattle.refusal.specs.declared.seat.Seat.TheVariants.{Zero, One}
use Rattle.protocol.specs.Course.{Course, done, and_then, Computes, Follows}
use Rattle.gadgets.specs.Shares.{SharedNumber}
use Rattle.gadgets.specs.Prices.{prices, Tallies}
use Rattle.gadgets.specs.Comparison.{comparison_kinds, comparison_price}
use Rattle.gadgets.specs.Sign.{sign, top_of}
use Rattle.gadgets.specs.Flip.{flip, flip_kinds}
use Rattle.gadgets.specs.Conversion.{convert, conversion_kinds}

-- what seat 0 alone puts in
abbrev pub alone : Seat → ℕ → ℤ
alone Zero n = pos n
alone One n = pos 0

-- from a party's share a of the number and its share x of the flip, its share of the excess less j * d, at the test width
abbrev pub excess_share : Seat → ℕ → ℕ → ℕ → ℕ → ℕ → ℕ
excess_share f w d a x j = remainder ((pos (remainder (signed w a) d) -ℤ pos x *ℤ pos (2 ^ w % d)) -ℤ alone f (j * d)) (2 ^ test_width d)

-- whether the excess is j * d and more, as a number
abbrev pub test : Seat → ℕ → ℕ → ℕ → ℕ → ℕ → Course ℕ
test f w d a x j = and_then (sign f (test_width d) (excess_share f w d a x j)) convert

-- from the shares of the flip and of the three tests
abbrev pub quotient_share : Seat → ℕ → ℕ → ℕ → ℕ → ℕ → ℕ → ℕ → ℕ
quotient_share f w d a x m0 m1 m2 = remainder (((floor (signed w a) d -ℤ pos x *ℤ pos (2 ^ w / d)) -ℤ alone f 1) +ℤ pos (m0 + m1 + m2)) (2 ^ w)

abbrev pub divided : Seat → ℕ → ℕ → ℕ → Course ℕ
divided f w d a =
    and_then (sign f w a)
    (λ g. and_then (flip (top_of w a) g)
    (λ x. and_then (test f w d a x 0)
    (λ m0. and_then (test f w d a x 1)
    (λ m1. and_then (test f w d a x 2)
    (λ m2. done (quotient_share f w d a x m0 m1 m2))))))

-- Division by 1 is a copy.
abbrev pub divide : Seat → ℕ → ℕ → ℕ → Course ℕ
divide f w d a = if d == 1 then done (a % 2 ^ w) else divided f w d a

abbrev pub test_kinds : ℕ → List Kind
test_kinds d = comparison_kinds (test_width d - 1) ++ conversion_kinds

abbrev pub divided_kinds : ℕ → ℕ → List Kind
divided_kinds w d = comparison_kinds (w - 1) ++ (flip_kinds ++ (test_kinds d ++ (test_kinds d ++ (test_kinds d ++ []))))

abbrev pub division_kinds : ℕ → ℕ → List Kind
division_kinds w d = if d == 1 then [] else divided_kinds w d

abbrev pub division_price : ℕ → ℕ → Kind → ℕ
division_price w d = if d == 1 then prices 0 0 0 else prices (comparison_price (w - 1) + 3 * comparison_price (test_width d - 1)) 4 0

-- The parties come to share the floor of the signed value over d, modulo 2^w.
abbrev pub DivisionComputes : Type 0
DivisionComputes =
    (w d a b v : ℕ) → 1 < w → w ≤ 32 → 0 < d → d < 2 ^ 16 → SharedNumber w a b v
    → Computes Zero (λ m n. SharedNumber w m n (remainder (floor (signed w v) d) (2 ^ w))) (divide Zero w d a) (divide One w d b)

abbrev pub DivisionFollows : Type 0
DivisionFollows = (f : Seat) (w d a : ℕ) → Follows (λ r. r < 2 ^ w) (division_kinds w d) (divide f w d a)

abbrev pub DivisionTallies : Type 0
DivisionTallies = (w d : ℕ) → Tallies (division_kinds w d) (division_price w d)
