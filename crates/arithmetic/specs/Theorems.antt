-- What is proved of comparison, sign, division and shift of shared numbers.
use Rattle.std.specs.Prelude.{◌≡◌, ℕ, ◌+◌, ◌-◌, ◌*◌, ◌/◌, ◌^◌, ◌<◌, ◌≤◌, true, [], ◌∷◌, ℤ, pos, ◌+ℤ◌, ◌-ℤ◌, ◌*ℤ◌, neg_ℤ, ◌<ℤ◌, int_le, nat_lt}
use Rattle.arithmetic.specs.Bits.{xor, bit}
use Rattle.arithmetic.specs.Comparison.{levels, digits, pair, pairs}
use Rattle.arithmetic.specs.Sign.{top, shared_value, carry, not_negative, signed, flip_of}
use Rattle.arithmetic.specs.Division.{floor, remainder, excess, steps}
use Rattle.arithmetic.specs.Tests.{test_width}

-- After as many levels as there are digits one pair is left, and it compares the numbers.
abbrev pub DigitsCompare : Type 0
DigitsCompare = (n x y : ℕ) → 0 < n → x < 16 ^ n → y < 16 ^ n → levels n (pairs (digits n x) (digits n y)) ≡ pair x y ∷ []

-- A number of v bits has v / 4 digits, rounded up.
abbrev pub DigitsSuffice : Type 0
DigitsSuffice = (v x : ℕ) → x < 2 ^ v → x < 16 ^ ((v + 3) / 4)

-- The sign is in the shares' top bits and the carry.
abbrev pub SignByCarry : Type 0
SignByCarry = (w a b : ℕ) → 0 < w → a < 2 ^ w → b < 2 ^ w → not_negative w (shared_value w a b) ≡ xor true (xor (top w a) (xor (top w b) (carry w a b)))

-- A number of w bits that is not negative is one of which the signed value is not.
abbrev pub SignIsSigned : Type 0
SignIsSigned = (w v : ℕ) → 0 < w → v < 2 ^ w → int_le (pos 0) (signed w v) ≡ not_negative w v

-- The signed shares add up to the signed value and the flip times 2^w.
abbrev pub SignedSharesAdd : Type 0
SignedSharesAdd = (w a b : ℕ) → 0 < w → a < 2 ^ w → b < 2 ^ w → signed w a +ℤ signed w b ≡ signed w (shared_value w a b) +ℤ flip_of w a b *ℤ pos (2 ^ w)

-- The floor and the remainder are what they should be, and there are no others.
abbrev pub FloorExact : Type 0
FloorExact = (z : ℤ) (d : ℕ) → 0 < d → (z ≡ floor z d *ℤ pos d +ℤ pos (remainder z d)) × (remainder z d < d)

abbrev pub FloorUnique : Type 0
FloorUnique = (z q : ℤ) (d r : ℕ) → r < d → z ≡ q *ℤ pos d +ℤ pos r → (floor z d ≡ q) × (remainder z d ≡ r)

-- The quotient of a number of w bits has w bits.
abbrev pub FloorFits : Type 0
FloorFits = (w v d : ℕ) → 0 < w → v < 2 ^ w → signed w (remainder (floor (signed w v) d) (2 ^ w)) ≡ floor (signed w v) d

abbrev pub ExcessBounded : Type 0
ExcessBounded = (w d a b : ℕ) → 0 < d → (neg_ℤ (pos d) <ℤ excess w d a b) × (excess w d a b <ℤ pos (3 * d))

-- The quotient of the value, from the quotients of the signed shares, the flip and three tests of the excess.
abbrev pub QuotientsAdd : Type 0
QuotientsAdd =
    (w d a b : ℕ) → 0 < w → 0 < d → a < 2 ^ w → b < 2 ^ w
    → floor (signed w (shared_value w a b)) d
    ≡ (((floor (signed w a) d +ℤ floor (signed w b) d) -ℤ flip_of w a b *ℤ pos (2 ^ w / d)) -ℤ pos 1) +ℤ steps (excess w d a b) d

-- At a power of two one comparison of the remainders does.
abbrev pub ShiftsAdd : Type 0
ShiftsAdd =
    (w s a b : ℕ) → 0 < w → s ≤ w → a < 2 ^ w → b < 2 ^ w
    → floor (signed w (shared_value w a b)) (2 ^ s)
    ≡ ((floor (signed w a) (2 ^ s) +ℤ floor (signed w b) (2 ^ s)) -ℤ flip_of w a b *ℤ pos (2 ^ (w - s)))
    +ℤ pos (bit (nat_lt (2 ^ s - 1 - remainder (signed w a) (2 ^ s)) (remainder (signed w b) (2 ^ s))))

-- Tests of the excess against 0, d and 2 * d are signs at each width with room for 6 * d.
abbrev pub TestsRead : Type 0
TestsRead =
    (w d a b e j x y : ℕ) → 0 < d → 6 * d ≤ 2 ^ e → j ≤ 2
    → shared_value e x y ≡ remainder (excess w d a b -ℤ pos (j * d)) (2 ^ e)
    → not_negative e (shared_value e x y) ≡ int_le (pos (j * d)) (excess w d a b)

-- The test width has that room, and no smaller one has it.
abbrev pub TestWidthLeast : Type 0
TestWidthLeast = (d : ℕ) → 0 < d → d < 2 ^ 16 → (6 * d ≤ 2 ^ test_width d) × ((i : ℕ) → i < test_width d → 2 ^ i < 6 * d)
