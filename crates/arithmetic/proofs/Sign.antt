-- The sign of a shared number, and the sum of its signed shares.
use Rattle.std.proofs.Common.{◌≡◌, ℕ, zero, suc, ◌+◌, ◌-◌, ◌*◌, ◌/◌, ◌%◌, ◌^◌, ◌<◌, ◌≤◌, true, if◌then◌else◌, nat_lt, nat_le, ◌⊎◌, pos, ◌+ℤ◌, ◌-ℤ◌, ◌*ℤ◌, inl, inr, mod-eq_of_lt, arith, pow_pos}
use Rattle.std.proofs.Math.Nat.{div-eq_of_lt}
use Rattle.std.proofs.lemmas.Bool.{cases_lt}
use Rattle.std.proofs.lemmas.Int.{ints}
use Rattle.std.proofs.lemmas.Nat.{div-mul-add, mod-mul-add}
use Rattle.std.proofs.lemmas.Bool.Decides.{nat_tests}
use Rattle.arithmetic.specs.Bits.{xor, bit}
use Rattle.arithmetic.specs.Sign.{half, top, flip}
use Rattle.arithmetic.specs.Theorems.{SignByCarry, SignIsSigned, SignedSharesAdd}

pub twice : (w : ℕ) → 0 < w → 2 ^ w ≡ half w + half w
twice zero h = omega arith
twice (suc k) h =
    let e : suc k - 1 ≡ k = omega arith in
    rw e (omega arith)

-- a number below 2 * m, with its quotient and its remainder
pub below_two : (m a : ℕ) → a < m + m → ((a < m) × (a / m ≡ 0) × (a % m ≡ a)) ⊎ ((m ≤ a) × (a / m ≡ 1) × (a ≡ m + a % m))
below_two m a h = elim (cases_lt a m) [ inl l ↦ inl (l, div-eq_of_lt l, mod-eq_of_lt l) | inr g ↦ inr (g, q g, r g) ]
  where
    q : m ≤ a → a / m ≡ 1
    q g = let e : 1 * m + (a - m) ≡ a = omega arith in rw e at (div-mul-add 1 m (a - m) (omega arith))

    r : m ≤ a → a ≡ m + a % m
    r g =
        let e : 1 * m + (a - m) ≡ a = omega arith in
        let f : a % m ≡ a - m = rw e at (mod-mul-add 1 m (a - m) (omega arith)) in
        omega arith

-- the top bit as a number
pub top_bit : (w a : ℕ) → 0 < w → a < 2 ^ w → bit (top w a) ≡ a / half w
top_bit w a h k =
    let e = twice w h in
    let c = below_two (half w) a (omega arith) in
    grind arith

sign_at : (m n a b : ℕ) → 0 < m → n ≡ m + m → a < n → b < n → nat_lt ((a + b) % n) m ≡ xor true (xor (nat_le m a) (xor (nat_le m b) (nat_lt (m - 1 - a % m) (b % m))))
sign_at m n a b p e h k =
    let ca = below_two m a (omega arith) in
    let cb = below_two m b (omega arith) in
    let cs = below_two n (a + b) (omega arith) in
    grind arith

pub sign_by_carry : SignByCarry
sign_by_carry w a b p h k = sign_at (half w) (2 ^ w) a b (pow_pos (w - 1)) (twice w p) h k

pub sign_is_signed : SignIsSigned
sign_is_signed w v h k = let e = twice w h in grind (arith, ints)

signed_at : (m n a b : ℕ) → 0 < m → n ≡ m + m → a < n → b < n
    → (if nat_lt a m then pos a else pos a -ℤ pos n) +ℤ (if nat_lt b m then pos b else pos b -ℤ pos n)
    ≡ (if nat_lt ((a + b) % n) m then pos ((a + b) % n) else pos ((a + b) % n) -ℤ pos n) +ℤ flip (nat_le m a) (nat_le m b) (nat_lt ((a + b) % n) m) *ℤ pos n
signed_at m n a b p e h k =
    let cs = below_two n (a + b) (omega arith) in
    grind (arith, nat_tests, ints)

pub signed_shares_add : SignedSharesAdd
signed_shares_add w a b p h k = signed_at (half w) (2 ^ w) a b (pow_pos (w - 1)) (twice w p) h k
