-- The tests of the excess as signs, and the width for them.
use Rattle.std.proofs.Common.{◌≡◌, ℕ, zero, suc, ◌+◌, ◌*◌, ◌^◌, ◌<◌, ◌≤◌, ℤ, pos, ◌-ℤ◌, neg_ℤ, ◌<ℤ◌, sym, ap, ◌∙◌, mul-le-mul_right, arith, pow_pos, int_le}
use Rattle.std.proofs.lemmas.Int.{ints}
use Rattle.std.proofs.lemmas.Bool.{cases_eq}
use Rattle.std.proofs.lemmas.Bool.Decides.{nat_tests}
use Rattle.arithmetic.specs.Sign.{shared_value, not_negative, signed}
use Rattle.arithmetic.specs.Division.{remainder, excess}
use Rattle.arithmetic.specs.Tests.{least, test_width}
use Rattle.arithmetic.specs.Theorems.{TestsRead, TestWidthLeast}
use Rattle.arithmetic.proofs.Sign.{twice, sign_is_signed}
use Rattle.arithmetic.proofs.Integers.{floor_exact, read_back}
use Rattle.arithmetic.proofs.Division.{excess_bounded}

-- a width with room for 6 * d has two bits and more
pub wide : (e d : ℕ) → 0 < d → 6 * d ≤ 2 ^ e → 1 < e
wide zero d p h = omega arith
wide (suc zero) d p h = omega arith
wide (suc (suc e)) d p h = omega arith

-- a number from -3 * d to 3 * d, from its remainder modulo 2^e
read_at : (t : ℤ) (d e c v : ℕ) → 0 < d → 6 * d ≤ 2 ^ e → c ≤ 2 * d → neg_ℤ (pos d) <ℤ t → t <ℤ pos (3 * d) → v ≡ remainder (t -ℤ pos c) (2 ^ e) → not_negative e v ≡ int_le (pos c) t
read_at t d e c v h l hc lo hi eq =
    let o = wide e d h l in
    let p : 0 < e = omega arith in
    let tw = twice e p in
    let back = read_back e (t -ℤ pos c) p (omega (arith, ints)) (omega (arith, ints)) in
    let below : v < 2 ^ e = rw eq (floor_exact (t -ℤ pos c) (2 ^ e) (pow_pos e)).1 in
    let sg : signed e v ≡ t -ℤ pos c = rw eq back in
    sym (sign_is_signed e v p below) ∙ ap (int_le (pos 0)) sg ∙ moved t c
  where
    moved : (t : ℤ) (c : ℕ) → int_le (pos 0) (t -ℤ pos c) ≡ int_le (pos c) t
    moved t c = grind (arith, ints)

pub tests_read : TestsRead
tests_read w d a b e j x y h l hj eq =
    let bounds = excess_bounded w d a b h in
    read_at (excess w d a b) d e (j * d) (shared_value e x y) h l (mul-le-mul_right d hj) bounds.0 bounds.1 eq

least_fits : (k e n : ℕ) → n ≤ 2 ^ (e + k) → (n ≤ 2 ^ least k e n) × (least k e n ≤ e + k)
least_fits zero e n h = let s : e + 0 ≡ e = omega arith in (rw s at h, omega arith)
least_fits (suc k) e n h =
    let s : e + suc k ≡ e + 1 + k = omega arith in
    let r = least_fits k (e + 1) n (rw s at h) in
    grind (arith, nat_tests)

least_first : (k e n i : ℕ) → e ≤ i → i < least k e n → 2 ^ i < n
least_first zero e n i h l = absurd (omega arith)
least_first (suc k) e n i h l =
    let r = least_first k (e + 1) n i in
    let c = cases_eq i e in
    grind (arith, nat_tests)

pub test_width_least : TestWidthLeast
unfolding test_width
test_width_least d p h = ((least_fits 32 0 (6 * d) (omega arith)).0, λ i l. least_first 32 0 (6 * d) i (omega arith) l)

pub test_width_below : (d : ℕ) → d < 2 ^ 16 → test_width d ≤ 32
unfolding test_width
test_width_below d h = (least_fits 32 0 (6 * d) (omega arith)).1
