-- Shared numbers, modulo 2^32 and modulo smaller powers of two.
use Rattle.std.proofs.Common.{◌≡◌, ℕ, ◌+◌, ◌-◌, ◌*◌, ◌/◌, ◌%◌, ◌^◌, ◌<◌, ◌≤◌, Bool, true, false, ℤ, pos, ◌+ℤ◌, ◌-ℤ◌, ◌*ℤ◌, neg_ℤ, sym, refl, ap, ◌∙◌, ap₂, mod-lt, mod-eq_of_lt, mul_assoc, mul_comm, div-add-mod', arith, pow_pos, pow-add}
use Rattle.std.proofs.Math.Nat.{mod-mod_of_dvd, dvd-mul_right}
use Rattle.std.proofs.lemmas.Int.{ints}
use Rattle.arithmetic.specs.Bits.{bit}
use Rattle.arithmetic.specs.Sign.{shared_value, signed}
use Rattle.arithmetic.specs.Division.{floor, remainder}
use Rattle.arithmetic.proofs.Integers.{floor_exact, floor_unique, remainder_sum, mul_sum, mul_neg, mul_mul, signed_back}
use Rattle.gadgets.specs.Shares.{SharedNumber}

-- the shares that a lookup of numbers gives
pub from_ring : (x y v : ℕ) → x < 2 ^ 32 → y < 2 ^ 32 → (y + x) % 2 ^ 32 ≡ v → SharedNumber 32 (x % 2 ^ 32) (y % 2 ^ 32) v
from_ring x y v hx hy e = record { below_0 = omega arith; below_1 = omega arith; adds = omega arith }

-- numbers that agree modulo 2^32 agree modulo a smaller power of two
pub narrowed : (w x y : ℕ) → w ≤ 32 → x % 2 ^ 32 ≡ y % 2 ^ 32 → x % 2 ^ w ≡ y % 2 ^ w
narrowed w x y h e = sym (within x) ∙ ap (λ n. n % 2 ^ w) e ∙ within y
  where
    within : (x : ℕ) → x % 2 ^ 32 % 2 ^ w ≡ x % 2 ^ w
    within x =
        let s : w + (32 - w) ≡ 32 = omega arith in
        let p : 2 ^ 32 ≡ 2 ^ w * 2 ^ (32 - w) = ap (λ n. 2 ^ n) (sym s) ∙ pow-add 2 w (32 - w) in
        mod-mod_of_dvd (2 ^ w) x (rw p (dvd-mul_right (2 ^ w) (2 ^ (32 - w))))

-- shares of z modulo n add up to z and some times n
pub sum_at : (x y : ℕ) (z : ℤ) (n : ℕ) → 0 < n → (x + y) % n ≡ remainder z n → (k : ℤ) × (pos x +ℤ pos y ≡ z +ℤ k *ℤ pos n)
sum_at x y z n h e =
    let f = (floor_exact z n h).0 in
    let dm = div-add-mod' (x + y) n in (
      pos ((x + y) / n) -ℤ floor z n,
      rw (mul_sum (pos ((x + y) / n)) (neg_ℤ (floor z n)) n, mul_neg (floor z n) n)
          (linear (x + y) ((x + y) / n * n) x y ((x + y) % n) (remainder z n) z (floor z n *ℤ pos n) refl (sym dm) e f),
    )
  where
    linear : (m t x y r o : ℕ) (z q : ℤ) → m ≡ x + y → m ≡ t + r → r ≡ o → z ≡ q +ℤ pos o → pos x +ℤ pos y ≡ z +ℤ (pos t +ℤ neg_ℤ q)
    linear m t x y r o z q em et er ez = omega (arith, ints)

-- .. and so do their multiples, modulo a smaller power of two
pub scaled : (x y z k : ℤ) (w c : ℕ) → w ≤ 32 → x +ℤ y ≡ z +ℤ k *ℤ pos (2 ^ 32) → x *ℤ pos c +ℤ y *ℤ pos c ≡ z *ℤ pos c +ℤ (k *ℤ pos (2 ^ (32 - w) * c)) *ℤ pos (2 ^ w)
scaled x y z k w c h e =
    let s : w + (32 - w) ≡ 32 = omega arith in
    let p : 2 ^ 32 * c ≡ 2 ^ (32 - w) * c * 2 ^ w = ap (λ n. 2 ^ n * c) (sym s) ∙ rw (pow-add 2 w (32 - w)) (swap (2 ^ w) (2 ^ (32 - w)) c) in
    let l : x *ℤ pos c +ℤ y *ℤ pos c ≡ z *ℤ pos c +ℤ k *ℤ pos (2 ^ 32 * c) = sym (mul_sum x y c) ∙ ap (λ n. n *ℤ pos c) e ∙ mul_sum z (k *ℤ pos (2 ^ 32)) c ∙ ap (λ n. z *ℤ pos c +ℤ n) (mul_mul k (2 ^ 32) c) in
    l ∙ ap (λ n. z *ℤ pos c +ℤ k *ℤ pos n) p ∙ ap (λ n. z *ℤ pos c +ℤ n) (sym (mul_mul k (2 ^ (32 - w) * c) (2 ^ w)))
  where
    swap : (a b c : ℕ) → a * b * c ≡ b * c * a
    swap a b c = mul_assoc a b c ∙ mul_comm a (b * c)

-- numbers that add up to z and some times 2^w have remainders that share z
pub joined : (w : ℕ) (x y z k : ℤ) → x +ℤ y ≡ z +ℤ k *ℤ pos (2 ^ w) → SharedNumber w (remainder x (2 ^ w)) (remainder y (2 ^ w)) (remainder z (2 ^ w))
joined w x y z k e =
    let n = 2 ^ w in
    let h : 0 < 2 ^ w = pow_pos w in
    let f = floor_exact z n h in
    record {
      below_0 = (floor_exact x n h).1;
      below_1 = (floor_exact y n h).1;
      adds = remainder_sum x y n h
          ∙ (floor_unique (x +ℤ y) (floor z n +ℤ k) n (remainder z n) f.1 (e ∙ rw (mul_sum (floor z n) k n) (linear z (floor z n *ℤ pos n) (k *ℤ pos n) (remainder z n) f.0))).1;
    }
  where
    linear : (z q r : ℤ) (o : ℕ) → z ≡ q +ℤ pos o → z +ℤ r ≡ (q +ℤ r) +ℤ pos o
    linear z q r o ez = omega (arith, ints)

-- a bit as a shared number of 32 bits, modulo a smaller power of two
pub bit_sum : (x y w : ℕ) (v : Bool) → w ≤ 32 → SharedNumber 32 x y (bit v) → (k : ℤ) × (pos x +ℤ pos y ≡ pos (bit v) +ℤ k *ℤ pos (2 ^ w))
bit_sum x y w v h s =
    let a = sum_at x y (pos (bit v)) (2 ^ 32) (pow_pos 32) (s.adds ∙ whole v) in
    let e = scaled (pos x) (pos y) (pos (bit v)) a.0 w 1 h a.1 in
    (a.0 *ℤ pos (2 ^ (32 - w) * 1), ones (pos x) (pos y) (pos (bit v)) ((a.0 *ℤ pos (2 ^ (32 - w) * 1)) *ℤ pos (2 ^ w)) e)
  where
    whole : (v : Bool) → bit v ≡ remainder (pos (bit v)) (2 ^ 32)
    whole true = refl
    whole false = refl

    ones : (x y z k : ℤ) → x *ℤ pos 1 +ℤ y *ℤ pos 1 ≡ z *ℤ pos 1 +ℤ k → x +ℤ y ≡ z +ℤ k
    ones x y z k e = omega (arith, ints)

-- shares that are copied, at a quotient that is the number
pub copied : (w a b : ℕ) (z : ℤ) → a < 2 ^ w → b < 2 ^ w → z ≡ signed w (shared_value w a b) → SharedNumber w (a % 2 ^ w) (b % 2 ^ w) (remainder z (2 ^ w))
copied w a b z ha hb e =
    let p : 0 < 2 ^ w = pow_pos w in
    record {
      below_0 = mod-lt a p;
      below_1 = mod-lt b p;
      adds = ap₂ (shared_value w) (mod-eq_of_lt ha) (mod-eq_of_lt hb) ∙ sym (signed_back w (shared_value w a b) (mod-lt (a + b) p)) ∙ ap (λ x. remainder x (2 ^ w)) (sym e);
    }
