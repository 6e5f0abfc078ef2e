-- The division's two courses compute the floor of the signed value over d.
use Rattle.std.proofs.Common.{◌≡◌, ℕ, ◌+◌, ◌-◌, ◌*◌, ◌/◌, ◌%◌, ◌^◌, ◌<◌, ◌≤◌, Bool, true, false, if◌then◌else◌, ◌==◌, [], ℤ, pos, ◌+ℤ◌, ◌-ℤ◌, ◌*ℤ◌, neg_ℤ, sym, refl, ap, ◌∙◌, mod-lt, one-mul, zero-mul, arith, pow_pos, int_le}
use Rattle.std.proofs.lemmas.Int.{ints}
use Rattle.std.proofs.lemmas.Bool.{eqb-true}
use Rattle.refusal.specs.declared.kind.Kind.TheVariants.{Bit}
use Rattle.arithmetic.specs.Bits.{bit}
use Rattle.arithmetic.specs.Sign.{shared_value, not_negative, signed, flip_of}
use Rattle.arithmetic.specs.Division.{floor, remainder, excess, steps}
use Rattle.arithmetic.specs.Tests.{test_width}
use Rattle.arithmetic.proofs.Integers.{floor_exact, mul_sum, mul_neg, floor_one}
use Rattle.arithmetic.proofs.Division.{quotients_add}
use Rattle.arithmetic.proofs.Tests.{wide, tests_read, test_width_least, test_width_below}
use Rattle.refusal.specs.declared.seat.Seat.{Seat}
use Rattle.refusal.specs.declared.seat.Seat.TheVariants.{Zero, One}
use Rattle.protocol.specs.Course.{done, Computes, Follows, ends}
use Rattle.protocol.proofs.Binding.{then_computes, then_follows}
use Rattle.gadgets.specs.Shares.{SharedNumber}
use Rattle.gadgets.specs.Prices.{prices, Tallies}
use Rattle.gadgets.specs.Comparison.{comparison_price}
use Rattle.gadgets.specs.Sign.{top_of}
use Rattle.gadgets.specs.Division.{alone, excess_share, test, quotient_share, divided, test_kinds, divided_kinds, DivisionComputes, DivisionFollows, DivisionTallies}
use Rattle.gadgets.proofs.Numbers.{sum_at, scaled, joined, bit_sum, copied}
use Rattle.gadgets.proofs.Prices.{tally_append, tallies_none, tallies_bits}
use Rattle.gadgets.proofs.Sign.{sign_computes, sign_follows}
use Rattle.gadgets.proofs.Flip.{flip_computes, flip_follows}
use Rattle.gadgets.proofs.Conversion.{conversion_computes, conversion_follows}

test_linear : (r u j : ℕ) (a b f k : ℤ) → a +ℤ b ≡ f +ℤ k → ((pos r -ℤ a) -ℤ pos j) +ℤ ((pos u -ℤ b) -ℤ pos 0) ≡ (((pos r +ℤ pos u) -ℤ f) -ℤ pos j) +ℤ neg_ℤ k
test_linear r u j a b f k e = omega (arith, ints)

-- one test, from shares f and g of the flip
test_computes : (w d a b f g j : ℕ) (k : ℤ) → 0 < d → d < 2 ^ 16 → j ≤ 2 → pos f +ℤ pos g ≡ flip_of w a b +ℤ k *ℤ pos (2 ^ 32)
    → Computes Zero (λ m n. SharedNumber 32 m n (bit (int_le (pos (j * d)) (excess w d a b)))) (test Zero w d a f j) (test One w d b g j)
test_computes w d a b f g j k p l hj ef =
    let e = test_width d in
    let h = (test_width_least d p l).0 in
    let n0 = 2 ^ w % d in
    let x = (pos (remainder (signed w a) d) -ℤ pos f *ℤ pos n0) -ℤ pos (j * d) in
    let y = (pos (remainder (signed w b) d) -ℤ pos g *ℤ pos n0) -ℤ pos 0 in
    let m = k *ℤ pos (2 ^ (32 - e) * n0) in
    let s : x +ℤ y ≡ (excess w d a b -ℤ pos (j * d)) +ℤ neg_ℤ m *ℤ pos (2 ^ e)
    = test_linear (remainder (signed w a) d) (remainder (signed w b) d) (j * d) (pos f *ℤ pos n0) (pos g *ℤ pos n0) (flip_of w a b *ℤ pos n0) (m *ℤ pos (2 ^ e))
    (scaled (pos f) (pos g) (flip_of w a b) k e n0 (test_width_below d l) ef) ∙ ap (λ z. (excess w d a b -ℤ pos (j * d)) +ℤ z) (sym (mul_neg m (2 ^ e))) in
    let sh = joined e x y (excess w d a b -ℤ pos (j * d)) (neg_ℤ m) s in
    let t : not_negative e (shared_value e (remainder x (2 ^ e)) (remainder y (2 ^ e))) ≡ int_le (pos (j * d)) (excess w d a b)
    = tests_read w d a b e j (remainder x (2 ^ e)) (remainder y (2 ^ e)) p h hj sh.adds in
    let sg = sign_computes e (remainder x (2 ^ e)) (remainder y (2 ^ e)) (shared_value e (remainder x (2 ^ e)) (remainder y (2 ^ e))) (wide e d p h) (record { below_0 = sh.below_0; below_1 = sh.below_1; adds = refl }) in
    then_computes
    (rw t at sg)
    (λ b0 b1 sb. conversion_computes b0 b1 (int_le (pos (j * d)) (excess w d a b)) sb)

add_two : (b0 k0 b1 k1 : ℤ) (x0 x1 y0 y1 : ℕ) → pos x0 +ℤ pos y0 ≡ b0 +ℤ k0 → pos x1 +ℤ pos y1 ≡ b1 +ℤ k1 → pos (x0 + x1) +ℤ pos (y0 + y1) ≡ (b0 +ℤ b1) +ℤ (k0 +ℤ k1)
add_two b0 k0 b1 k1 x0 x1 y0 y1 e0 e1 = omega (arith, ints)

divide_linear : (q p a b f k c l : ℤ) (x y : ℕ) → a +ℤ b ≡ f +ℤ k → pos x +ℤ pos y ≡ c +ℤ l
    → (((q -ℤ a) -ℤ pos 1) +ℤ pos x) +ℤ (((p -ℤ b) -ℤ pos 0) +ℤ pos y) ≡ ((((q +ℤ p) -ℤ f) -ℤ pos 1) +ℤ c) +ℤ (neg_ℤ k +ℤ l)
divide_linear q p a b f k c l x y e e0 = omega (arith, ints)

spread : (m a b c : ℤ) (n : ℕ) → (neg_ℤ m +ℤ ((a +ℤ b) +ℤ c)) *ℤ pos n ≡ neg_ℤ (m *ℤ pos n) +ℤ ((a *ℤ pos n +ℤ b *ℤ pos n) +ℤ c *ℤ pos n)
spread m a b c n = rw (mul_sum, mul_sum, mul_sum, mul_neg) refl

-- the parties' shares of the quotient, from shares of the flip and of the three tests
quotient_shared : (w d a b f g : ℕ) (k : ℤ) (x0 y0 x1 y1 x2 y2 : ℕ) → 0 < w → w ≤ 32 → 0 < d → a < 2 ^ w → b < 2 ^ w
    → pos f +ℤ pos g ≡ flip_of w a b +ℤ k *ℤ pos (2 ^ 32)
    → SharedNumber 32 x0 y0 (bit (int_le (pos (0 * d)) (excess w d a b))) → SharedNumber 32 x1 y1 (bit (int_le (pos (1 * d)) (excess w d a b))) → SharedNumber 32 x2 y2 (bit (int_le (pos (2 * d)) (excess w d a b)))
    → SharedNumber w (quotient_share Zero w d a f x0 x1 x2) (quotient_share One w d b g y0 y1 y2) (remainder (floor (signed w (shared_value w a b)) d) (2 ^ w))
quotient_shared w d a b f g k x0 y0 x1 y1 x2 y2 w0 lw pd ha hb ef s0 s1 s2 =
    let n = 2 ^ w in
    let n1 = 2 ^ w / d in
    let t = excess w d a b in
    let q = floor (signed w a) d in
    let p = floor (signed w b) d in
    let t0 = pos (bit (int_le (pos 0) t)) in
    let t1 = pos (bit (int_le (pos d) t)) in
    let t2 = pos (bit (int_le (pos (2 * d)) t)) in
    let b0 = bit_sum x0 y0 w (int_le (pos 0) t) lw (rw (zero-mul d) at s0) in
    let b1 = bit_sum x1 y1 w (int_le (pos d) t) lw (rw (one-mul d) at s1) in
    let b2 = bit_sum x2 y2 w (int_le (pos (2 * d)) t) lw s2 in
    let m = k *ℤ pos (2 ^ (32 - w) * n1) in
    let e2 : pos (x0 + x1) +ℤ pos (y0 + y1) ≡ (t0 +ℤ t1) +ℤ (b0.0 *ℤ pos n +ℤ b1.0 *ℤ pos n) = add_two t0 (b0.0 *ℤ pos n) t1 (b1.0 *ℤ pos n) x0 x1 y0 y1 b0.1 b1.1 in
    let e3 : pos (x0 + x1 + x2) +ℤ pos (y0 + y1 + y2) ≡ steps t d +ℤ ((b0.0 *ℤ pos n +ℤ b1.0 *ℤ pos n) +ℤ b2.0 *ℤ pos n)
    = add_two (t0 +ℤ t1) (b0.0 *ℤ pos n +ℤ b1.0 *ℤ pos n) t2 (b2.0 *ℤ pos n) (x0 + x1) x2 (y0 + y1) y2 e2 b2.1 in
    let z = (((q +ℤ p) -ℤ flip_of w a b *ℤ pos n1) -ℤ pos 1) +ℤ steps t d in
    let e : (((q -ℤ pos f *ℤ pos n1) -ℤ pos 1) +ℤ pos (x0 + x1 + x2)) +ℤ (((p -ℤ pos g *ℤ pos n1) -ℤ pos 0) +ℤ pos (y0 + y1 + y2)) ≡ z +ℤ (neg_ℤ m +ℤ ((b0.0 +ℤ b1.0) +ℤ b2.0)) *ℤ pos n
    = divide_linear q p (pos f *ℤ pos n1) (pos g *ℤ pos n1) (flip_of w a b *ℤ pos n1) (m *ℤ pos n) (steps t d) ((b0.0 *ℤ pos n +ℤ b1.0 *ℤ pos n) +ℤ b2.0 *ℤ pos n) (x0 + x1 + x2) (y0 + y1 + y2)
    (scaled (pos f) (pos g) (flip_of w a b) k w n1 lw ef) e3
    ∙ ap (λ r. z +ℤ r) (sym (spread m b0.0 b1.0 b2.0 n)) in
    rw (quotients_add w d a b w0 pd ha hb) (joined w (((q -ℤ pos f *ℤ pos n1) -ℤ pos 1) +ℤ pos (x0 + x1 + x2)) (((p -ℤ pos g *ℤ pos n1) -ℤ pos 0) +ℤ pos (y0 + y1 + y2)) z (neg_ℤ m +ℤ ((b0.0 +ℤ b1.0) +ℤ b2.0)) e)

divided_computes : (w d a b : ℕ) → 1 < w → w ≤ 32 → 0 < d → d < 2 ^ 16 → a < 2 ^ w → b < 2 ^ w
    → Computes Zero (λ m n. SharedNumber w m n (remainder (floor (signed w (shared_value w a b)) d) (2 ^ w))) (divided Zero w d a) (divided One w d b)
divided_computes w d a b hw lw pd hd ha hb =
    let w0 : 0 < w = omega arith in
    then_computes (sign_computes w a b (shared_value w a b) hw (record { below_0 = ha; below_1 = hb; adds = refl }))
    (λ g h sg. then_computes (flip_computes w a b g h w0 ha hb sg)
    (λ f f' sf.
    let k = sum_at f f' (flip_of w a b) (2 ^ 32) (pow_pos 32) sf.adds in
    then_computes (test_computes w d a b f f' 0 k.0 pd hd (omega arith) k.1)
    (λ x0 y0 s0. then_computes (test_computes w d a b f f' 1 k.0 pd hd (omega arith) k.1)
    (λ x1 y1 s1. then_computes (test_computes w d a b f f' 2 k.0 pd hd (omega arith) k.1)
    (λ x2 y2 s2. ends (quotient_shared w d a b f f' k.0 x0 y0 x1 y1 x2 y2 w0 lw pd ha hb k.1 s0 s1 s2))))))

pub division_computes : DivisionComputes
division_computes w d a b v hw lw pd hd s =
    rw (← s.adds) (go (d == 1) refl)
  where
    go : (c : Bool) → (d == 1) ≡ c → Computes Zero (λ m n. SharedNumber w m n (remainder (floor (signed w (shared_value w a b)) d) (2 ^ w))) (if c then done (a % 2 ^ w) else divided Zero w d a) (if c then done (b % 2 ^ w) else divided One w d b)
    go true e = ends (copied w a b (floor (signed w (shared_value w a b)) d) s.below_0 s.below_1 (ap (floor (signed w (shared_value w a b))) (eqb-true d 1 e) ∙ floor_one (signed w (shared_value w a b))))
    go false e = divided_computes w d a b hw lw pd hd s.below_0 s.below_1

test_follows : (f : Seat) (w d a x j : ℕ) → Follows (λ r. r < 2 ^ 32) (test_kinds d) (test f w d a x j)
test_follows f w d a x j = then_follows (sign_follows f (test_width d) (excess_share f w d a x j)) (λ b h. conversion_follows b)

pub division_follows : DivisionFollows
division_follows f w d a = go (d == 1)
  where
    go : (c : Bool) → Follows (λ r. r < 2 ^ w) (if c then [] else divided_kinds w d) (if c then done (a % 2 ^ w) else divided f w d a)
    go true = ends (mod-lt a (pow_pos w))
    go false =
        then_follows (sign_follows f w a)
        (λ g h. then_follows (flip_follows (top_of w a) g)
        (λ x h. then_follows (test_follows f w d a x 0)
        (λ m0 h. then_follows (test_follows f w d a x 1)
        (λ m1 h. then_follows (test_follows f w d a x 2)
        (λ m2 h. ends (floor_exact (((floor (signed w a) d -ℤ pos x *ℤ pos (2 ^ w / d)) -ℤ alone f 1) +ℤ pos (m0 + m1 + m2)) (2 ^ w) (pow_pos w)).1)))))

pub division_tallies : DivisionTallies
division_tallies w d = go (d == 1)
  where
    go : (c : Bool) → Tallies (if c then [] else divided_kinds w d) (if c then prices 0 0 0 else prices (comparison_price (w - 1) + 3 * comparison_price (test_width d - 1)) 4 0)
    go true k = tallies_none k
    go false Bit = simp (tally_append, tallies_bits) (omega arith)
    go false _ = simp (tally_append, tallies_bits) (omega arith)
