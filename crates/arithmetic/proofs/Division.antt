-- The quotient of a shared value, from what its two shares have.
use Rattle.std.proofs.Common.{◌≡◌, ℕ, ◌+◌, ◌-◌, ◌*◌, ◌/◌, ◌%◌, ◌^◌, ◌<◌, Bool, true, false, nat_lt, ℤ, pos, negsuc, ◌+ℤ◌, ◌-ℤ◌, ◌*ℤ◌, neg_ℤ, nat_abs, ◌<ℤ◌, sym, refl, ap, ◌∙◌, mod-lt, div-add-mod', mul-div_cancel, arith, pow_pos, pow-add, int_le}
use Rattle.std.proofs.Math.Nat.{mul-mod_left}
use Rattle.std.proofs.Math.IntN.{*ℤ-zero}
use Rattle.std.proofs.lemmas.Int.{ints}
use Rattle.std.proofs.lemmas.Bool.Decides.{nat_tests}
use Rattle.arithmetic.specs.Bits.{bit}
use Rattle.arithmetic.specs.Sign.{top, shared_value, not_negative, signed, flip, flip_of}
use Rattle.arithmetic.specs.Division.{floor, remainder, excess, steps}
use Rattle.arithmetic.specs.Theorems.{ExcessBounded, QuotientsAdd, ShiftsAdd}
use Rattle.arithmetic.proofs.Sign.{signed_shares_add}
use Rattle.arithmetic.proofs.Integers.{floor_exact, floor_unique, mul_sum, mul_neg, mul_mul}

sum_mul : (f : ℤ) (a b : ℕ) → f *ℤ pos (a + b) ≡ f *ℤ pos a +ℤ f *ℤ pos b
sum_mul f a b = omega (arith, ints)

linear : (s t v x y g h : ℤ) (r u : ℕ) → s ≡ x +ℤ pos r → t ≡ y +ℤ pos u → s +ℤ t ≡ v +ℤ (g +ℤ h) → v ≡ ((x +ℤ y) +ℤ neg_ℤ g) +ℤ ((pos r +ℤ pos u) -ℤ h)
linear s t v x y g h r u es et e = omega (arith, ints)

-- what the quotients and the remainders come to
together : (s t v f q p : ℤ) (r u m k n d : ℕ) → s ≡ q *ℤ pos d +ℤ pos r → t ≡ p *ℤ pos d +ℤ pos u → m * d + k ≡ n → s +ℤ t ≡ v +ℤ f *ℤ pos n
    → v ≡ ((q +ℤ p) -ℤ f *ℤ pos m) *ℤ pos d +ℤ ((pos r +ℤ pos u) -ℤ f *ℤ pos k)
together s t v f q p r u m k n d es et en e =
    let e' : s +ℤ t ≡ v +ℤ (f *ℤ pos (m * d) +ℤ f *ℤ pos k) = e ∙ ap (λ x. v +ℤ x) (ap (λ x. f *ℤ pos x) (sym en) ∙ sum_mul f (m * d) k) in
    rw (mul_sum, mul_sum, mul_neg, mul_mul) (linear s t v (q *ℤ pos d) (p *ℤ pos d) (f *ℤ pos (m * d)) (f *ℤ pos k) r u es et e')

-- the floor of q * d + t, for t from c * d to (c + 1) * d
at_step : (q t v c : ℤ) (d r : ℕ) → v ≡ q *ℤ pos d +ℤ t → r < d → t ≡ c *ℤ pos d +ℤ pos r → floor v d ≡ q +ℤ c
at_step q t v c d r e l f = (floor_unique v (q +ℤ c) d r l (rw mul_sum (omega (arith, ints)))).0

-- the floor of q * d + t, for t from -d to 3 * d
climbed : (q t v : ℤ) (d : ℕ) → v ≡ q *ℤ pos d +ℤ t → neg_ℤ (pos d) <ℤ t → t <ℤ pos (3 * d) → floor v d ≡ (q -ℤ pos 1) +ℤ steps t d
climbed q t v d e lo hi = go (int_le (pos 0) t) (int_le (pos d) t) (int_le (pos (2 * d)) t) refl refl refl
  where
    go : (a b c : Bool) → int_le (pos 0) t ≡ a → int_le (pos d) t ≡ b → int_le (pos (2 * d)) t ≡ c → floor v d ≡ (q -ℤ pos 1) +ℤ ((pos (bit a) +ℤ pos (bit b)) +ℤ pos (bit c))
    go false false false ea eb ec = at_step q t v (negsuc 0) d (nat_abs (t +ℤ pos d)) e (omega (arith, ints)) (omega (arith, ints)) ∙ (omega (arith, ints))
    go true false false ea eb ec = at_step q t v (pos 0) d (nat_abs t) e (omega (arith, ints)) (omega (arith, ints)) ∙ (omega (arith, ints))
    go true true false ea eb ec = at_step q t v (pos 1) d (nat_abs (t -ℤ pos d)) e (omega (arith, ints)) (omega (arith, ints)) ∙ (omega (arith, ints))
    go true true true ea eb ec = at_step q t v (pos 2) d (nat_abs (t -ℤ pos (2 * d))) e (omega (arith, ints)) (omega (arith, ints)) ∙ (omega (arith, ints))
    go _ _ _ ea eb ec = absurd (omega (arith, ints))

excess_at : (r u k d : ℕ) (x y g : Bool) → r < d → u < d → k < d → (neg_ℤ (pos d) <ℤ ((pos r +ℤ pos u) -ℤ flip x y g *ℤ pos k)) × (((pos r +ℤ pos u) -ℤ flip x y g *ℤ pos k) <ℤ pos (3 * d))
excess_at r u k d x y g hr hu hk = grind (arith, ints)

pub excess_bounded : ExcessBounded
excess_bounded w d a b h =
    excess_at (remainder (signed w a) d) (remainder (signed w b) d) (2 ^ w % d) d (top w a) (top w b) (not_negative w (shared_value w a b))
    (floor_exact (signed w a) d h).1 (floor_exact (signed w b) d h).1 (mod-lt (2 ^ w) h)

pub quotients_add : QuotientsAdd
quotients_add w d a b p h ha hb =
    let s = signed w a in
    let t = signed w b in
    let v = signed w (shared_value w a b) in
    let f = flip_of w a b in
    let bounds = excess_bounded w d a b h in
    climbed ((floor s d +ℤ floor t d) -ℤ f *ℤ pos (2 ^ w / d)) (excess w d a b) v d
    (together s t v f (floor s d) (floor t d) (remainder s d) (remainder t d) (2 ^ w / d) (2 ^ w % d) (2 ^ w) d
    (floor_exact s d h).0 (floor_exact t d h).0 (div-add-mod' (2 ^ w) d) (signed_shares_add w a b p ha hb))
    bounds.0 bounds.1

one_step : (x : ℤ) (r u d : ℕ) → r < d → u < d → (x -ℤ pos 1) +ℤ steps (pos (r + u) -ℤ pos 0) d ≡ x +ℤ pos (bit (nat_lt (d - 1 - r) u))
one_step x r u d hr hu = grind (arith, nat_tests, ints)

pub shifts_add : ShiftsAdd
shifts_add w s a b p h ha hb =
    let d = 2 ^ s in
    let pd : 0 < 2 ^ s = pow_pos s in
    let e : w ≡ w - s + s = omega arith in
    let c : 2 ^ w ≡ 2 ^ (w - s) * 2 ^ s = ap (λ x. 2 ^ x) e ∙ pow-add 2 (w - s) s in
    let c1 : 2 ^ w / 2 ^ s ≡ 2 ^ (w - s) = ap (λ x. x / 2 ^ s) c ∙ mul-div_cancel (2 ^ (w - s)) pd in
    let c0 : 2 ^ w % 2 ^ s ≡ 0 = ap (λ x. x % 2 ^ s) c ∙ mul-mod_left (2 ^ (w - s)) (2 ^ s) in
    let f = flip_of w a b in
    let q = rw (c1, c0, *ℤ-zero f) at (quotients_add w d a b p pd ha hb) in
    q ∙ one_step ((floor (signed w a) d +ℤ floor (signed w b) d) -ℤ f *ℤ pos (2 ^ (w - s))) (remainder (signed w a) d) (remainder (signed w b) d) d
    (floor_exact (signed w a) d pd).1 (floor_exact (signed w b) d pd).1
