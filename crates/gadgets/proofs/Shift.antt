-- The shift's two courses compute the floor of the signed value over 2^s.
use Rattle.std.proofs.Common.{◌≡◌, ℕ, ◌+◌, ◌-◌, ◌*◌, ◌%◌, ◌^◌, ◌<◌, ◌≤◌, Bool, true, false, if◌then◌else◌, ◌==◌, nat_lt, [], ℤ, pos, ◌+ℤ◌, ◌-ℤ◌, ◌*ℤ◌, neg_ℤ, sym, refl, ap, ◌∙◌, mod-lt, arith, pow_pos}
use Rattle.std.proofs.lemmas.Int.{ints}
use Rattle.std.proofs.lemmas.Bool.{eqb-true, eqb-false}
use Rattle.refusal.specs.declared.kind.Kind.TheVariants.{Bit}
use Rattle.arithmetic.specs.Bits.{bit}
use Rattle.arithmetic.specs.Sign.{shared_value, signed, flip_of}
use Rattle.arithmetic.specs.Division.{floor, remainder}
use Rattle.arithmetic.proofs.Integers.{floor_exact, mul_sum, mul_neg, floor_one}
use Rattle.arithmetic.proofs.Division.{shifts_add}
use Rattle.refusal.specs.declared.seat.Seat.TheVariants.{Zero, One}
use Rattle.protocol.specs.Course.{done, Computes, Follows, ends}
use Rattle.protocol.proofs.Binding.{then_computes, then_follows}
use Rattle.gadgets.specs.Shares.{SharedNumber}
use Rattle.gadgets.specs.Prices.{prices, Tallies}
use Rattle.gadgets.specs.Comparison.{comparison_price}
use Rattle.gadgets.specs.Sign.{top_of}
use Rattle.gadgets.specs.Shift.{shift_operand, shift_share, shifted, shifted_kinds, ShiftComputes, ShiftFollows, ShiftTallies}
use Rattle.gadgets.proofs.Numbers.{sum_at, scaled, joined, bit_sum, copied}
use Rattle.gadgets.proofs.Prices.{tally_append, tallies_none, tallies_bits}
use Rattle.gadgets.proofs.Comparison.{comparison_computes, comparison_follows}
use Rattle.gadgets.proofs.Sign.{sign_computes, sign_follows}
use Rattle.gadgets.proofs.Flip.{flip_computes, flip_follows}
use Rattle.gadgets.proofs.Conversion.{conversion_computes, conversion_follows}

-- the remainders carry into the quotient
abbrev carries : ℕ → ℕ → ℕ → ℕ → Bool
carries w s a b = nat_lt (2 ^ s - 1 - remainder (signed w a) (2 ^ s)) (remainder (signed w b) (2 ^ s))

shift_linear : (q p a b f k c l : ℤ) (x y : ℕ) → a +ℤ b ≡ f +ℤ k → pos x +ℤ pos y ≡ c +ℤ l
    → ((q -ℤ a) +ℤ pos x) +ℤ ((p -ℤ b) +ℤ pos y) ≡ (((q +ℤ p) -ℤ f) +ℤ c) +ℤ (neg_ℤ k +ℤ l)
shift_linear q p a b f k c l x y e e0 = omega (arith, ints)

spread : (m k : ℤ) (n : ℕ) → (neg_ℤ m +ℤ k) *ℤ pos n ≡ neg_ℤ (m *ℤ pos n) +ℤ k *ℤ pos n
spread m k n = rw (mul_sum, mul_neg) refl

-- the parties' shares of the quotient, from shares of the flip and of the comparison
shift_shared : (w s a b f g : ℕ) (k : ℤ) (x y : ℕ) → 0 < w → w ≤ 32 → s ≤ w → a < 2 ^ w → b < 2 ^ w
    → pos f +ℤ pos g ≡ flip_of w a b +ℤ k *ℤ pos (2 ^ 32) → SharedNumber 32 x y (bit (carries w s a b))
    → SharedNumber w (shift_share w s a f x) (shift_share w s b g y) (remainder (floor (signed w (shared_value w a b)) (2 ^ s)) (2 ^ w))
shift_shared w s a b f g k x y w0 lw hs ha hb ef sx =
    let n = 2 ^ w in
    let n1 = 2 ^ (w - s) in
    let q = floor (signed w a) (2 ^ s) in
    let p = floor (signed w b) (2 ^ s) in
    let c = carries w s a b in
    let b0 = bit_sum x y w c lw sx in
    let m = k *ℤ pos (2 ^ (32 - w) * n1) in
    let z = ((q +ℤ p) -ℤ flip_of w a b *ℤ pos n1) +ℤ pos (bit c) in
    let e : ((q -ℤ pos f *ℤ pos n1) +ℤ pos x) +ℤ ((p -ℤ pos g *ℤ pos n1) +ℤ pos y) ≡ z +ℤ (neg_ℤ m +ℤ b0.0) *ℤ pos n
    = shift_linear q p (pos f *ℤ pos n1) (pos g *ℤ pos n1) (flip_of w a b *ℤ pos n1) (m *ℤ pos n) (pos (bit c)) (b0.0 *ℤ pos n) x y
    (scaled (pos f) (pos g) (flip_of w a b) k w n1 lw ef) b0.1
    ∙ ap (λ r. z +ℤ r) (sym (spread m b0.0 n)) in
    rw (shifts_add w s a b w0 hs ha hb) (joined w ((q -ℤ pos f *ℤ pos n1) +ℤ pos x) ((p -ℤ pos g *ℤ pos n1) +ℤ pos y) z (neg_ℤ m +ℤ b0.0) e)

shifted_computes : (w s a b : ℕ) → 1 < w → w ≤ 32 → 0 < s → s < w → a < 2 ^ w → b < 2 ^ w
    → Computes Zero (λ m n. SharedNumber w m n (remainder (floor (signed w (shared_value w a b)) (2 ^ s)) (2 ^ w))) (shifted Zero w s a) (shifted One w s b)
shifted_computes w s a b hw lw ps hs ha hb =
    let w0 : 0 < w = omega arith in
    let p : 0 < 2 ^ s = pow_pos s in
    let r = (floor_exact (signed w b) (2 ^ s) p).1 in
    then_computes (sign_computes w a b (shared_value w a b) hw (record { below_0 = ha; below_1 = hb; adds = refl }))
    (λ g h sg. then_computes (flip_computes w a b g h w0 ha hb sg)
    (λ f f' sf.
    let k = sum_at f f' (flip_of w a b) (2 ^ 32) (pow_pos 32) sf.adds in
    then_computes (comparison_computes s (2 ^ s - 1 - remainder (signed w a) (2 ^ s)) (remainder (signed w b) (2 ^ s)) ps (omega arith) r)
    (λ c d sc. then_computes (conversion_computes c d (carries w s a b) sc)
    (λ x y sx. ends (shift_shared w s a b f f' k.0 x y w0 lw (omega arith) ha hb k.1 sx)))))

pub shift_computes : ShiftComputes
shift_computes w s a b v hw lw hs sn =
    rw (← sn.adds) (go (s == 0) refl)
  where
    go : (c : Bool) → (s == 0) ≡ c → Computes Zero (λ m n. SharedNumber w m n (remainder (floor (signed w (shared_value w a b)) (2 ^ s)) (2 ^ w))) (if c then done (a % 2 ^ w) else shifted Zero w s a) (if c then done (b % 2 ^ w) else shifted One w s b)
    go true e = ends (copied w a b (floor (signed w (shared_value w a b)) (2 ^ s)) sn.below_0 sn.below_1 (ap (λ n. floor (signed w (shared_value w a b)) (2 ^ n)) (eqb-true s 0 e) ∙ floor_one (signed w (shared_value w a b))))
    go false e = shifted_computes w s a b hw lw (omega (arith, eqb-false s 0 e)) hs sn.below_0 sn.below_1

pub shift_follows : ShiftFollows
shift_follows f w s a = go (s == 0)
  where
    go : (c : Bool) → Follows (λ r. r < 2 ^ w) (if c then [] else shifted_kinds w s) (if c then done (a % 2 ^ w) else shifted f w s a)
    go true = ends (mod-lt a (pow_pos w))
    go false =
        then_follows (sign_follows f w a)
        (λ g h. then_follows (flip_follows (top_of w a) g)
        (λ x h. then_follows (comparison_follows s (shift_operand f w s a))
        (λ c h. then_follows (conversion_follows c)
        (λ m h. ends (floor_exact ((floor (signed w a) (2 ^ s) -ℤ pos x *ℤ pos (2 ^ (w - s))) +ℤ pos m) (2 ^ w) (pow_pos w)).1))))

pub shift_tallies : ShiftTallies
shift_tallies w s = go (s == 0)
  where
    go : (c : Bool) → Tallies (if c then [] else shifted_kinds w s) (if c then prices 0 0 0 else prices (comparison_price (w - 1) + comparison_price s) 2 0)
    go true k = tallies_none k
    go false Bit = simp (tally_append, tallies_bits) (omega arith)
    go false _ = simp (tally_append, tallies_bits) (omega arith)
