-- The sign's two courses compute whether the signed value is not negative.
use Rattle.std.proofs.Common.{◌≡◌, ℕ, ◌-◌, ◌/◌, ◌%◌, ◌^◌, ◌<◌, Bool, true, false, sym, ap, ◌∙◌, append-nil, mod-lt, arith, pow_pos, bit_xor}
use Rattle.arithmetic.specs.Bits.{xor, bit}
use Rattle.arithmetic.specs.Sign.{top, carry, not_negative}
use Rattle.arithmetic.proofs.Sign.{top_bit, sign_by_carry}
use Rattle.refusal.specs.declared.seat.Seat.{Seat}
use Rattle.refusal.specs.declared.seat.Seat.TheVariants.{Zero, One}
use Rattle.refusal.specs.Seats.{number}
use Rattle.protocol.specs.Course.{ends}
use Rattle.protocol.proofs.Binding.{then_computes, then_follows, follows_same}
use Rattle.gadgets.specs.Shares.{SharedBit}
use Rattle.gadgets.specs.Comparison.{comparison_kinds}
use Rattle.gadgets.specs.Sign.{top_of, sign_share, SignComputes, SignFollows}
use Rattle.gadgets.proofs.Bits.{truths, from_truths, bit_rest, xor_below, rest_below}
use Rattle.gadgets.proofs.Comparison.{comparison_computes, comparison_follows}

pub top_is : (w a : ℕ) → 0 < w → a < 2 ^ w → top_of w a ≡ bit (top w a)
top_is w a p h = ap (λ n. n % 2) (sym (top_bit w a p h)) ∙ bit_rest (top w a)

-- the sign from shares of the carry
sign_at : (x y c c' : ℕ) (s t l m k v : Bool) → x ≡ bit s → y ≡ bit t → c ≡ bit l → c' ≡ bit m → xor l m ≡ k → v ≡ xor true (xor s (xor t k))
    → SharedBit (sign_share Zero x c) (sign_share One y c') v
sign_at x y c c' s t l m k v es et el em ek e =
    rw (es, et, el, em, share s l false, share t m true)
    (from_truths (xor (xor s l) false) (xor (xor t m) true) v (mix s t l m ∙ ap (λ z. xor true (xor s (xor t z))) ek ∙ sym e))
  where
    share : (s l b : Bool) → bit_xor (bit_xor (bit s) (bit l)) (bit b) ≡ bit (xor (xor s l) b)
    share s l b = grind arith

    mix : (s t l m : Bool) → xor (xor (xor s l) false) (xor (xor t m) true) ≡ xor true (xor s (xor t (xor l m)))
    mix s t l m = grind arith

pub sign_computes : SignComputes
sign_computes w a b v h s =
    let p : 0 < 2 ^ (w - 1) = pow_pos (w - 1) in
    let r = mod-lt b p in
    let w0 : 0 < w = omega arith in
    then_computes
    (comparison_computes (w - 1) (2 ^ (w - 1) - 1 - a % 2 ^ (w - 1)) (b % 2 ^ (w - 1)) (omega arith) (omega arith) r)
    (λ c d sc.
    let t = truths sc in
    ends (sign_at (top_of w a) (top_of w b) c d (top w a) (top w b) t.own_0 t.own_1 (carry w a b) (not_negative w v)
    (top_is w a w0 s.below_0) (top_is w b w0 s.below_1) t.is_0 t.is_1 t.opens
    (ap (not_negative w) (sym s.adds) ∙ sign_by_carry w a b w0 s.below_0 s.below_1)))

pub sign_follows : SignFollows
sign_follows f w a =
    follows_same (append-nil (comparison_kinds (w - 1)))
    (then_follows (comparison_follows (w - 1) _)
    (λ c h. ends (xor_below (bit_xor (top_of w a) c) (number f) (xor_below (top_of w a) c (rest_below (a / 2 ^ (w - 1))) h) (one f))))
  where
    one : (f : Seat) → number f < 2
    one f = grind arith
