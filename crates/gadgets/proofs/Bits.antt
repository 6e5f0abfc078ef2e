-- Numbers below 2 as truth values, and shared bits by them.
use Rattle.std.proofs.Common.{◌≡◌, ℕ, zero, suc, ◌%◌, ◌<◌, Bool, true, false, refl, ap, ◌∙◌, arith, bit_xor}
use Rattle.std.proofs.lemmas.Nat.{xor_lt}
use Rattle.arithmetic.specs.Bits.{xor, bit}
use Rattle.gadgets.specs.Shares.{SharedBit}

pub bool_of : (a : ℕ) → a < 2 → (x : Bool) × (a ≡ bit x)
bool_of zero h = (false, refl)
bool_of (suc zero) h = (true, refl)
bool_of (suc (suc a)) h = absurd (omega arith)

pub bit_below : (b : Bool) → bit b < 2
bit_below b = grind arith

pub bit_of_xor : (a b : Bool) → bit_xor (bit a) (bit b) ≡ bit (xor a b)
bit_of_xor a b = grind arith

pub xor_turn : (a b : Bool) → xor a b ≡ xor b a
xor_turn a b = grind arith

pub xor_below : (a b : ℕ) → a < 2 → b < 2 → bit_xor a b < 2
xor_below a b ha hb = xor_lt 1 a b ha hb

pub rest_below : (a : ℕ) → a % 2 < 2
rest_below a = omega arith

-- the bits that share a bit, as truth values
pub record Truths (a b : ℕ) (v : Bool) : Type 0 where
  pub own_0 : Bool
  pub own_1 : Bool
  pub is_0 : a ≡ bit own_0
  pub is_1 : b ≡ bit own_1
  pub opens : xor own_0 own_1 ≡ v

pub truths : {a b : ℕ} {v : Bool} → SharedBit a b v → Truths a b v
truths {a} {b} {v} s =
    let x = bool_of a s.bit_0 in
    let y = bool_of b s.bit_1 in
    record { own_0 = x.0; own_1 = y.0; is_0 = x.1; is_1 = y.1; opens = grind (arith, s.opens) }

pub from_truths : (x y v : Bool) → xor x y ≡ v → SharedBit (bit x) (bit y) v
from_truths x y v e = record { bit_0 = bit_below x; bit_1 = bit_below y; opens = bit_of_xor x y ∙ ap bit e }

pub bit_rest : (x : Bool) → bit x % 2 ≡ bit x
bit_rest x = grind arith
