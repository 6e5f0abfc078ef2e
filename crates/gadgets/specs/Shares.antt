-- Bits and numbers that the two parties share.
use Rattle.std.specs.Prelude.{◌≡◌, ℕ, ◌^◌, ◌<◌, Bool, bit_xor}
use Rattle.arithmetic.specs.Bits.{bit}
use Rattle.arithmetic.specs.Sign.{shared_value}

-- a of seat 0 and b of seat 1 are bits, and share the bit v by exclusive or
pub record SharedBit (a b : ℕ) (v : Bool) : Type 0 where
  pub bit_0 : a < 2
  pub bit_1 : b < 2
  pub opens : bit_xor a b ≡ bit v

-- a of seat 0 and b of seat 1 are numbers of w bits, and share the number v by addition modulo 2^w
pub record SharedNumber (w a b v : ℕ) : Type 0 where
  pub below_0 : a < 2 ^ w
  pub below_1 : b < 2 ^ w
  pub adds : shared_value w a b ≡ v
