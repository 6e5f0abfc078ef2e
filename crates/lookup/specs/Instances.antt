-- The engine's two operations have the laws of a group.
use Rattle.std.proofs.Common.{arith}
use Rattle.std.proofs.lemmas.Nat.{xor_lt}
use Rattle.std.specs.Int.Bits.{xor_assoc, xor_self, xor_zero_l, xor_zero_r}
use Rattle.lookup.specs.Groups.{Laws, xor, add}

pub xor_laws : Laws xor
xor_laws = record {
  closed = λ x y hx hy. xor_lt 2 x y hx hy;
  neutral_in = omega arith;
  inverse_in = λ x h. h;
  assoc = λ x y z _ _ _. xor_assoc x y z;
  neutral_left = λ x _. xor_zero_l x;
  neutral_right = λ x _. xor_zero_r x;
  inverse_left = λ x _. xor_self x;
  inverse_right = λ x _. xor_self x;
}

pub add_laws : Laws add
add_laws = record {
  closed = λ x y hx hy. omega arith;
  neutral_in = omega arith;
  inverse_in = λ x h. omega arith;
  assoc = λ x y z hx hy hz. omega arith;
  neutral_left = λ x h. omega arith;
  neutral_right = λ x h. omega arith;
  inverse_left = λ x h. omega arith;
  inverse_right = λ x h. omega arith;
}
