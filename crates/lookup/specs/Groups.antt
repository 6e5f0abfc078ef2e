-- What a group of words is, and the two that correlations use.
use Rattle.std.specs.Prelude.{◌≡◌, ℕ, ◌+◌, ◌-◌, ◌%◌, ◌^◌, ◌<◌}
use Rattle.std.specs.Int.Bits.{bit_xor}

-- an operation on the numbers below a size
pub record Operation : Type 0 where
  pub size : ℕ
  pub join : ℕ → ℕ → ℕ
  pub neutral : ℕ
  pub inverse : ℕ → ℕ

-- The laws of a group, of the numbers below the size. Commutativity is not among them.
pub record Laws (G : Operation) : Type 0 where
  pub closed : (x y : ℕ) → x < G.size → y < G.size → G.join x y < G.size
  pub neutral_in : G.neutral < G.size
  pub inverse_in : (x : ℕ) → x < G.size → G.inverse x < G.size
  pub assoc : (x y z : ℕ) → x < G.size → y < G.size → z < G.size → G.join (G.join x y) z ≡ G.join x (G.join y z)
  pub neutral_left : (x : ℕ) → x < G.size → G.join G.neutral x ≡ x
  pub neutral_right : (x : ℕ) → x < G.size → G.join x G.neutral ≡ x
  pub inverse_left : (x : ℕ) → x < G.size → G.join (G.inverse x) x ≡ G.neutral
  pub inverse_right : (x : ℕ) → x < G.size → G.join x (G.inverse x) ≡ G.neutral

-- two bits by exclusive or
abbrev pub xor : Operation
xor = record { size = 4; join = bit_xor; neutral = 0; inverse = λ x. x }

-- 32 bits by addition modulo 2^32
abbrev pub add : Operation
add = record { size = 2 ^ 32; join = λ x y. (x + y) % 2 ^ 32; neutral = 0; inverse = λ x. (2 ^ 32 - x) % 2 ^ 32 }
