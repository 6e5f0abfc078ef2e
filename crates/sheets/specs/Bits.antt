-- Numbers in lists of bits, the most significant first.
use Rattle.std.specs.Prelude.{ℕ, zero, suc, ◌+◌, ◌*◌, ◌/◌, ◌%◌, ◌^◌, List, [], ◌∷◌, ◌++◌, slice_index}

-- the n lowest bits of x
abbrev pub bits : ℕ → ℕ → List ℕ
bits zero x = []
bits (suc n) x = x / 2 ^ n % 2 ∷ bits n x

-- the bits of bytes, one after the other
abbrev pub bits_of : List ℕ → List ℕ
bits_of [] = []
bits_of (b ∷ bs) = bits 8 b ++ bits_of bs

-- the number that the n bits from the place p on stand for; past the end they are 0
abbrev pub read : List ℕ → ℕ → ℕ → ℕ
read bs p zero = 0
read bs p (suc n) = 2 * read bs p n + slice_index bs (p + n)
