-- The floor of a quotient and its remainder, and the quotient of a shared value from what its two shares have.
use Rattle.std.specs.Prelude.{ℕ, suc, ◌-◌, ◌*◌, ◌/◌, ◌%◌, ◌^◌, ℤ, pos, negsuc, ◌+ℤ◌, ◌-ℤ◌, ◌*ℤ◌, int_le}
use Rattle.arithmetic.specs.Bits.{bit}
use Rattle.arithmetic.specs.Sign.{signed, flip_of}

-- z over d, rounded towards minus infinity
abbrev pub floor : ℤ → ℕ → ℤ
floor (pos a) d = pos (a / d)
floor (negsuc a) d = negsuc (a / d)

-- what is over, from 0 to d - 1
abbrev pub remainder : ℤ → ℕ → ℕ
remainder (pos a) d = a % d
remainder (negsuc a) d = d - suc (a % d)

-- what the remainders of the two signed shares and of the flips come to
abbrev pub excess : ℕ → ℕ → ℕ → ℕ → ℤ
excess w d a b = (pos (remainder (signed w a) d) +ℤ pos (remainder (signed w b) d)) -ℤ flip_of w a b *ℤ pos (2 ^ w % d)

-- how many of 0, d and 2 * d are not above t
abbrev pub steps : ℤ → ℕ → ℤ
steps t d = (pos (bit (int_le (pos 0) t)) +ℤ pos (bit (int_le (pos d) t))) +ℤ pos (bit (int_le (pos (2 * d)) t))
