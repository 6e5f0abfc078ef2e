-- Numbers of w bits that are shared by addition modulo 2^w: top bit, carry and sign, and what the signed shares add up to.
use Rattle.std.specs.Prelude.{ℕ, ◌+◌, ◌-◌, ◌%◌, ◌^◌, Bool, true, false, if◌then◌else◌, ℤ, pos, negsuc, ◌-ℤ◌, nat_le, nat_lt}

abbrev pub half : ℕ → ℕ
half w = 2 ^ (w - 1)

-- the top bit, and the bits below it
abbrev pub top : ℕ → ℕ → Bool
top w a = nat_le (half w) a

abbrev pub lower : ℕ → ℕ → ℕ
lower w a = a % half w

-- the value that two shares stand for
abbrev pub shared_value : ℕ → ℕ → ℕ → ℕ
shared_value w a b = (a + b) % 2 ^ w

-- the lower bits of the shares carry into the top bit
abbrev pub carry : ℕ → ℕ → ℕ → Bool
carry w a b = nat_lt (half w - 1 - lower w a) (lower w b)

-- a number of w bits is not negative, read as signed
abbrev pub not_negative : ℕ → ℕ → Bool
not_negative w v = nat_lt v (half w)

-- a number of w bits, read as signed
abbrev pub signed : ℕ → ℕ → ℤ
signed w a = if not_negative w a then pos a else pos a -ℤ pos (2 ^ w)

-- How often 2^w is in the sum of two signed shares besides the signed value: by the shares' top bits, and whether the value
-- is not negative.
abbrev pub flip : Bool → Bool → Bool → ℤ
flip false false false = pos 1
flip true true true = negsuc 0
flip _ _ _ = pos 0

abbrev pub flip_of : ℕ → ℕ → ℕ → ℤ
flip_of w a b = flip (top w a) (top w b) (not_negative w (shared_value w a b))
