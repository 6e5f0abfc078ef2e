-- Truth values as bits: their exclusive or, and the number that a bit is.
use Rattle.std.specs.Prelude.{ℕ, Bool, true, false, not}

abbrev pub xor : Bool → Bool → Bool
xor true b = not b
xor false b = b

abbrev pub bit : Bool → ℕ
bit true = 1
bit false = 0
