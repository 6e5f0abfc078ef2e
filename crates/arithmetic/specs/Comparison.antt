-- Comparison of two numbers by their digits of four bits, level by level.
use Rattle.std.specs.Prelude.{ℕ, zero, suc, ◌/◌, ◌%◌, Bool, ◌&&◌, List, [], ◌∷◌, ◌==◌, nat_lt}
use Rattle.arithmetic.specs.Bits.{xor}

-- what is known of a part of two numbers: the first one's is less, the two are equal
pub record Pair : Type 0 where
  pub less : Bool
  pub equal : Bool

-- The higher part decides, and where it is equal the lower one.
abbrev pub join : Pair → Pair → Pair
join high low = record { less = xor high.less (high.equal && low.less); equal = high.equal && low.equal }

-- one level: neighbours are joined, the lowest first, and an odd last one goes up unchanged
abbrev pub level : List Pair → List Pair
level [] = []
level (p ∷ []) = p ∷ []
level (p ∷ (q ∷ ps)) = join q p ∷ level ps

abbrev pub levels : ℕ → List Pair → List Pair
levels zero ps = ps
levels (suc n) ps = levels n (level ps)

-- so many digits of a number, the lowest first
abbrev pub digits : ℕ → ℕ → List ℕ
digits zero x = []
digits (suc n) x = x % 16 ∷ digits n (x / 16)

abbrev pub pair : ℕ → ℕ → Pair
pair x y = record { less = nat_lt x y; equal = (x == y) }

abbrev pub pairs : List ℕ → List ℕ → List Pair
pairs (x ∷ xs) (y ∷ ys) = pair x y ∷ pairs xs ys
pairs _ _ = []
