-- The first so many of a list have what each of the whole has: why a quota's halves are in range.
use Rattle.std.specs.Prelude.{ℕ, zero, suc, List, [], ◌∷◌, take}
use Rattle.std.specs.List.{AllByRecursion}

pub taken_in_range : {X : Type 0} (P : X → Type 0) (n : ℕ) (xs : List X) → AllByRecursion P xs → AllByRecursion P (take n xs)
taken_in_range P zero xs h = tt
taken_in_range P (suc n) [] h = tt
taken_in_range P (suc n) (x ∷ xs) h = (h.0, taken_in_range P n xs h.1)
