-- A refusal as four words.
use Rattle.std.specs.Prelude.{ℕ, List, [], ◌∷◌, slice_index}
use Rattle.refusal.specs.Refusals.{Code}

-- the number and the first three values, with 0 for each that there is not
abbrev pub words_of : Code → List ℕ
words_of c = c.number ∷ slice_index c.values 0 ∷ slice_index c.values 1 ∷ slice_index c.values 2 ∷ []
