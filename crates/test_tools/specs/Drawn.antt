-- What a draw makes of 20 words that hold 9.
use Rattle.std.specs.Prelude.{◌≡◌, ◌≢◌, ℕ, ◌<◌, List, [], ◌∷◌, replicate}
use Rattle.refusal.specs.Kinds.{kind_of}
use Rattle.sources.specs.Halves.{Halves, width}
use Rattle.sources.specs.Calls.{Drew}

-- the draw is refused: 99 stands in the first word, and the source keeps its halves
pub record Refused (left left' : Halves) (words : List ℕ) : Type 0 where
  pub marked : words ≡ 99 ∷ replicate 19 9
  pub same : left' ≡ left

-- the first half of the kind stands in front of the nines, and else the draw is refused
pub record Drawn (seat : ℕ) (left left' : Halves) (kind : ℕ) (words : List ℕ) : Type 0 where
  pub drew : kind < 3 → left (kind_of kind) ≢ [] → Drew seat left left' kind (replicate 20 9) words (width seat (kind_of kind))
  pub unknown : 2 < kind → Refused left left' words
  pub empty : kind < 3 → left (kind_of kind) ≡ [] → Refused left left' words
