-- What the calls of a source do to what it stands for.
use Rattle.std.specs.Prelude.{◌≡◌, ℕ, ◌-◌, ◌<◌, ◌≤◌, List, [], ◌∷◌, length, take, drop, Result, MatchResult, ◌≢◌}
use Rattle.refusal.specs.declared.kind.Kind.{Kind}
use Rattle.refusal.specs.declared.refusal.Layer.{Layer}
use Rattle.refusal.specs.declared.refusal.Refusal.{Refusal}
use Rattle.refusal.specs.Kinds.{kind_of}
use Rattle.refusal.specs.Refusals.{code, plain, short}
use Rattle.arrayvec.specs.ArrayVec.{ArrayVec}
use Rattle.sources.specs.Halves.{Half, Halves, width}

-- `check` accepts, or gives the shortage
abbrev pub Checks : Halves → (Kind → Layer) → Kind → ℕ → Result (Unit {0}) Refusal → Type 0
Checks left layer k count r =
    MatchResult r (λ _. count ≤ length (left k)) (λ e. (length (left k) < count) × (code e ≡ short k (count - length (left k)) (layer k)))

-- `take` answers a half: it was the first of its kind, and is off the list
pub record Took (seat : ℕ) (left left' : Halves) (k : Kind) (half : Half) : Type 0 where
  pub long : length half ≡ width seat k
  pub first : left k ≡ half ∷ left' k
  pub others : (j : Kind) → (j ≢ k) → left' j ≡ left j

-- `take` refuses with e, and nothing changes
pub record IsOut (left left' : Halves) (layer : Kind → Layer) (k : Kind) (e : Refusal) : Type 0 where
  pub empty : left k ≡ []
  pub says : code e ≡ short k 1 (layer k)
  pub same : left' ≡ left

abbrev pub Takes : ℕ → Halves → Halves → (Kind → Layer) → Kind → Result (ArrayVec ℕ) Refusal → Type 0
Takes seat left left' layer k r = MatchResult r (λ half. Took seat left left' k half.items) (IsOut left left' layer k)

-- `afford` accepts
pub record Enough (left : Halves) (kind count : ℕ) : Type 0 where
  pub known : kind < 3
  pub enough : count ≤ length (left (kind_of kind))

-- `afford` refuses with e: first an unknown kind, then a shortage
pub record Lacks (left : Halves) (layer : Kind → Layer) (kind count : ℕ) (e : Refusal) : Type 0 where
  pub unknown : 2 < kind → code e ≡ plain 8
  pub fewer : kind < 3 → length (left (kind_of kind)) < count
  pub says : kind < 3 → code e ≡ short (kind_of kind) (count - length (left (kind_of kind))) (layer (kind_of kind))

abbrev pub Affords : Halves → (Kind → Layer) → ℕ → ℕ → Result (Unit {0}) Refusal → Type 0
Affords left layer kind count r = MatchResult r (λ _. Enough left kind count) (Lacks left layer kind count)

-- `draw` answers n: the first half of the kind stands in front of the words, and is off its list
pub record Drew (seat : ℕ) (left left' : Halves) (kind : ℕ) (words words' : List ℕ) (n : ℕ) : Type 0 where
  pub known : kind < 3
  pub room : 17 ≤ length words
  pub long : n ≡ width seat (kind_of kind)
  pub first : left (kind_of kind) ≡ take n words' ∷ left' (kind_of kind)
  pub past : drop n words' ≡ drop n words
  pub others : (j : Kind) → (j ≢ kind_of kind) → left' j ≡ left j

-- `draw` refuses with e, and nothing changes: an unknown kind, too few words, an empty list
pub record Stays (left left' : Halves) (layer : Kind → Layer) (kind : ℕ) (words words' : List ℕ) (e : Refusal) : Type 0 where
  pub unknown : 2 < kind → code e ≡ plain 8
  pub room : kind < 3 → length words < 17 → code e ≡ plain 13
  pub empty : kind < 3 → 17 ≤ length words → left (kind_of kind) ≡ []
  pub says : kind < 3 → 17 ≤ length words → code e ≡ short (kind_of kind) 1 (layer (kind_of kind))
  pub same : left' ≡ left
  pub words_same : words' ≡ words

abbrev pub Draws : ℕ → Halves → Halves → (Kind → Layer) → ℕ → List ℕ → List ℕ → Result ℕ Refusal → Type 0
Draws seat left left' layer kind words words' r = MatchResult r (Drew seat left left' kind words words') (Stays left left' layer kind words words')
