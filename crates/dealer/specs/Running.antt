-- What a dealer deals from its running number: each field is the top bits of the next one.
use Rattle.std.specs.Prelude.{ℕ, zero, suc, ◌+◌, ◌-◌, ◌*◌, ◌/◌, ◌%◌, ◌^◌, List, [], ◌∷◌, map, if◌then◌else◌}
use Rattle.std.specs.List.{range_with_len}
use Rattle.refusal.specs.declared.kind.Kind.{Kind}
use Rattle.refusal.specs.Kinds.{entries, mask_size, choice_size}
use Rattle.sources.specs.Halves.{Half, sends}

-- the running number that follows x
unfoldable pub step : ℕ → ℕ
step x = (6364136223846793005 * x + 1442695040888963407) % 2 ^ 64

-- the running number n fields on
abbrev pub run : ℕ → ℕ → ℕ
run zero x = x
run (suc n) x = step (run n x)

-- the top bits of a running number, so many as a field has
abbrev pub top_bits : ℕ → ℕ → ℕ
top_bits size x = x / 2 ^ (64 - size)

-- A correlation that begins at the running number x has its masks, then its blind, then its choice.
abbrev pub mask : Kind → ℕ → ℕ → ℕ
mask k x i = top_bits (mask_size k) (run (i + 1) x)

abbrev pub choice : Kind → ℕ → ℕ
choice k x = top_bits (choice_size k) (run (entries k + 2) x)

abbrev pub sender_half : Kind → ℕ → Half
sender_half k x = map (mask k x) (range_with_len 0 (entries k + 1))

abbrev pub receiver_half : Kind → ℕ → Half
receiver_half k x = choice k x ∷ mask k x (choice k x) ∷ []

abbrev pub half : ℕ → Kind → ℕ → Half
half seat k x = if sends seat k then sender_half k x else receiver_half k x

-- a seat's halves of the next n correlations of a kind
abbrev pub dealt : ℕ → Kind → ℕ → ℕ → List Half
dealt seat k zero x = []
dealt seat k (suc n) x = half seat k x ∷ dealt seat k n (run (entries k + 2) x)
