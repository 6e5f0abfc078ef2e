-- What a course costs: how many lookups of each kind.
use Rattle.std.specs.Prelude.{◌≡◌, ℕ, List}
use Rattle.refusal.specs.declared.kind.Kind.{Kind}
use Rattle.refusal.specs.declared.kind.Kind.TheVariants.{Bit, Ring0, Ring1}
use Rattle.protocol.specs.Course.{tally}

abbrev pub prices : ℕ → ℕ → ℕ → Kind → ℕ
prices b x y Bit = b
prices b x y Ring0 = x
prices b x y Ring1 = y

-- the list has so many of each kind
abbrev pub Tallies : List Kind → (Kind → ℕ) → Type 0
Tallies ks n = (k : Kind) → tally ks k ≡ n k
