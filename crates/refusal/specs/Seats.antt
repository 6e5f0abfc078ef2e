-- The two seats by number.
use Rattle.std.specs.Prelude.{◌≡◌, ℕ, ◌<◌, Result, MatchResult}
use Rattle.refusal.specs.declared.refusal.Refusal.{Refusal}
use Rattle.refusal.specs.declared.refusal.Refusal.TheVariants.{BadArgument}
use Rattle.refusal.specs.declared.seat.Seat.{Seat}
use Rattle.refusal.specs.declared.seat.Seat.TheVariants.{Zero, One}

abbrev pub number : Seat → ℕ
number Zero = 0
number One = 1

-- the seat that has a number, or the refusal of a number that no seat has
abbrev pub Seated : ℕ → Result Seat Refusal → Type 0
Seated n r = MatchResult r (λ seat. number seat ≡ n) (λ e. (1 < n) × (e ≡ BadArgument))
