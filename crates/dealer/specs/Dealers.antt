-- What a dealer stands for, and what two dealers have to do with each other.
use Rattle.std.specs.Prelude.{◌≡◌, ℕ, ◌+◌, ◌%◌, ◌^◌, ◌<◌}
use Rattle.refusal.specs.declared.kind.Kind.{Kind}
use Rattle.refusal.specs.declared.per_kind.PerKind.{PerKind}
use Rattle.refusal.specs.Kinds.{number}
use Rattle.refusal.specs.PerKinds.{at}
use Rattle.refusal.specs.Seats.{number as seat_number}
use Rattle.sources.specs.Halves.{Halves, Lawful}
use Rattle.dealer.specs.declared.dealer.Dealer.{Dealer}
use Rattle.dealer.specs.Running.{dealt}

abbrev pub dealer_owner : Dealer → ℕ
dealer_owner d = seat_number d.seat

abbrev pub dealer_left : Dealer → Halves
dealer_left d k = dealt (dealer_owner d) k (at d.counts k) (at d.running k)

-- a dealer made at a seat from a start: kind k runs from start + k, modulo 2^64
pub record Made (seat start : ℕ) (counts : PerKind ℕ) (d : Dealer) : Type 0 where
  pub low : seat < 2
  pub owner : dealer_owner d ≡ seat
  pub left : (k : Kind) → dealer_left d k ≡ dealt seat k (at counts k) ((start + number k) % 2 ^ 64)

abbrev pub LawfulDeal : Type 0
LawfulDeal = (start : ℕ) (counts : PerKind ℕ) (d e : Dealer) → Made 0 start counts d → Made 1 start counts e → Lawful (dealer_left d) (dealer_left e)
