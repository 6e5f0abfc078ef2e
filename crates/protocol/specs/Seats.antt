-- The two seats, and what is dealt to them.
use Rattle.std.specs.Prelude.{ℕ, ◌≤◌, Bool, true, false, [], ◌++◌, length, take, drop, slice_index_or}
use Rattle.std.specs.List.{AllZip}
use Rattle.refusal.specs.declared.kind.Kind.{Kind}
use Rattle.refusal.specs.declared.seat.Seat.{Seat}
use Rattle.refusal.specs.declared.seat.Seat.TheVariants.{Zero, One}
use Rattle.refusal.specs.Kinds.{on}
use Rattle.refusal.specs.Seats.{number}
use Rattle.lookup.specs.Lookup.{Fit}
use Rattle.lookup.specs.Halves.{sender_from, receiver_from}
use Rattle.sources.specs.Halves.{Half, Halves, SenderInRange, ReceiverInRange, sends as sends_by}

abbrev pub other : Seat → Seat
other Zero = One
other One = Zero

-- whether the party at a seat sends in lookups of a kind
abbrev pub sends : Seat → Kind → Bool
sends f k = sends_by (number f) k

-- a sender's half and a receiver's half that are in range and fit
pub record Correlated (k : Kind) (s r : Half) : Type 0 where
  pub sender : SenderInRange k s
  pub receiver : ReceiverInRange k r
  pub fit : Fit (sender_from s) (receiver_from r)

-- The near party's half and the far party's are correlated; the test says whether the near party sends.
abbrev pub Paired : Bool → Kind → Half → Half → Type 0
Paired true k x y = Correlated k x y
Paired false k x y = Correlated k y x

-- A deal, the halves of the party at the seat f first, is lawful: of each kind both have equally many, in range, and each fits its fellow.
abbrev pub LawfulAt : Seat → Halves → Halves → Type 0
LawfulAt f near far = (k : Kind) → AllZip (Paired (sends f k) k) (near k) (far k)

-- the next half of a kind, and the halves without it
abbrev pub next : Kind → Halves → Half
next k s = slice_index_or (s k) 0 []

abbrev pub rest : Kind → Halves → Halves
rest k s j = on k j (drop 1) (s j)

-- the first halves of each kind, as many as c says; what is left without them; and halves with more behind them
abbrev pub front : (Kind → ℕ) → Halves → Halves
front c s k = take (c k) (s k)

abbrev pub back : (Kind → ℕ) → Halves → Halves
back c s k = drop (c k) (s k)

abbrev pub before : Halves → Halves → Halves
before s t k = s k ++ t k

-- there are at least c of each kind
abbrev pub Enough : (Kind → ℕ) → Halves → Type 0
Enough c s = (k : Kind) → c k ≤ length (s k)
