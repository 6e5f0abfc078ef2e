-- Worked examples: the twelve splits, refusals in their order, and a session played by the parties' own courses.
use Rattle.std.specs.Prelude.{◌≡◌, ℕ, ◌+◌, false, List, [], ◌∷◌, map, replicate, if◌then◌else◌, Option, Some, None}
use Rattle.refusal.specs.declared.kind.Kind.TheVariants.{Bit}
use Rattle.refusal.specs.Kinds.{entries}
use Rattle.refusal.specs.Refusals.{Code, plain}
use Rattle.sources.specs.Halves.{Half, Halves}
use Rattle.refusal.specs.declared.seat.Seat.{Seat}
use Rattle.refusal.specs.declared.seat.Seat.TheVariants.{Zero, One}
use Rattle.refusal.specs.Seats.{number}
use Rattle.protocol.specs.Seats.{sends}
use Rattle.protocol.specs.Certificate.{shown_by}
use Rattle.gadgets.specs.Prices.{prices}
use Rattle.engine.specs.declared.command.Command.{Command}
use Rattle.engine.specs.declared.command.Command.TheVariants.{Lodge, Less, Sign, Divide, Shift, Open, Tell}
use Rattle.engine.specs.declared.command.Numbers.{Numbers}
use Rattle.engine.specs.State.{Answer, refused, receipt, opened, Public}
use Rattle.engine.specs.Judge.{lookups, free, one_message, correlations_short, budget_short}
use Rattle.engine.specs.Ideal.{step, shown}
use Rattle.engine.specs.Promise.{fresh, played}

-- empty registers, so many halves of each kind at both parties, and an inline channel with a budget
abbrev pub ready : ℕ → ℕ → Public
ready halves budget = record { shape = record { widths = λ _. 0; filled = λ _. false }; seats = number; left = λ _ _. halves; budget = budget; capacity = 8; longest = 20 }

abbrev pub shares : ℕ → ℕ → Numbers
shares x y = record { of0 = x; of1 = y }

-- how register 1 is shown, a value of a width in two shares, a command that takes it to register 1, and what it is
pub record Split : Type 0 where
  pub commands : List (Command Numbers)
  pub gives : ℕ

abbrev pub split : Command Numbers → ℕ → ℕ → ℕ → Command Numbers → ℕ → Split
split show w x y c v = record { commands = Lodge 0 w (shares x y) ∷ c ∷ show ∷ []; gives = v }

-- the twelve; -3 is 253 at width 8
abbrev pub splits : List Split
splits =
    split (Open 1 0) 8 100 149 (Divide 1 0 3) 253
    ∷ split (Open 1 0) 8 100 100 (Divide 1 0 3) 237
    ∷ split (Open 1 0) 8 156 156 (Divide 1 0 3) 18
    ∷ split (Open 1 0) 9 256 256 (Divide 1 0 3) 0
    ∷ split (Open 1 0) 9 255 3 (Divide 1 0 3) 427
    ∷ split (Open 1 0) 8 3 1 (Shift 1 0 1) 2
    ∷ split (Open 1 0) 8 156 156 (Shift 1 0 2) 14
    ∷ split (Open 1 0) 8 100 149 (Shift 1 0 1) 252
    ∷ split (Tell 1 0) 8 128 128 (Sign 1 0) 1
    ∷ split (Tell 1 0) 8 100 100 (Sign 1 0) 0
    ∷ split (Tell 1 0) 8 200 201 (Less 1 8 (shares 200 201)) 1
    ∷ split (Tell 1 0) 8 7 7 (Less 1 8 (shares 7 7)) 0
    ∷ []

-- what seat 0 is shown of a split by the ideal functionality, and what it should be: nothing at the first two commands
abbrev pub shown_of : Split → List (Option ℕ)
shown_of s = shown_by step (shown Zero) s.commands (fresh (ready 100 1000))

abbrev pub should_be : Split → List (Option ℕ)
should_be s = None ∷ None ∷ Some s.gives ∷ []

abbrev pub TwelveSplits : Type 0
TwelveSplits = map shown_of splits ≡ map should_be splits

-- a command for which much is wrong, and how it is refused
pub record Refused : Type 0 where
  pub public : Public
  pub command : Command Numbers
  pub code : Code

abbrev pub refusals : List Refused
refusals =
    record { public = ready 0 0; command = Less 32 1 (shares 1 2); code = plain 4 }
    ∷ record { public = ready 0 0; command = Less 31 1 (shares 1 2); code = plain 5 }
    ∷ record { public = ready 0 0; command = Shift 0 0 40; code = plain 6 }
    ∷ record { public = ready 2 0; command = Less 0 8 (shares 1 2); code = correlations_short Zero Bit 1 }
    ∷ record { public = ready 3 5; command = Less 0 8 (shares 1 2); code = budget_short 1 }
    ∷ []

-- what seat 1 is answered
abbrev pub answered : Refused → List Answer
answered r = (step r.command (fresh r.public)).log One

abbrev pub answer_due : Refused → List Answer
answer_due r = refused r.code ∷ []

abbrev pub RefusalsInOrder : Type 0
RefusalsInOrder = map answered refusals ≡ map answer_due refusals

-- a lawful deal of noughts, of n correlations of each kind
abbrev pub sender_noughts : ℕ → Half
sender_noughts n = replicate (n + 1) 0

abbrev pub receiver_noughts : Half
receiver_noughts = 0 ∷ 0 ∷ []

abbrev pub deal : ℕ → Seat → Halves
deal n f k = replicate n (if sends f k then sender_noughts (entries k) else receiver_noughts)

-- The first split by the parties' own courses: seat 0's answers, the latest first, and the correlations that were used.
abbrev pub first_split : List (Command Numbers)
first_split = Lodge 0 8 (shares 100 149) ∷ Divide 1 0 3 ∷ Open 1 0 ∷ []

abbrev pub SessionPlayed : Type 0
SessionPlayed =
    ((played (ready 20 100) Zero first_split (deal 20 Zero) (deal 20 One)).near.log ≡ receipt one_message ∷ opened 253 ∷ receipt (lookups (prices 6 4 0)) ∷ receipt free ∷ [])
    × ((played (ready 20 100) Zero first_split (deal 20 Zero) (deal 20 One)).used Bit ≡ 6)
