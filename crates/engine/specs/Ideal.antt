-- The ideal functionality: what a trusted third party would hold, do and answer. It reads both parties' numbers, never a half.
use Rattle.std.specs.Prelude.{◌≡◌, ℕ, ◌+◌, ◌-◌, ◌*◌, ◌%◌, ◌^◌, ◌≤◌, Bool, if◌then◌else◌, ◌&&◌, List, [], ◌∷◌, nat_lt, Option, Some, None, Ok, Err}
use Rattle.refusal.specs.declared.kind.Kind.{Kind}
use Rattle.refusal.specs.Refusals.{Code}
use Rattle.arithmetic.specs.Bits.{bit}
use Rattle.arithmetic.specs.Sign.{not_negative, signed}
use Rattle.arithmetic.specs.Division.{floor, remainder}
use Rattle.refusal.specs.declared.seat.Seat.{Seat}
use Rattle.refusal.specs.declared.seat.Seat.TheVariants.{Zero, One}
use Rattle.gadgets.specs.Shares.{SharedBit, SharedNumber}
use Rattle.engine.specs.declared.command.Command.{Command}
use Rattle.engine.specs.declared.command.Command.TheVariants.{Lodge, Add, Subtract, Scale, Less, Sign, Both, Keep, Divide, Shift, Open, Tell}
use Rattle.engine.specs.declared.command.Numbers.{Numbers}
use Rattle.engine.specs.declared.command.Receipt.{Receipt}
use Rattle.engine.specs.Commands.{seat_of}
use Rattle.engine.specs.State.{needs, Answer, refused, receipt, opened, Public, Local, put, with_number, with_bit, with_shape, lowered}
use Rattle.engine.specs.Judge.{Verdict, judge}

-- the values of the registers, 0 in empty ones, and what each seat was answered, the latest first
pub record Ideal : Type 0 where
  pub public : Public
  pub values : ℕ → ℕ
  pub flags : ℕ → Bool
  pub log : Seat → List Answer

-- what a command means: a number or a bit is set, or a value is opened to a seat
pub data Meaning : Type 0 where
  sets : (target width value : ℕ) → Meaning
  flags : (target : ℕ) → Bool → Meaning
  opens : Seat → (value : ℕ) → Meaning

abbrev pub meaning : Command Numbers → Ideal → Meaning
meaning (Lodge t k n) w = sets t k ((n.of0 + n.of1) % 2 ^ k)
meaning (Add t l r) w = sets t (w.public.shape.widths l) ((w.values l + w.values r) % 2 ^ w.public.shape.widths l)
meaning (Subtract t l r) w = sets t (w.public.shape.widths l) ((w.values l + (2 ^ w.public.shape.widths l - w.values r)) % 2 ^ w.public.shape.widths l)
meaning (Scale t s k) w = sets t (w.public.shape.widths s) (w.values s * k % 2 ^ w.public.shape.widths s)
meaning (Less t k n) w = flags t (nat_lt (n.of0 % 2 ^ k) (n.of1 % 2 ^ k))
meaning (Sign t s) w = flags t (not_negative (w.public.shape.widths s) (w.values s))
meaning (Both t l r) w = flags t (w.flags l && w.flags r)
meaning (Keep t n b) w = sets t (w.public.shape.widths n) (if w.flags b then w.values n else 0)
meaning (Divide t s d) w = sets t (w.public.shape.widths s) (remainder (floor (signed (w.public.shape.widths s) (w.values s)) d) (2 ^ w.public.shape.widths s))
meaning (Shift t s n) w = sets t (w.public.shape.widths s) (remainder (floor (signed (w.public.shape.widths s) (w.values s)) (2 ^ n)) (2 ^ w.public.shape.widths s))
meaning (Open s g) w = opens (seat_of g) (w.values s)
meaning (Tell s g) w = opens (seat_of g) (bit (w.flags s))

-- both seats are answered the same; a value is answered to one
abbrev pub answers : Answer → (Seat → List Answer) → Seat → List Answer
answers x log g = x ∷ log g

abbrev pub reveals : Seat → ℕ → (Seat → List Answer) → Seat → List Answer
reveals Zero v log Zero = opened v ∷ log Zero
reveals One v log One = opened v ∷ log One
reveals _ v log g = log g

-- the ideal functionality after a command of that price and meaning
abbrev pub carried_out : Receipt → Ideal → Meaning → Ideal
carried_out q w (sets t k v) = record w { public = with_shape (with_number t k) (lowered q w.public); values = put t v w.values; log = answers (receipt q) w.log }
carried_out q w (flags t b) = record w { public = with_shape (with_bit t) (lowered q w.public); flags = put t b w.flags; log = answers (receipt q) w.log }
carried_out q w (opens g v) = record w { public = lowered q w.public; log = answers (receipt q) (reveals g v w.log) }

abbrev pub turns_away : Code → Ideal → Ideal
turns_away r w = record w { log = answers (refused r) w.log }

abbrev pub ruled : Command Numbers → Ideal → Verdict → Ideal
ruled c w (Err r) = turns_away r w
ruled c w (Ok q) = carried_out q w (meaning c w)

-- one command
abbrev pub step : Command Numbers → Ideal → Ideal
step c w = ruled c w (judge c w.public)

-- what is opened to the first seat, if it is opened to the second
abbrev pub opened_to : Seat → Seat → ℕ → Option ℕ
opened_to Zero Zero v = Some v
opened_to One One v = Some v
opened_to _ _ v = None

abbrev pub revealed : Seat → Meaning → Option ℕ
revealed f (opens g v) = opened_to f g v
revealed f _ = None

abbrev pub shown_by : Seat → Command Numbers → Ideal → Verdict → Option ℕ
shown_by f c w (Err r) = None
shown_by f c w (Ok q) = revealed f (meaning c w)

-- the value that a command shows the party at a seat, where it is accepted and opens one to that seat
abbrev pub shown : Seat → Command Numbers → Ideal → Option ℕ
shown f c w = shown_by f c w (judge c w.public)

-- what an accepted command's price counts for
abbrev pub charged : (Receipt → ℕ) → Verdict → ℕ
charged n (Err r) = 0
charged n (Ok q) = n q

-- the prices of the accepted commands added up: correlations of a kind, and messages
abbrev pub bill_by : (Receipt → ℕ) → List (Command Numbers) → Ideal → ℕ
bill_by n [] w = 0
bill_by n (c ∷ cs) w = charged n (judge c w.public) + bill_by n cs (step c w)

abbrev pub bill : List (Command Numbers) → Ideal → Kind → ℕ
bill cs w k = bill_by (λ q. needs q k) cs w

abbrev pub message_bill : List (Command Numbers) → Ideal → ℕ
message_bill cs w = bill_by (λ q. q.messages) cs w

-- How the parties stand to it.

-- the party at a seat of a session of which w is the ideal functionality, with these shares
abbrev pub party : Ideal → Seat → (ℕ → ℕ) → (ℕ → ℕ) → Local
party w f s b = record { public = w.public; shares = s; bits = b; log = w.log f }

-- each register's shares, seat 0's first, are in range and make up its value, and no width is over 32
pub record MakeUp (w : Ideal) (s0 b0 s1 b1 : ℕ → ℕ) : Type 0 where
  pub number : (i : ℕ) → SharedNumber (w.public.shape.widths i) (s0 i) (s1 i) (w.values i)
  pub flag : (i : ℕ) → SharedBit (b0 i) (b1 i) (w.flags i)
  pub narrow : (i : ℕ) → w.public.shape.widths i ≤ 32

-- The invariant: a and b are the parties at the seats 0 and 1, both with the ideal functionality's public part and answers, and
-- their shares make up its values.
pub record Shared (w : Ideal) (a b : Local) : Type 0 where
  pub make_up : MakeUp w a.shares a.bits b.shares b.bits
  pub party_0 : a ≡ party w Zero a.shares a.bits
  pub party_1 : b ≡ party w One b.shares b.bits

-- the same, the near party first
abbrev pub SharedAt : Seat → Ideal → Local → Local → Type 0
SharedAt Zero w a b = Shared w a b
SharedAt One w a b = Shared w b a
