-- What is public in a session, what a party holds, and what it is answered.
use Rattle.std.specs.Prelude.{ℕ, ◌-◌, Bool, true, if◌then◌else◌, List, ◌==◌, sum_by}
use Rattle.refusal.specs.declared.kind.Kind.{Kind}
use Rattle.refusal.specs.PerKinds.{at}
use Rattle.refusal.specs.Refusals.{Code}
use Rattle.refusal.specs.declared.seat.Seat.{Seat}
use Rattle.engine.specs.declared.command.Receipt.{Receipt}

-- how many correlations of a kind a receipt has
abbrev pub needs : Receipt → Kind → ℕ
needs q k = at q.used k

-- What a party is answered. A refusal is its number and values, and of a shortage all but its layer.
pub data Answer : Type 0 where
  refused : Code → Answer
  receipt : Receipt → Answer
  opened : ℕ → Answer

-- what a receipt counts for, and other answers for nothing
abbrev pub receipt_count : (Receipt → ℕ) → Answer → ℕ
receipt_count n (receipt q) = n q
receipt_count n _ = 0

-- what the receipts among a party's answers add up to: correlations of a kind, and messages
abbrev pub spent : List Answer → Kind → ℕ
spent log k = sum_by (receipt_count (λ q. needs q k)) log

abbrev pub carried : List Answer → ℕ
carried log = sum_by (receipt_count (λ q. q.messages)) log

-- Which registers are filled. A number register has its width, 0 where it is empty and else 2 to 32.
pub record Shape : Type 0 where
  pub widths : ℕ → ℕ
  pub filled : ℕ → Bool

-- What both parties know: the registers' shape, each party's seat and how many halves of each kind it has left, and of the
-- channel how many more messages it takes, how many may wait and how long one may be.
pub record Public : Type 0 where
  pub shape : Shape
  pub seats : Seat → ℕ
  pub left : Seat → Kind → ℕ
  pub budget : ℕ
  pub capacity : ℕ
  pub longest : ℕ

-- the registers of one party: their shape, and its shares, which are 0 in empty ones
pub record Registers : Type 0 where
  pub shape : Shape
  pub shares : ℕ → ℕ
  pub bits : ℕ → ℕ

-- a party in a session: what is public, its shares, and what it was answered, the latest first
pub record Local : Type 0 where
  pub public : Public
  pub shares : ℕ → ℕ
  pub bits : ℕ → ℕ
  pub log : List Answer

abbrev pub registers : Local → Registers
registers a = record { shape = a.public.shape; shares = a.shares; bits = a.bits }

-- x at the place i of a row, and the rest as it was
abbrev pub put : {X : Type 0} → ℕ → X → (ℕ → X) → ℕ → X
put i x row j = if j == i then x else row j

-- a number register, or a bit register, is filled
abbrev pub with_number : ℕ → ℕ → Shape → Shape
with_number t w p = record p { widths = put t w p.widths }

abbrev pub with_bit : ℕ → Shape → Shape
with_bit t p = record p { filled = put t true p.filled }

abbrev pub with_shape : (Shape → Shape) → Public → Public
with_shape g p = record p { shape = g p.shape }

-- what a receipt says is gone, at both parties and from the channel's budget
abbrev pub lowered : Receipt → Public → Public
lowered q p = record p { left = λ g k. p.left g k - needs q k; budget = p.budget - q.messages }
