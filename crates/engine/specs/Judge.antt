-- What is refused and what a command costs, by what is public alone.
use Rattle.std.specs.Prelude.{ℕ, ◌+◌, ◌-◌, ◌*◌, Bool, true, false, ◌&&◌, List, [], ◌∷◌, ◌==◌, nat_le, nat_lt, Result, Ok, Err}
use Rattle.std.specs.List.{list_all}
use Rattle.refusal.specs.declared.kind.Kind.{Kind}
use Rattle.refusal.specs.declared.kind.Kind.TheVariants.{Bit, Ring0, Ring1}
use Rattle.refusal.specs.Kinds.{number as kind_number}
use Rattle.refusal.specs.Refusals.{Code, plain}
use Rattle.refusal.specs.declared.seat.Seat.{Seat}
use Rattle.refusal.specs.declared.seat.Seat.TheVariants.{Zero, One}
use Rattle.refusal.specs.Seats.{number}
use Rattle.gadgets.specs.Prices.{prices}
use Rattle.gadgets.specs.Comparison.{comparison_price}
use Rattle.gadgets.specs.Division.{division_price}
use Rattle.gadgets.specs.Shift.{shift_price}
use Rattle.engine.specs.declared.command.Command.{Command}
use Rattle.engine.specs.declared.command.Command.TheVariants.{Lodge, Add, Subtract, Scale, Less, Sign, Both, Keep, Divide, Shift, Open, Tell}
use Rattle.engine.specs.declared.command.Receipt.{Receipt}
use Rattle.engine.specs.State.{needs, Shape, Public}

-- a command's price, or how it is refused
abbrev pub Verdict : Type 0
Verdict = Result Receipt Code

abbrev pub unless : Bool → Code → Verdict → Verdict
unless true r v = v
unless false r v = Err r

-- correlations short, at a party, of a kind, so many lacking; and messages short
abbrev pub correlations_short : Seat → Kind → ℕ → Code
correlations_short g k lacking = record { number = 9; values = number g ∷ kind_number k ∷ lacking ∷ [] }

abbrev pub budget_short : ℕ → Code
budget_short lacking = record { number = 11; values = lacking ∷ [] }

-- so many lookups of each kind, with two messages for each
abbrev pub lookups : (Kind → ℕ) → Receipt
lookups n = record { used = record { bit = n Bit; ring0 = n Ring0; ring1 = n Ring1 }; messages = 2 * (n Bit + n Ring0 + n Ring1) }

abbrev pub free : Receipt
free = lookups (prices 0 0 0)

abbrev pub one_message : Receipt
one_message = record { used = record { bit = 0; ring0 = 0; ring1 = 0 }; messages = 1 }

module _ {N : Type 0} where
  -- the registers that a command names
  abbrev pub named : Command N → List ℕ
  named (Lodge t w n) = t ∷ []
  named (Add t l r) = t ∷ l ∷ r ∷ []
  named (Subtract t l r) = t ∷ l ∷ r ∷ []
  named (Scale t s k) = t ∷ s ∷ []
  named (Less t w n) = t ∷ []
  named (Sign t s) = t ∷ s ∷ []
  named (Both t l r) = t ∷ l ∷ r ∷ []
  named (Keep t n b) = t ∷ n ∷ b ∷ []
  named (Divide t s d) = t ∷ s ∷ []
  named (Shift t s n) = t ∷ s ∷ []
  named (Open s g) = s ∷ []
  named (Tell s g) = s ∷ []

  -- a width that is given is 2 to 32
  abbrev pub width_fits : Command N → Bool
  width_fits (Lodge t w n) = nat_le 2 w && nat_le w 32
  width_fits (Less t w n) = nat_le 2 w && nat_le w 32
  width_fits _ = true

  -- every operand is filled
  abbrev pub operands_filled : Command N → Shape → Bool
  operands_filled (Add t l r) p = nat_lt 1 (p.widths l) && nat_lt 1 (p.widths r)
  operands_filled (Subtract t l r) p = nat_lt 1 (p.widths l) && nat_lt 1 (p.widths r)
  operands_filled (Scale t s k) p = nat_lt 1 (p.widths s)
  operands_filled (Sign t s) p = nat_lt 1 (p.widths s)
  operands_filled (Both t l r) p = p.filled l && p.filled r
  operands_filled (Keep t n b) p = nat_lt 1 (p.widths n) && p.filled b
  operands_filled (Divide t s d) p = nat_lt 1 (p.widths s)
  operands_filled (Shift t s n) p = nat_lt 1 (p.widths s)
  operands_filled (Open s g) p = nat_lt 1 (p.widths s)
  operands_filled (Tell s g) p = p.filled s
  operands_filled _ p = true

  -- the operands of a sum or difference are as wide as each other
  abbrev pub widths_agree : Command N → Shape → Bool
  widths_agree (Add t l r) p = p.widths l == p.widths r
  widths_agree (Subtract t l r) p = p.widths l == p.widths r
  widths_agree _ p = true

  -- a divisor, a number of places, a seat are in range
  abbrev pub arguments_fit : Command N → Shape → Bool
  arguments_fit (Divide t s d) p = nat_le 1 d && nat_le d 65535
  arguments_fit (Shift t s n) p = nat_le n (p.widths s - 1)
  arguments_fit (Open s g) p = nat_le g 1
  arguments_fit (Tell s g) p = nat_le g 1
  arguments_fit _ p = true

  -- what a command costs, and so what its receipt says
  abbrev pub price : Command N → Shape → Receipt
  price (Less t w n) p = lookups (prices (comparison_price w) 0 0)
  price (Sign t s) p = lookups (prices (comparison_price (p.widths s - 1)) 0 0)
  price (Both t l r) p = lookups (prices 1 0 0)
  price (Keep t n b) p = lookups (prices 0 1 1)
  price (Divide t s d) p = lookups (division_price (p.widths s) d)
  price (Shift t s n) p = lookups (shift_price (p.widths s) n)
  price (Open s g) p = one_message
  price (Tell s g) p = one_message
  price _ p = free

-- The checks that a party makes by its registers, in their order, and then v.
abbrev pub checked : {N : Type 0} → Command N → Shape → Verdict → Verdict
checked c p v =
    unless (list_all (λ i. nat_le i 31) (named c)) (plain 4)
    (unless (width_fits c) (plain 5)
    (unless (operands_filled c p) (plain 6)
    (unless (widths_agree c p) (plain 7)
    (unless (arguments_fit c p) (plain 8)
    v))))

-- the halves of the party at a seat: the lowest kind that is short is named; and then v
abbrev pub affordable : Seat → Receipt → (Kind → ℕ) → Verdict → Verdict
affordable g q left v =
    unless (nat_le (needs q Bit) (left Bit)) (correlations_short g Bit (needs q Bit - left Bit))
    (unless (nat_le (needs q Ring0) (left Ring0)) (correlations_short g Ring0 (needs q Ring0 - left Ring0))
    (unless (nat_le (needs q Ring1) (left Ring1)) (correlations_short g Ring1 (needs q Ring1 - left Ring1)) v))

-- seat 0's halves, seat 1's, the channel's budget
abbrev pub charge : Receipt → Public → Verdict
charge q p =
    affordable Zero q (p.left Zero)
    (affordable One q (p.left One)
    (unless (nat_le q.messages p.budget) (budget_short (q.messages - p.budget)) (Ok q)))

-- All checks in their order. (That nothing is under way, that both parties have the same registers filled, and that no message
-- waits, is so in every session.)
abbrev pub judge : {N : Type 0} → Command N → Public → Verdict
judge c p =
    unless (p.seats Zero == 0 && p.seats One == 1) (plain 1)
    (unless (nat_lt 0 p.capacity && nat_le 16 p.longest) (plain 3)
    (checked c p.shape (charge (price c p.shape) p)))
