-- The course of each command at a party, by its own registers, and what becomes of the party.
use Rattle.std.specs.Prelude.{ℕ, ◌+◌, ◌-◌, ◌*◌, ◌%◌, ◌^◌, ◌∷◌, bit_xor, Ok, Err}
use Rattle.refusal.specs.Refusals.{Code}
use Rattle.refusal.specs.declared.seat.Seat.{Seat}
use Rattle.refusal.specs.declared.seat.Seat.TheVariants.{Zero, One}
use Rattle.protocol.specs.Course.{Course, done, say, hear, and_then}
use Rattle.gadgets.specs.Comparison.{compare}
use Rattle.gadgets.specs.Sign as sign
use Rattle.gadgets.specs.And as and
use Rattle.gadgets.specs.Keep as keep
use Rattle.gadgets.specs.Division as division
use Rattle.gadgets.specs.Shift as shift
use Rattle.engine.specs.declared.command.Command.{Command}
use Rattle.engine.specs.declared.command.Command.TheVariants.{Lodge, Add, Subtract, Scale, Less, Sign, Both, Keep, Divide, Shift, Open, Tell}
use Rattle.engine.specs.declared.command.Receipt.{Receipt}
use Rattle.engine.specs.Commands.{seat_of}
use Rattle.engine.specs.State.{refused, receipt, opened, Registers, Local, registers, put, with_number, with_bit, with_shape, lowered}
use Rattle.engine.specs.Judge.{Verdict, judge}

-- what a command does to a party: it fills a number register or a bit register, learns a value that is opened to it, or nothing
pub data Effect : Type 0 where
  number_in : (target width share : ℕ) → Effect
  bit_in : (target share : ℕ) → Effect
  learns : (value : ℕ) → Effect
  nothing : Effect

-- The party at the first seat, where the one at the second is to learn a value: it hears the other's share, below the limit,
-- and joins it with its own, or it says its own.
abbrev pub disclose : Seat → Seat → (limit share : ℕ) → (ℕ → ℕ) → Course Effect
disclose Zero Zero limit s join = hear limit (λ v. done (learns (join v)))
disclose One One limit s join = hear limit (λ v. done (learns (join v)))
disclose _ _ limit s join = say s (done nothing)

-- a command that goes ahead, at the party at a seat, with its own registers
abbrev pub perform : Seat → Command ℕ → Registers → Course Effect
perform f (Lodge t w n) a = done (number_in t w (n % 2 ^ w))
perform f (Add t l r) a = done (number_in t (a.shape.widths l) ((a.shares l + a.shares r) % 2 ^ a.shape.widths l))
perform f (Subtract t l r) a = done (number_in t (a.shape.widths l) ((a.shares l + (2 ^ a.shape.widths l - a.shares r)) % 2 ^ a.shape.widths l))
perform f (Scale t s k) a = done (number_in t (a.shape.widths s) (a.shares s * k % 2 ^ a.shape.widths s))
perform f (Less t w n) a = and_then (compare w (n % 2 ^ w)) (λ x. done (bit_in t x))
perform f (Sign t s) a = and_then (sign.sign f (a.shape.widths s) (a.shares s)) (λ x. done (bit_in t x))
perform f (Both t l r) a = and_then (and.and (a.bits l) (a.bits r)) (λ x. done (bit_in t x))
perform f (Keep t n b) a = and_then (keep.keep (a.shape.widths n) (a.shares n) (a.bits b)) (λ x. done (number_in t (a.shape.widths n) x))
perform f (Divide t s d) a = and_then (division.divide f (a.shape.widths s) d (a.shares s)) (λ x. done (number_in t (a.shape.widths s) x))
perform f (Shift t s n) a = and_then (shift.shift f (a.shape.widths s) n (a.shares s)) (λ x. done (number_in t (a.shape.widths s) x))
perform f (Open s g) a = disclose f (seat_of g) (2 ^ a.shape.widths s) (a.shares s) (λ v. (a.shares s + v) % 2 ^ a.shape.widths s)
perform f (Tell s g) a = disclose f (seat_of g) 2 (a.bits s) (λ v. bit_xor (a.bits s) v)

-- the party after a command of that price and effect
abbrev pub settled : Receipt → Local → Effect → Local
settled q a (number_in t w s) = record a { public = with_shape (with_number t w) (lowered q a.public); shares = put t s a.shares; log = receipt q ∷ a.log }
settled q a (bit_in t s) = record a { public = with_shape (with_bit t) (lowered q a.public); bits = put t s a.bits; log = receipt q ∷ a.log }
settled q a (learns v) = record a { public = lowered q a.public; log = receipt q ∷ opened v ∷ a.log }
settled q a nothing = record a { public = lowered q a.public; log = receipt q ∷ a.log }

abbrev pub turned_away : Code → Local → Local
turned_away r a = record a { log = refused r ∷ a.log }

abbrev pub attempt : Seat → Command ℕ → Local → Verdict → Course Local
attempt f c a (Err r) = done (turned_away r a)
attempt f c a (Ok q) = and_then (perform f c (registers a)) (λ e. done (settled q a e))

-- a command at a party in a session: refused by what is public, or performed
abbrev pub course : Seat → Command ℕ → Local → Course Local
course f c a = attempt f c a (judge c a.public)
