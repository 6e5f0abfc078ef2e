-- What a party is told of a command.
use Rattle.std.specs.Prelude.{ℕ, zero, suc}
use Rattle.engine.specs.declared.command.Command.{Command}
use Rattle.engine.specs.declared.command.Command.TheVariants.{Lodge, Add, Subtract, Scale, Less, Sign, Both, Keep, Divide, Shift, Open, Tell}
use Rattle.engine.specs.declared.command.Numbers.{Numbers}
use Rattle.refusal.specs.declared.seat.Seat.{Seat}
use Rattle.refusal.specs.declared.seat.Seat.TheVariants.{Zero, One}

abbrev pub own : Seat → Numbers → ℕ
own Zero n = n.of0
own One n = n.of1

-- the command as the party at a seat is told it: with its own number, and not the other's
abbrev pub told : Seat → Command Numbers → Command ℕ
told f (Lodge t w n) = Lodge t w (own f n)
told f (Add t l r) = Add t l r
told f (Subtract t l r) = Subtract t l r
told f (Scale t s k) = Scale t s k
told f (Less t w n) = Less t w (own f n)
told f (Sign t s) = Sign t s
told f (Both t l r) = Both t l r
told f (Keep t n b) = Keep t n b
told f (Divide t s d) = Divide t s d
told f (Shift t s n) = Shift t s n
told f (Open s g) = Open s g
told f (Tell s g) = Tell s g

-- the seat with a number; a number over 1 is refused before it is read
abbrev pub seat_of : ℕ → Seat
seat_of zero = Zero
seat_of (suc n) = One
