-- What the engine promises.
use Rattle.std.specs.Prelude.{◌≡◌, ℕ, ◌+◌, ◌^◌, ◌<◌, ◌≤◌, false, List, [], map, length}
use Rattle.refusal.specs.declared.kind.Kind.{Kind}
use Rattle.lookup.specs.Once.{ExactlyOne}
use Rattle.sources.specs.Halves.{Halves}
use Rattle.refusal.specs.declared.seat.Seat.{Seat}
use Rattle.refusal.specs.declared.seat.Seat.TheVariants.{Zero, One}
use Rattle.protocol.specs.Seats.{other, LawfulAt}
use Rattle.protocol.specs.Course.{Course}
use Rattle.protocol.specs.Run.{Outcome, messages, flipped}
use Rattle.protocol.specs.Theorems.{Sound, ExplainsBefore}
use Rattle.protocol.specs.Session.{session}
use Rattle.protocol.specs.Certificate.{steps, shown_by, Engine}
use Rattle.engine.specs.declared.command.Command.{Command}
use Rattle.engine.specs.declared.command.Numbers.{Numbers}
use Rattle.engine.specs.Commands.{told}
use Rattle.engine.specs.State.{spent, carried, Public, Local}
use Rattle.engine.specs.Performing.{course}
use Rattle.engine.specs.Ideal.{Ideal, step, shown, bill, message_bill, Shared, SharedAt}

-- every share is in range
pub record InRange (a : Local) : Type 0 where
  pub numbers : (i : ℕ) → a.shares i < 2 ^ a.public.shape.widths i
  pub bits : (i : ℕ) → a.bits i < 2

-- The two parties know the same of what is public, and their shares are in range: what the shape of their courses goes by.
pub record Alongside (a b : Local) : Type 0 where
  pub public : a.public ≡ b.public
  pub near_in : InRange a
  pub far_in : InRange b

abbrev pub left_at : Seat → Local → Kind → ℕ
left_at f a k = a.public.left f k

abbrev pub budget_of : Local → ℕ
budget_of a = a.public.budget

-- the course of the party at a seat for a command of which it is told its part
abbrev pub course_of : Seat → Command Numbers → Local → Course Local
course_of f c = course f (told f c)

-- Each of the twelve commands, seen from either seat: it takes shares of the ideal functionality's values to shares of its next
-- values, it tells no more than is shown, it costs its price, and the two courses go together whatever the deal.
abbrev pub CommandsStand : Type 0
CommandsStand = (f : Seat) →
    Engine f (SharedAt f) Alongside (left_at f) budget_of (told f) (course f) (course_of (other f)) step (shown f)

-- a session's start: empty registers, and no answers
pub record Start (p : Public) : Type 0 where
  pub no_number : (i : ℕ) → p.shape.widths i ≡ 0
  pub no_bit : (i : ℕ) → p.shape.filled i ≡ false

abbrev pub fresh : Public → Ideal
fresh p = record { public = p; values = λ _. 0; flags = λ _. false; log = λ _. [] }

abbrev pub fresh_party : Public → Local
fresh_party p = record { public = p; shares = λ _. 0; bits = λ _. 0; log = [] }

-- the commands run one by one from empty registers, seen from the seat f
abbrev pub played : Public → Seat → List (Command Numbers) → Halves → Halves → Outcome Local
played p f cs hf ho = session f (course_of f) (course_of (other f)) cs (fresh_party p) (fresh_party p) hf ho

-- THE CERTIFICATE. Two parties start with empty registers, and p is public: how many halves each has, the channel's budget,
-- capacity and longest message. Of every list of commands, accepted or refused, and for either seat f:
pub record Certificate (p : Public) : Type 0 where
  -- Over a lawful deal the parties' shares make up the values of the ideal functionality after the same commands; their answers
  -- (every refusal with what it carries, every receipt, every value opened), counts and budget are its own; and of the deal just
  -- the used front is gone.
  pub as_ideal : (cs : List (Command Numbers)) (h0 h1 : Halves) → LawfulAt Zero h0 h1 → ((k : Kind) → p.left Zero k ≤ length (h0 k)) →
      Sound Zero (Shared (steps step cs (fresh p))) h0 h1 (played p Zero cs h0 h1)
  -- What is used is what the prices of the accepted commands add up to.
  pub billed : (cs : List (Command Numbers)) (h0 h1 : Halves) → LawfulAt Zero h0 h1 → ((k : Kind) → p.left Zero k ≤ length (h0 k)) →
      ((k : Kind) → (played p Zero cs h0 h1).used k ≡ bill cs (fresh p) k) × (messages (played p Zero cs h0 h1) ≡ message_bill cs (fresh p))
  -- Lawful deal or not: both seats see one session;
  pub one_session : (cs : List (Command Numbers)) (h0 h1 : Halves) → played p One cs h1 h0 ≡ flipped (played p Zero cs h0 h1)
  -- what is used of each kind is what the receipts add up to, and what the party's count went down by;
  pub used : (f : Seat) (cs : List (Command Numbers)) (hf ho : Halves) (k : Kind) → (played p f cs hf ho).used k ≡ spent (played p f cs hf ho).near.log k
  pub left : (f : Seat) (cs : List (Command Numbers)) (hf ho : Halves) (k : Kind) → (played p f cs hf ho).used k + (played p f cs hf ho).near.public.left f k ≡ p.left f k
  -- and so are the messages.
  pub sent : (f : Seat) (cs : List (Command Numbers)) (hf ho : Halves) → messages (played p f cs hf ho) ≡ carried (played p f cs hf ho).near.log
  pub budget : (f : Seat) (cs : List (Command Numbers)) (hf ho : Halves) → messages (played p f cs hf ho) + (played p f cs hf ho).near.public.budget ≡ p.budget
  -- Of every other list of commands of which the party at the seat f is told the same, and that opens the same results to it, exactly
  -- one list of the other party's spent halves, lawful against its own, gives it the same messages and lets it end the same (shares,
  -- widths, answers, counts), whatever halves lie behind.
  pub silent : (f : Seat) (cs ds : List (Command Numbers)) (hf ho more : Halves) → map (told f) cs ≡ map (told f) ds →
      shown_by step (shown f) cs (fresh p) ≡ shown_by step (shown f) ds (fresh p) → LawfulAt f hf ho → ((k : Kind) → p.left f k ≤ length (hf k)) →
      ExactlyOne (ExplainsBefore f (played p f cs hf ho) (played p f ds) hf more)

abbrev pub EngineCertified : Type 0
EngineCertified = (p : Public) → Start p → Certificate p
