-- The certificate, from what each command shows.
use Rattle.std.proofs.Common.{◌≡◌, ◌+◌, ◌^◌, ◌<◌, ◌≤◌, List, length, sym, refl, ap, ◌∙◌, subst, arith, pow_pos}
use Rattle.std.proofs.Math.Nat.{zero-mod}
use Rattle.refusal.specs.declared.kind.Kind.{Kind}
use Rattle.sources.specs.Halves.{Halves}
use Rattle.refusal.specs.declared.seat.Seat.{Seat}
use Rattle.refusal.specs.declared.seat.Seat.TheVariants.{Zero, One}
use Rattle.protocol.specs.Seats.{other, LawfulAt}
use Rattle.protocol.specs.Run.{messages}
use Rattle.protocol.specs.Theorems.{Sound}
use Rattle.protocol.specs.Certificate.{steps, Certified}
use Rattle.protocol.proofs.Rows.{session_flipped}
use Rattle.protocol.proofs.Endings.{session_always}
use Rattle.protocol.proofs.Certifying.{certified}
use Rattle.engine.specs.declared.command.Command.{Command}
use Rattle.engine.specs.declared.command.Numbers.{Numbers}
use Rattle.engine.specs.Commands.{told}
use Rattle.engine.specs.State.{needs, spent, carried, Public, Local}
use Rattle.engine.specs.Performing.{course}
use Rattle.engine.specs.Ideal.{Ideal, step, shown, bill, message_bill, Shared, SharedAt}
use Rattle.engine.specs.Promise.{Alongside, left_at, budget_of, course_of, CommandsStand, Start, fresh, fresh_party, played, Certificate, EngineCertified}
use Rattle.engine.proofs.Computing.{computes_at}
use Rattle.engine.proofs.Pricing.{spends, talks}
use Rattle.engine.proofs.Agreeing.{agrees}
use Rattle.engine.proofs.Balancing.{Balanced, balances}
use Rattle.engine.proofs.Hiding.{publics, hides, number_at, flag_at}
use Rattle.engine.proofs.Billing.{bill_is}

-- shares that make up the ideal functionality's values are in range
alongside : (f : Seat) (w : Ideal) (a b : Local) → SharedAt f w a b → Alongside a b
alongside f w a b i =
    let p = publics f w a b i in
    record {
      public = p.0 ∙ sym p.1;
      near_in = record { numbers = λ j. subst (λ (x : Public). a.shares j < 2 ^ x.shape.widths j) (sym p.0) (number_at f w a b j i).below_0; bits = λ j. (flag_at f w a b j i).bit_0 };
      far_in = record { numbers = λ j. subst (λ (x : Public). b.shares j < 2 ^ x.shape.widths j) (sym p.1) (number_at f w a b j i).below_1; bits = λ j. (flag_at f w a b j i).bit_1 };
    }

pub commands_stand : CommandsStand
commands_stand f = record {
  keeps = λ c w a b i. computes_at f c w a b i;
  hides = hides f;
  spends = spends f;
  talks = talks f;
  agrees = agrees f;
  public = alongside f;
}

engine : (f : Seat) → Certified f (SharedAt f) Alongside (left_at f) budget_of (told f) (course f) (course_of (other f)) step (shown f)
engine f = certified f (SharedAt f) Alongside (left_at f) budget_of (told f) (course f) (course_of (other f)) step (shown f) (commands_stand f)

-- the start: empty registers hold shares of noughts

module _ (p : Public) (s : Start p) where
  starts : Shared (fresh p) (fresh_party p) (fresh_party p)
  starts = record {
    make_up = record {
      number = λ i. record { below_0 = pow_pos (p.shape.widths i); below_1 = pow_pos (p.shape.widths i); adds = zero-mod (2 ^ p.shape.widths i) };
      flag = λ i. record { bit_0 = omega arith; bit_1 = omega arith; opens = refl };
      narrow = λ i. omega (arith, s.no_number i);
    };
    party_0 = refl;
    party_1 = refl;
  }

  starts_at : (f : Seat) → SharedAt f (fresh p) (fresh_party p) (fresh_party p)
  starts_at Zero = starts
  starts_at One = starts

  level : Alongside (fresh_party p) (fresh_party p)
  level = alongside Zero (fresh p) (fresh_party p) (fresh_party p) starts

  balanced : (f : Seat) (cs : List (Command Numbers)) (hf ho : Halves) → Balanced f (p.left f) p.budget (played p f cs hf ho).near
  balanced f cs hf ho =
      session_always f (Balanced f (p.left f) p.budget) (course_of f) (course_of (other f)) (λ c. balances f (p.left f) p.budget (told f c)) cs (fresh_party p) (fresh_party p) hf ho
      (record { halves = λ k. omega arith; messages = omega arith })

  left_is : (f : Seat) (cs : List (Command Numbers)) (hf ho : Halves) (k : Kind) → (played p f cs hf ho).used k + (played p f cs hf ho).near.public.left f k ≡ p.left f k
  left_is f cs hf ho k = (engine f).accounts cs (fresh_party p) (fresh_party p) hf ho level k

  used_is : (f : Seat) (cs : List (Command Numbers)) (hf ho : Halves) (k : Kind) → (played p f cs hf ho).used k ≡ spent (played p f cs hf ho).near.log k
  used_is f cs hf ho k = omega (arith, left_is f cs hf ho k, (balanced f cs hf ho).halves k)

  budget_is : (f : Seat) (cs : List (Command Numbers)) (hf ho : Halves) → messages (played p f cs hf ho) + (played p f cs hf ho).near.public.budget ≡ p.budget
  budget_is f cs hf ho = (engine f).message_accounts cs (fresh_party p) (fresh_party p) hf ho level

  sent_is : (f : Seat) (cs : List (Command Numbers)) (hf ho : Halves) → messages (played p f cs hf ho) ≡ carried (played p f cs hf ho).near.log
  sent_is f cs hf ho = omega (arith, budget_is f cs hf ho, (balanced f cs hf ho).messages)

  ideal_is : (cs : List (Command Numbers)) (h0 h1 : Halves) → LawfulAt Zero h0 h1 → ((k : Kind) → p.left Zero k ≤ length (h0 k)) →
      Sound Zero (Shared (steps step cs (fresh p))) h0 h1 (played p Zero cs h0 h1)
  ideal_is cs h0 h1 law enough = (engine Zero).sound cs (fresh p) (fresh_party p) (fresh_party p) h0 h1 starts law enough

  billed_is : (cs : List (Command Numbers)) (h0 h1 : Halves) → LawfulAt Zero h0 h1 → ((k : Kind) → p.left Zero k ≤ length (h0 k)) →
      ((k : Kind) → (played p Zero cs h0 h1).used k ≡ bill cs (fresh p) k) × (messages (played p Zero cs h0 h1) ≡ message_bill cs (fresh p))
  billed_is cs h0 h1 law enough =
      let o = played p Zero cs h0 h1 in
      let same : o.near.log ≡ (steps step cs (fresh p)).log Zero = ap (λ (x : Local). x.log) (ideal_is cs h0 h1 law enough).related.party_0 in (
        (λ k. used_is Zero cs h0 h1 k ∙ ap (λ l. spent l k) same ∙ bill_is (λ q. needs q k) Zero cs (fresh p) ∙ omega arith),
        sent_is Zero cs h0 h1 ∙ ap carried same ∙ bill_is (λ q. q.messages) Zero cs (fresh p) ∙ omega arith,
      )

  certificate : Certificate p
  certificate = record {
    as_ideal = ideal_is;
    billed = billed_is;
    one_session = λ cs h0 h1. session_flipped Alongside (course_of Zero) (course_of One) cs (fresh_party p) (fresh_party p) h0 h1 (agrees Zero) level;
    used = used_is;
    left = left_is;
    sent = sent_is;
    budget = budget_is;
    silent = λ f cs ds hf ho more e o law enough.
        (engine f).silent cs ds (fresh p) (fresh p) (fresh_party p) (fresh_party p) (fresh_party p) hf ho more e o (starts_at f) (starts_at f) law enough;
  }

pub engine_certified : EngineCertified
engine_certified p s = certificate p s
