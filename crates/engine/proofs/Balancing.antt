-- Receipts and what is left make up what there was, whatever the deal.
use Rattle.std.proofs.Common.{◌≡◌, ℕ, ◌+◌, ◌≤◌, refl, arith, Ok, Err, List, ◌∷◌, sum_by}
use Rattle.std.proofs.lemmas.List.Sums.{sum_by-cons}
use Rattle.refusal.specs.declared.kind.Kind.{Kind}
use Rattle.refusal.specs.declared.seat.Seat.{Seat}
use Rattle.protocol.proofs.Endings.{Always, ends, always_then}
use Rattle.engine.specs.declared.command.Command.{Command}
use Rattle.engine.specs.declared.command.Receipt.{Receipt}
use Rattle.engine.specs.State.{needs, Answer, receipt, opened, receipt_count, spent, carried, Local, registers}
use Rattle.engine.specs.Judge.{Verdict, judge}
use Rattle.engine.specs.Performing.{Effect, learns, perform, settled, attempt, course}
use Rattle.engine.proofs.Judging.{accepted}

one_more : (n : Receipt → ℕ) (q : Receipt) (log : List Answer) → sum_by (receipt_count n) (receipt q ∷ log) ≡ n q + sum_by (receipt_count n) log
one_more n q log = sum_by-cons (receipt_count n) (receipt q) log

-- of n halves of each kind and m messages
pub record Balanced (f : Seat) (n : Kind → ℕ) (m : ℕ) (a : Local) : Type 0 where
  pub halves : (k : Kind) → spent a.log k + a.public.left f k ≡ n k
  pub messages : carried a.log + a.public.budget ≡ m

module _ (f : Seat) (n : Kind → ℕ) (m : ℕ) where
  settled_balance : (q : Receipt) (a : Local) → ((k : Kind) → needs q k ≤ a.public.left f k) → q.messages ≤ a.public.budget → Balanced f n m a → (e : Effect) → Balanced f n m (settled q a e)
  settled_balance q a h l b (learns v) = record {
    halves = λ k. omega (arith, h k, b.halves k, one_more (λ r. needs r k) q (opened v ∷ a.log));
    messages = omega (arith, b.messages, one_more (λ r. r.messages) q (opened v ∷ a.log));
  }
  settled_balance q a h l b _ = record { halves = λ k. omega (arith, h k, b.halves k, one_more (λ r. needs r k) q a.log); messages = omega (arith, b.messages, one_more (λ r. r.messages) q a.log) }

  pub balances : (c : Command ℕ) (a : Local) → Balanced f n m a → Always (Balanced f n m) (course f c a)
  balances c a b = go (judge c a.public) refl
    where
      go : (v : Verdict) → judge c a.public ≡ v → Always (Balanced f n m) (attempt f c a v)
      go (Err r) e = ends (record { halves = b.halves; messages = b.messages })
      go (Ok q) e =
          let i = accepted c a.public q e in
          always_then (Balanced f n m) (settled q a) (settled_balance q a (i.enough f) i.carries b) (perform f c (registers a))
