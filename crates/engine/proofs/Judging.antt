-- What an accepted command may rely on.
use Rattle.std.proofs.Common.{◌≡◌, ℕ, ◌≤◌, Bool, true, false, ◌&&◌, ◌==◌, nat_lt, nat_le, refl, Ok}
use Rattle.std.proofs.lemmas.Bool.{leb-true}
use Rattle.refusal.specs.declared.kind.Kind.{Kind}
use Rattle.refusal.specs.declared.kind.Kind.TheVariants.{Bit, Ring0, Ring1}
use Rattle.refusal.specs.Refusals.{Code, plain}
use Rattle.refusal.specs.declared.seat.Seat.{Seat}
use Rattle.refusal.specs.declared.seat.Seat.TheVariants.{Zero, One}
use Rattle.engine.specs.declared.command.Command.{Command}
use Rattle.engine.specs.declared.command.Command.TheVariants.{Lodge}
use Rattle.engine.specs.declared.command.Numbers.{Numbers}
use Rattle.engine.specs.declared.command.Receipt.{Receipt}
use Rattle.engine.specs.Commands.{told}
use Rattle.engine.specs.State.{needs, Shape, Public}
use Rattle.engine.specs.Judge.{Verdict, unless, width_fits, operands_filled, widths_agree, arguments_fit, price, checked, affordable, charge, judge}

unless_true : (b : Bool) (r : Code) (v : Verdict) (q : Receipt) → unless b r v ≡ Ok q → (b ≡ true) × (v ≡ Ok q)
unless_true true r v q e = (refl, e)
unless_true false r v q e = cc

-- by its registers' shape
pub record Fitting {N : Type 0} (c : Command N) (p : Shape) : Type 0 where
  pub width : width_fits c ≡ true
  pub filled : operands_filled c p ≡ true
  pub agree : widths_agree c p ≡ true
  pub arguments : arguments_fit c p ≡ true

pub record Accepted {N : Type 0} (c : Command N) (p : Public) (q : Receipt) : Type 0 where
  pub fitting : Fitting c p.shape
  pub priced : q ≡ price c p.shape
  pub enough : (g : Seat) (k : Kind) → needs q k ≤ p.left g k
  pub carries : q.messages ≤ p.budget

pub checked_true : {N : Type 0} (c : Command N) (p : Shape) (v : Verdict) (q : Receipt) → checked c p v ≡ Ok q → Fitting c p × (v ≡ Ok q)
checked_true c p v q e =
    let c4 = unless_true _ _ _ q e in
    let c5 = unless_true _ _ _ q c4.1 in
    let c6 = unless_true _ _ _ q c5.1 in
    let c7 = unless_true _ _ _ q c6.1 in
    let c8 = unless_true _ _ _ q c7.1 in
    (record { width = c5.0; filled = c6.0; agree = c7.0; arguments = c8.0 }, c8.1)

affordable_true : (g : Seat) (r : Receipt) (left : Kind → ℕ) (v : Verdict) (q : Receipt) → affordable g r left v ≡ Ok q → ((k : Kind) → needs r k ≤ left k) × (v ≡ Ok q)
affordable_true g r left v q e =
    let x = unless_true _ _ _ q e in
    let y = unless_true _ _ _ q x.1 in
    let z = unless_true _ _ _ q y.1 in
    (at x.0 y.0 z.0, z.1)
  where
    at : nat_le (needs r Bit) (left Bit) ≡ true → nat_le (needs r Ring0) (left Ring0) ≡ true → nat_le (needs r Ring1) (left Ring1) ≡ true → (k : Kind) → needs r k ≤ left k
    at x y z Bit = leb-true _ _ x
    at x y z Ring0 = leb-true _ _ y
    at x y z Ring1 = leb-true _ _ z

charge_true : (r : Receipt) (p : Public) (q : Receipt) → charge r p ≡ Ok q → (q ≡ r) × ((g : Seat) (k : Kind) → needs r k ≤ p.left g k) × (r.messages ≤ p.budget)
charge_true r p q e =
    let h0 = affordable_true Zero r (p.left Zero) _ q e in
    let h1 = affordable_true One r (p.left One) _ q h0.1 in
    let m = unless_true _ _ (Ok r) q h1.1 in
    (cc, at h0.0 h1.0, leb-true r.messages p.budget m.0)
  where
    at : ((k : Kind) → needs r k ≤ p.left Zero k) → ((k : Kind) → needs r k ≤ p.left One k) → (g : Seat) (k : Kind) → needs r k ≤ p.left g k
    at x y Zero k = x k
    at x y One k = y k

pub accepted : {N : Type 0} (c : Command N) (p : Public) (q : Receipt) → judge c p ≡ Ok q → Accepted c p q
accepted c p q e =
    let c1 = unless_true (p.seats Zero == 0 && p.seats One == 1) (plain 1) _ q e in
    let c3 = unless_true (nat_lt 0 p.capacity && nat_le 16 p.longest) (plain 3) _ q c1.1 in
    let c8 = checked_true c p.shape (charge (price c p.shape) p) q c3.1 in
    let paid = charge_true (price c p.shape) p q c8.1 in
    record {
      fitting = c8.0;
      priced = paid.0;
      enough = rw paid.0 paid.1;
      carries = rw paid.0 paid.2;
    }

-- a party judges as the ideal functionality does
pub judge_told : (f : Seat) (c : Command Numbers) (p : Public) → judge (told f c) p ≡ judge c p
judge_told f (Lodge t w n) p = refl
judge_told f _ p = refl
