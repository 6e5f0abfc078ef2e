-- Every command uses just what its price says, of each kind and of messages.
use Rattle.std.proofs.Common.{◌≡◌, ℕ, ◌+◌, ◌-◌, Bool, true, false, List, [], ◌∷◌, length, sym, refl, ap, ◌∙◌, subst, append-nil, zero-add, arith, Ok, Err}
use Rattle.refusal.specs.declared.kind.Kind.{Kind}
use Rattle.refusal.specs.declared.kind.Kind.TheVariants.{Bit, Ring0, Ring1}
use Rattle.refusal.specs.declared.seat.Seat.{Seat}
use Rattle.refusal.specs.declared.seat.Seat.TheVariants.{Zero, One}
use Rattle.protocol.specs.Course.{Course, done, and_then, Follows, tally, Spends, Talks, Unheard, ends}
use Rattle.protocol.proofs.Binding.{then_follows, then_spends, then_talks, follows_spends, follows_talks, follows_unheard, follows_same}
use Rattle.protocol.proofs.Rows.{spends_same}
use Rattle.gadgets.specs.Prices.{prices, Tallies}
use Rattle.gadgets.proofs.Prices.{tallies_none}
use Rattle.gadgets.proofs.Comparison.{comparison_follows, comparison_tallies}
use Rattle.gadgets.proofs.Sign.{sign_follows}
use Rattle.gadgets.proofs.And.{and_follows, and_tallies}
use Rattle.gadgets.proofs.Keep.{keep_follows, keep_tallies}
use Rattle.gadgets.proofs.Division.{division_follows, division_tallies}
use Rattle.gadgets.proofs.Shift.{shift_follows, shift_tallies}
use Rattle.engine.specs.declared.command.Command.{Command}
use Rattle.engine.specs.declared.command.Command.TheVariants.{Less, Sign, Both, Keep, Divide, Shift, Open, Tell}
use Rattle.engine.specs.declared.command.Receipt.{Receipt}
use Rattle.engine.specs.Commands.{seat_of}
use Rattle.engine.specs.State.{needs, Registers, Local, registers}
use Rattle.engine.specs.Judge.{Verdict, lookups, one_message, price, judge}
use Rattle.engine.specs.Performing.{Effect, number_in, bit_in, disclose, perform, settled, attempt, course}
use Rattle.engine.specs.Promise.{left_at, budget_of}
use Rattle.engine.proofs.Judging.{accepted}

-- A list of lookups as a receipt.

needs_lookups : (n : Kind → ℕ) (k : Kind) → needs (lookups n) k ≡ n k
needs_lookups n Bit = refl
needs_lookups n _ = refl

tally_length : (ks : List Kind) → tally ks Bit + tally ks Ring0 + tally ks Ring1 ≡ length ks
tally_length [] = refl
tally_length (Bit ∷ ks) = omega (arith, tally_length ks)
tally_length (_ ∷ ks) = omega (arith, tally_length ks)

-- what a course uses, where n of each kind and m messages are left afterwards
pub record Uses (q : Receipt) (p : Course Effect) : Type 0 where
  pub halves : (n : Kind → ℕ) → Spends (λ _. n) (λ k. needs q k + n k) p
  pub messages : (m : ℕ) → Talks (λ _. m) (q.messages + m) p

follows_uses : (P : Effect → Type 0) (ks : List Kind) (n : Kind → ℕ) (p : Course Effect) → Tallies ks n → Follows P ks p → Uses (lookups n) p
follows_uses P ks n p t h = record {
  halves = λ m. spends_same (λ _. m) (λ k. needs (lookups n) k + m k) (λ k. tally ks k + m k) p (λ k. ap (λ x. x + m k) (needs_lookups n k ∙ sym (t k))) (follows_spends m h);
  messages = λ m. subst (λ x. Talks (λ _. m) x p) (omega (arith, tally_length ks, t Bit, t Ring0, t Ring1)) (follows_talks m h);
}

-- a protocol, and then what is done with what it gives
abbrev Anything : Effect → Type 0
Anything e = Unit {0}

pub into : {P : ℕ → Type 0} {ks : List Kind} {p : Course ℕ} (g : ℕ → Effect) → Follows P ks p → Follows Anything ks (and_then p (λ x. done (g x)))
into {ks = ks} g h = follows_same (append-nil ks) (then_follows h (λ r i. ends tt))

-- the list of lookups of a command, which opens nothing
pub record Plan (q : Receipt) (p : Course Effect) : Type 0 where
  pub kinds : List Kind
  pub counts : Kind → ℕ
  pub priced : q ≡ lookups counts
  pub tallies : Tallies kinds counts
  pub follows : Follows Anything kinds p

plan_uses : {q : Receipt} {p : Course Effect} → Plan q p → Uses q p
plan_uses {q} {p} l = rw l.priced (follows_uses Anything l.kinds l.counts p l.tallies l.follows)

-- opens no value
abbrev pub quiet : {N : Type 0} → Command N → Bool
quiet (Open s g) = false
quiet (Tell s g) = false
quiet _ = true

module _ (f : Seat) (a : Registers) where
  pub planned : (c : Command ℕ) → quiet c ≡ true → Plan (price c a.shape) (perform f c a)
  planned (Less t w n) z = record { kinds = _; counts = _; priced = refl; tallies = comparison_tallies w; follows = into (λ x. bit_in t x) (comparison_follows w _) }
  planned (Sign t s) z = record { kinds = _; counts = _; priced = refl; tallies = comparison_tallies (a.shape.widths s - 1); follows = into (λ x. bit_in t x) (sign_follows f (a.shape.widths s) (a.shares s)) }
  planned (Both t l r) z = record { kinds = _; counts = _; priced = refl; tallies = and_tallies; follows = into (λ x. bit_in t x) (and_follows (a.bits l) (a.bits r)) }
  planned (Keep t n b) z = record { kinds = _; counts = _; priced = refl; tallies = keep_tallies; follows = into (λ x. number_in t (a.shape.widths n) x) (keep_follows (a.shape.widths n) (a.shares n) (a.bits b)) }
  planned (Divide t s d) z = record { kinds = _; counts = _; priced = refl; tallies = division_tallies (a.shape.widths s) d; follows = into (λ x. number_in t (a.shape.widths s) x) (division_follows f (a.shape.widths s) d (a.shares s)) }
  planned (Shift t s n) z = record { kinds = _; counts = _; priced = refl; tallies = shift_tallies (a.shape.widths s) n; follows = into (λ x. number_in t (a.shape.widths s) x) (shift_follows f (a.shape.widths s) n (a.shares s)) }
  planned (Open s g) z = cc
  planned (Tell s g) z = cc
  planned _ z = record { kinds = []; counts = prices 0 0 0; priced = refl; tallies = tallies_none; follows = ends tt }

none_needed : (k : Kind) → needs one_message k ≡ 0
none_needed Bit = refl
none_needed _ = refl

disclose_uses : (f g : Seat) (limit s : ℕ) (j : ℕ → ℕ) → Uses one_message (disclose f g limit s j)
disclose_uses Zero Zero limit s j = record { halves = λ n w k. ap (λ x. x + n k) (none_needed k) ∙ zero-add (n k); messages = λ m. (m, refl, λ w. refl) }
disclose_uses One One limit s j = record { halves = λ n w k. ap (λ x. x + n k) (none_needed k) ∙ zero-add (n k); messages = λ m. (m, refl, λ w. refl) }
disclose_uses _ _ limit s j = record { halves = λ n k. ap (λ x. x + n k) (none_needed k) ∙ zero-add (n k); messages = λ m. (m, refl, refl) }

pub uses : (f : Seat) (c : Command ℕ) (a : Registers) → Uses (price c a.shape) (perform f c a)
uses f (Open s g) a = disclose_uses f (seat_of g) _ _ _
uses f (Tell s g) a = disclose_uses f (seat_of g) _ _ _
uses f c a = plan_uses (planned f a c refl)

-- a command that opens nothing is heard by nobody
pub unheard : (f : Seat) (c : Command ℕ) (a : Local) → quiet c ≡ true → Unheard (course f c a)
unheard f c a z = go (judge c a.public)
  where
    go : (v : Verdict) → Unheard (attempt f c a v)
    go (Err r) = ends
    go (Ok q) = follows_unheard {P = λ _. Unit {0}} (then_follows (planned f (registers a) c z).follows (λ e i. ends tt))

-- in a session: the party's counts go down by the price

settled_left : (f : Seat) (q : Receipt) (a : Local) (e : Effect) (k : Kind) → (settled q a e).public.left f k ≡ a.public.left f k - needs q k
settled_left f q a (number_in t w s) k = refl
settled_left f q a _ k = refl

settled_budget : (q : Receipt) (a : Local) (e : Effect) → (settled q a e).public.budget ≡ a.public.budget - q.messages
settled_budget q a (number_in t w s) = refl
settled_budget q a _ = refl

pub spends : (f : Seat) (c : Command ℕ) (a : Local) → Spends (left_at f) (left_at f a) (course f c a)
spends f c a = go (judge c a.public) refl
  where
    go : (v : Verdict) → judge c a.public ≡ v → Spends (left_at f) (left_at f a) (attempt f c a v)
    go (Err r) e = λ k. refl
    go (Ok q) e =
        let i = accepted c a.public q e in
        let n : Kind → ℕ = λ k. a.public.left f k - needs q k in
        let used = rw (← i.priced) at ((uses f c (registers a)).halves n) in
        then_spends (λ _. n) (left_at f) (left_at f a) (perform f c (registers a)) _
        (spends_same (λ _. n) (left_at f a) (λ k. needs q k + n k) (perform f c (registers a)) (λ k. omega (arith, i.enough f k)) used)
        (λ r m h k. h k ∙ sym (settled_left f q a r k))

pub talks : (f : Seat) (c : Command ℕ) (a : Local) → Talks budget_of (budget_of a) (course f c a)
talks f c a = go (judge c a.public) refl
  where
    go : (v : Verdict) → judge c a.public ≡ v → Talks budget_of (budget_of a) (attempt f c a v)
    go (Err r) e = refl
    go (Ok q) e =
        let i = accepted c a.public q e in
        let m = a.public.budget - q.messages in
        let used = rw (← i.priced) at ((uses f c (registers a)).messages m) in
        then_talks (λ _. m) budget_of (budget_of a) (perform f c (registers a)) _
        (subst (λ x. Talks (λ _. m) x (perform f c (registers a))) (omega (arith, i.carries)) used)
        (λ r n h. h ∙ sym (settled_budget q a r))
