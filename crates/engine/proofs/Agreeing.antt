-- The courses of each command go together, whatever the lookups give, and leave the parties alongside each other.
use Rattle.std.proofs.Common.{◌≡◌, ℕ, ◌%◌, ◌^◌, ◌<◌, Bool, true, false, if◌then◌else◌, ◌==◌, List, refl, subst, mod-lt, pow_pos, Ok, Err}
use Rattle.std.proofs.lemmas.Bool.{cond_both}
use Rattle.refusal.specs.declared.kind.Kind.{Kind}
use Rattle.refusal.specs.declared.seat.Seat.{Seat}
use Rattle.refusal.specs.declared.seat.Seat.TheVariants.{Zero, One}
use Rattle.protocol.specs.Seats.{other}
use Rattle.protocol.specs.Course.{Course, done, and_then, Follows, Matched, ends, says, hears}
use Rattle.protocol.specs.Session.{Agrees}
use Rattle.protocol.proofs.Binding.{then_matched, follows_matched}
use Rattle.gadgets.proofs.Comparison.{comparison_follows}
use Rattle.gadgets.proofs.Sign.{sign_follows}
use Rattle.gadgets.proofs.And.{and_follows}
use Rattle.gadgets.proofs.Keep.{keep_follows}
use Rattle.gadgets.proofs.Division.{division_follows}
use Rattle.gadgets.proofs.Shift.{shift_follows}
use Rattle.engine.specs.declared.command.Command.{Command}
use Rattle.engine.specs.declared.command.Command.TheVariants.{Lodge, Add, Subtract, Scale, Less, Sign, Both, Keep, Divide, Shift, Open, Tell}
use Rattle.engine.specs.declared.command.Numbers.{Numbers}
use Rattle.engine.specs.declared.command.Receipt.{Receipt}
use Rattle.engine.specs.Commands.{told, seat_of}
use Rattle.engine.specs.State.{Shape, Public, Registers, Local, Answer}
use Rattle.engine.specs.Judge.{Verdict, judge}
use Rattle.engine.specs.Performing.{Effect, number_in, bit_in, learns, nothing, disclose, perform, settled, attempt}
use Rattle.engine.specs.Promise.{Alongside, course_of}
use Rattle.engine.proofs.Judging.{judge_told}

-- the two parties do the same, each with a share in range
pub data Twins : Effect → Effect → Type 0 where
  numbers : {t w x y : ℕ} → x < 2 ^ w → y < 2 ^ w → Twins (number_in t w x) (number_in t w y)
  bits : {t x y : ℕ} → x < 2 → y < 2 → Twins (bit_in t x) (bit_in t y)
  near_learns : {v : ℕ} → Twins (learns v) nothing
  far_learns : {v : ℕ} → Twins nothing (learns v)

numbers_matched : (t w : ℕ) {ks : List Kind} {p q : Course ℕ} → Follows (λ r. r < 2 ^ w) ks p → Follows (λ r. r < 2 ^ w) ks q →
    Matched Twins (and_then p (λ x. done (number_in t w x))) (and_then q (λ x. done (number_in t w x)))
numbers_matched t w h h' = then_matched (follows_matched h h') (λ x y i. ends (numbers i.0 i.1))

bits_matched : (t : ℕ) {ks : List Kind} {p q : Course ℕ} → Follows (λ r. r < 2) ks p → Follows (λ r. r < 2) ks q →
    Matched Twins (and_then p (λ x. done (bit_in t x))) (and_then q (λ x. done (bit_in t x)))
bits_matched t h h' = then_matched (follows_matched h h') (λ x y i. ends (bits i.0 i.1))

disclose_matched : (f g : Seat) (limit x y : ℕ) (i j : ℕ → ℕ) → x < limit → y < limit → Matched Twins (disclose f g limit x i) (disclose (other f) g limit y j)
disclose_matched Zero Zero limit x y i j hx hy = hears hy (ends near_learns)
disclose_matched One One limit x y i j hx hy = hears hy (ends near_learns)
disclose_matched _ _ limit x y i j hx hy = says hx (ends far_learns)

-- two parties with registers of one shape
module _ (f : Seat) (p : Shape) (s b s' b' : ℕ → ℕ) (in_s : (i : ℕ) → s i < 2 ^ p.widths i) (in_b : (i : ℕ) → b i < 2)
    (in_s' : (i : ℕ) → s' i < 2 ^ p.widths i) (in_b' : (i : ℕ) → b' i < 2) where
  abbrev near : Registers
  near = record { shape = p; shares = s; bits = b }

  abbrev far : Registers
  far = record { shape = p; shares = s'; bits = b' }

  cut : (w x y : ℕ) → (x % 2 ^ w < 2 ^ w) × (y % 2 ^ w < 2 ^ w)
  cut w x y = (mod-lt x (pow_pos w), mod-lt y (pow_pos w))

  performs_matched : (c : Command Numbers) → Matched Twins (perform f (told f c) near) (perform (other f) (told (other f) c) far)
  performs_matched (Lodge t w n) = let c = cut w _ _ in ends (numbers c.0 c.1)
  performs_matched (Add t l r) = let c = cut (p.widths l) _ _ in ends (numbers c.0 c.1)
  performs_matched (Subtract t l r) = let c = cut (p.widths l) _ _ in ends (numbers c.0 c.1)
  performs_matched (Scale t r k) = let c = cut (p.widths r) _ _ in ends (numbers c.0 c.1)
  performs_matched (Less t w n) = bits_matched t (comparison_follows w _) (comparison_follows w _)
  performs_matched (Sign t r) = bits_matched t (sign_follows f (p.widths r) (s r)) (sign_follows (other f) (p.widths r) (s' r))
  performs_matched (Both t l r) = bits_matched t (and_follows (b l) (b r)) (and_follows (b' l) (b' r))
  performs_matched (Keep t n r) = numbers_matched t (p.widths n) (keep_follows (p.widths n) (s n) (b r)) (keep_follows (p.widths n) (s' n) (b' r))
  performs_matched (Divide t r d) = numbers_matched t (p.widths r) (division_follows f (p.widths r) d (s r)) (division_follows (other f) (p.widths r) d (s' r))
  performs_matched (Shift t r n) = numbers_matched t (p.widths r) (shift_follows f (p.widths r) n (s r)) (shift_follows (other f) (p.widths r) n (s' r))
  performs_matched (Open r g) = disclose_matched f (seat_of g) (2 ^ p.widths r) (s r) (s' r) _ _ (in_s r) (in_s' r)
  performs_matched (Tell r g) = disclose_matched f (seat_of g) 2 (b r) (b' r) _ _ (in_b r) (in_b' r)

-- what is written keeps the parties alongside
share_at : (w x i : ℕ) (s widths : ℕ → ℕ) → x < 2 ^ w → s i < 2 ^ widths i → (z : Bool) → (if z then x else s i) < 2 ^ (if z then w else widths i)
share_at w x i s widths h h' true = h
share_at w x i s widths h h' false = h'

module _ (p : Public) (s b s' b' : ℕ → ℕ) (l l' : List Answer) (in_s : (i : ℕ) → s i < 2 ^ p.shape.widths i) (in_b : (i : ℕ) → b i < 2)
    (in_s' : (i : ℕ) → s' i < 2 ^ p.shape.widths i) (in_b' : (i : ℕ) → b' i < 2) where
  abbrev a : Local
  a = record { public = p; shares = s; bits = b; log = l }

  abbrev a' : Local
  a' = record { public = p; shares = s'; bits = b'; log = l' }

  twins_settle : (q : Receipt) {e e' : Effect} → Twins e e' → Alongside (settled q a e) (settled q a' e')
  twins_settle q (numbers {t} {w} {x} {y} h h') = record {
    public = refl;
    near_in = record { numbers = λ i. share_at w x i s p.shape.widths h (in_s i) (i == t); bits = in_b };
    far_in = record { numbers = λ i. share_at w y i s' p.shape.widths h' (in_s' i) (i == t); bits = in_b' };
  }
  twins_settle q (bits {t} {x} {y} h h') = record {
    public = refl;
    near_in = record { numbers = in_s; bits = λ i. cond_both (i == t) x (b i) (λ z. z < 2) (λ _. h) (λ _. in_b i) };
    far_in = record { numbers = in_s'; bits = λ i. cond_both (i == t) y (b' i) (λ z. z < 2) (λ _. h') (λ _. in_b' i) };
  }
  twins_settle q near_learns = record { public = refl; near_in = record { numbers = in_s; bits = in_b }; far_in = record { numbers = in_s'; bits = in_b' } }
  twins_settle q far_learns = record { public = refl; near_in = record { numbers = in_s; bits = in_b }; far_in = record { numbers = in_s'; bits = in_b' } }

  attempts_matched : (f : Seat) (c : Command Numbers) (v : Verdict) → Matched Alongside (attempt f (told f c) a v) (attempt (other f) (told (other f) c) a' v)
  attempts_matched f c (Err r) = ends (record { public = refl; near_in = record { numbers = in_s; bits = in_b }; far_in = record { numbers = in_s'; bits = in_b' } })
  attempts_matched f c (Ok q) = then_matched (performs_matched f p.shape s b s' b' in_s in_b in_s' in_b' c) (λ e e' t. ends (twins_settle q t))

  core : (f : Seat) (c : Command Numbers) → Matched Alongside (course_of f c a) (course_of (other f) c a')
  core f c =
      rw (judge_told f c p, judge_told (other f) c p) (attempts_matched f c (judge c p))

pub agrees : (f : Seat) → Agrees Alongside (course_of f) (course_of (other f))
agrees f c a b j =
    let p = b.public in
    let same : a ≡ record a { public = p } = λ i. record a { public = j.public i } in
    let narrow : (i : ℕ) → a.shares i < 2 ^ p.shape.widths i = λ i. subst (λ (x : Public). a.shares i < 2 ^ x.shape.widths i) j.public (j.near_in.numbers i) in
    rw same (core p a.shares a.bits b.shares b.bits a.log b.log narrow j.near_in.bits j.far_in.numbers j.far_in.bits f c)
