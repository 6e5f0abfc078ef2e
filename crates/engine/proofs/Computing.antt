-- Every command takes shares of the ideal functionality's values to shares of its next values.
use Rattle.std.proofs.Common.{◌≡◌, ℕ, ◌-◌, ◌%◌, ◌^◌, ◌<◌, ◌≤◌, Bool, true, ◌==◌, nat_le, refl, ap, ◌∙◌, mod-lt, add_comm, arith, pow_pos, Ok, Err}
use Rattle.std.proofs.lemmas.Nat.{xor_comm}
use Rattle.std.proofs.lemmas.Bool.{and_parts, ltb-true, leb-true, eqb-true}
use Rattle.arithmetic.specs.Bits.{bit}
use Rattle.refusal.specs.declared.seat.Seat.{Seat}
use Rattle.refusal.specs.declared.seat.Seat.TheVariants.{Zero, One}
use Rattle.protocol.specs.Seats.{other}
use Rattle.protocol.specs.Course.{Course, done, and_then, Computes, ends, says, hears}
use Rattle.protocol.proofs.Binding.{then_computes}
use Rattle.protocol.proofs.Turning.{computes_from_1}
use Rattle.gadgets.specs.Shares.{SharedBit, SharedNumber}
use Rattle.gadgets.proofs.Comparison.{comparison_computes}
use Rattle.gadgets.proofs.Sign.{sign_computes}
use Rattle.gadgets.proofs.And.{and_computes}
use Rattle.gadgets.proofs.Keep.{keep_computes}
use Rattle.gadgets.proofs.Division.{division_computes}
use Rattle.gadgets.proofs.Shift.{shift_computes}
use Rattle.engine.specs.declared.command.Command.{Command}
use Rattle.engine.specs.declared.command.Command.TheVariants.{Lodge, Add, Subtract, Scale, Less, Sign, Both, Keep, Divide, Shift, Open, Tell}
use Rattle.engine.specs.declared.command.Numbers.{Numbers}
use Rattle.engine.specs.Commands.{told, seat_of}
use Rattle.engine.specs.State.{Local, registers}
use Rattle.engine.specs.Judge.{Verdict, judge}
use Rattle.engine.specs.Performing.{number_in, bit_in, disclose, perform, attempt, course}
use Rattle.engine.specs.Ideal.{Ideal, sets, flags, opens, meaning, ruled, step, party, MakeUp, Shared, SharedAt}
use Rattle.engine.proofs.Judging.{Fitting, accepted, judge_told}
use Rattle.engine.proofs.Adding.{lodged, added, subtracted, scaled}
use Rattle.engine.proofs.Settling.{Realises, shared_number, shared_bit, learnt_0, learnt_1, settles, stays}

-- a protocol that leaves the parties with shares of a number, or of a bit, and then the register for it
to_number : (t k v : ℕ) {p q : Course ℕ} → k ≤ 32 → Computes Zero (λ x y. SharedNumber k x y v) p q →
    Computes Zero (Realises (sets t k v)) (and_then p (λ x. done (number_in t k x))) (and_then q (λ y. done (number_in t k y)))
to_number t k v h c = then_computes c (λ x y s. ends (shared_number h s))

to_bit : (t : ℕ) (v : Bool) {p q : Course ℕ} → Computes Zero (λ x y. SharedBit x y v) p q →
    Computes Zero (Realises (flags t v)) (and_then p (λ x. done (bit_in t x))) (and_then q (λ y. done (bit_in t y)))
to_bit t v c = then_computes c (λ x y s. ends (shared_bit s))

-- a value that is opened to the seat g: x and y are the shares
to_seat : (g : Seat) (limit x y v : ℕ) (i j : ℕ → ℕ) → x < limit → y < limit → i y ≡ v → j x ≡ v → Computes Zero (Realises (opens g v)) (disclose Zero g limit x i) (disclose One g limit y j)
to_seat Zero limit x y v i j hx hy e e' = hears hy (ends (learnt_0 e))
to_seat One limit x y v i j hx hy e e' = says hx (ends (learnt_1 e'))

module _ (w : Ideal) (s0 b0 s1 b1 : ℕ → ℕ) (regs : MakeUp w s0 b0 s1 b1) where
  abbrev a0 : Local
  a0 = party w Zero s0 b0

  abbrev a1 : Local
  a1 = party w One s1 b1

  abbrev widths : ℕ → ℕ
  widths = w.public.shape.widths

  -- operands of one width
  as_wide : (l r : ℕ) → (widths l == widths r) ≡ true → SharedNumber (widths l) (s0 r) (s1 r) (w.values r)
  as_wide l r e = rw (eqb-true (widths l) (widths r) e) (regs.number r)

  performs : (c : Command Numbers) → Fitting c w.public.shape →
      Computes Zero (Realises (meaning c w)) (perform Zero (told Zero c) (registers a0)) (perform One (told One c) (registers a1))
  performs (Lodge t k n) i = ends (shared_number (leb-true k 32 (and_parts (nat_le 2 k) (nat_le k 32) i.width).1) (lodged k n.of0 n.of1))
  performs (Add t l r) i = ends (shared_number (regs.narrow l) (added (widths l) (s0 l) (s1 l) (s0 r) (s1 r) (w.values l) (w.values r) (regs.number l) (as_wide l r i.agree)))
  performs (Subtract t l r) i = ends (shared_number (regs.narrow l) (subtracted (widths l) (s0 l) (s1 l) (s0 r) (s1 r) (w.values l) (w.values r) (regs.number l) (as_wide l r i.agree)))
  performs (Scale t s k) i = ends (shared_number (regs.narrow s) (scaled (widths s) (s0 s) (s1 s) (w.values s) k (regs.number s)))
  performs (Less t k n) i =
      let h = leb-true 2 k (and_parts (nat_le 2 k) (nat_le k 32) i.width).0 in
      to_bit t _ (comparison_computes k (n.of0 % 2 ^ k) (n.of1 % 2 ^ k) (omega (arith, h)) (mod-lt n.of0 (pow_pos k)) (mod-lt n.of1 (pow_pos k)))
  performs (Sign t s) i = to_bit t _ (sign_computes (widths s) (s0 s) (s1 s) (w.values s) (ltb-true _ _ i.filled) (regs.number s))
  performs (Both t l r) i = to_bit t _ (and_computes (b0 l) (b1 l) (b0 r) (b1 r) (w.flags l) (w.flags r) (regs.flag l) (regs.flag r))
  performs (Keep t n b) i = to_number t (widths n) _ (regs.narrow n) (keep_computes (widths n) (s0 n) (s1 n) (w.values n) (b0 b) (b1 b) (w.flags b) (regs.narrow n) (regs.number n) (regs.flag b))
  performs (Divide t s d) i =
      let r = and_parts (nat_le 1 d) (nat_le d 65535) i.arguments in
      let low = leb-true 1 d r.0 in
      let high = leb-true d 65535 r.1 in
      to_number t (widths s) _ (regs.narrow s)
      (division_computes (widths s) d (s0 s) (s1 s) (w.values s) (ltb-true _ _ i.filled) (regs.narrow s) (omega (arith, low)) (omega (arith, high)) (regs.number s))
  performs (Shift t s n) i =
      let wide = ltb-true _ _ i.filled in
      let high = leb-true n (widths s - 1) i.arguments in
      to_number t (widths s) _ (regs.narrow s) (shift_computes (widths s) n (s0 s) (s1 s) (w.values s) wide (regs.narrow s) (omega (arith, high, wide)) (regs.number s))
  performs (Open s g) i =
      let m = regs.number s in
      to_seat (seat_of g) (2 ^ widths s) (s0 s) (s1 s) (w.values s) _ _ m.below_0 m.below_1 m.adds (ap (λ z. z % 2 ^ widths s) (add_comm (s1 s) (s0 s)) ∙ m.adds)
  performs (Tell s g) i =
      let m = regs.flag s in
      to_seat (seat_of g) 2 (b0 s) (b1 s) (bit (w.flags s)) _ _ m.bit_0 m.bit_1 m.opens (xor_comm (b1 s) (b0 s) ∙ m.opens)

  attempts : (c : Command Numbers) (v : Verdict) → judge c w.public ≡ v → Computes Zero (Shared (ruled c w v)) (attempt Zero (told Zero c) a0 v) (attempt One (told One c) a1 v)
  attempts c (Err r) e = ends (stays w s0 b0 s1 b1 regs r)
  attempts c (Ok q) e =
      then_computes (performs c (accepted c w.public q e).fitting) (λ r s m. ends (settles w s0 b0 s1 b1 regs q m))

  core : (c : Command Numbers) → Computes Zero (Shared (step c w)) (course Zero (told Zero c) a0) (course One (told One c) a1)
  core c =
      rw (judge_told Zero c w.public, judge_told One c w.public) (attempts c (judge c w.public) refl)

computes : (c : Command Numbers) (w : Ideal) (a b : Local) → Shared w a b → Computes Zero (Shared (step c w)) (course Zero (told Zero c) a) (course One (told One c) b)
computes c w a b i = rw (i.party_0, i.party_1) (core w a.shares a.bits b.shares b.bits i.make_up c)

pub computes_at : (f : Seat) (c : Command Numbers) (w : Ideal) (a b : Local) → SharedAt f w a b →
    Computes f (SharedAt f (step c w)) (course f (told f c) a) (course (other f) (told (other f) c) b)
computes_at Zero c w a b i = computes c w a b i
computes_at One c w a b i = computes_from_1 (computes c w b a i)
