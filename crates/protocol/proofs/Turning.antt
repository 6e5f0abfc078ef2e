-- The same run, seen from the two seats.
use Rattle.std.proofs.Common.{◌≡◌, ℕ, refl, ap, ◌∙◌}
use Rattle.refusal.specs.declared.kind.Kind.{Kind}
use Rattle.refusal.specs.declared.kind.Kind.TheVariants.{Bit}
use Rattle.sources.specs.Halves.{Half, Halves}
use Rattle.refusal.specs.declared.seat.Seat.TheVariants.{Zero, One}
use Rattle.protocol.specs.Seats.{next, rest}
use Rattle.protocol.specs.Course.{Ask, Course, Shares, Computes, Matched, ends, looks, says, hears}
use Rattle.protocol.specs.Run.{Turn, turn, turned, after_look, after_say, after_hear, run, flipped}
use Rattle.protocol.specs.Theorems.{OneRun}

turn_flipped : (k : Kind) (a b : Ask) (x y : Half) → turn One k b a y x ≡ turned (turn Zero k a b x y)
turn_flipped Bit a b x y = refl
turn_flipped _ a b x y = refl

pub seen_from_1 : {R : Type 0} {P : R → R → Type 0} {p q : Course R} → Matched P p q → (h0 h1 : Halves) → run One q p h1 h0 ≡ flipped (run Zero p q h0 h1)
seen_from_1 (ends e) h0 h1 = refl
seen_from_1 (looks {k} {a} {b} {c} {d} A B h) h0 h1 =
    let t : Turn = turn Zero k a b (next k h0) (next k h1) in
    ap (λ (u : Turn). after_look k u (run One (d u.near) (c u.far) (rest k h1) (rest k h0))) (turn_flipped k a b (next k h0) (next k h1))
    ∙ ap (after_look k (turned t)) (seen_from_1 (h t.near t.far) (rest k h0) (rest k h1))
seen_from_1 (says {w} l h) h0 h1 = ap (after_hear w) (seen_from_1 h h0 h1)
seen_from_1 (hears {w} l h) h0 h1 = ap (after_say w) (seen_from_1 h h0 h1)

pub one_run : (R : Type 0) → OneRun R
one_run R p q h0 h1 m = seen_from_1 m h0 h1

shares_flipped : (k : Kind) (a b : Ask) (u v : ℕ) → Shares One k b a v u → Shares Zero k a b u v
shares_flipped Bit a b u v s = record { near_in = s.far_in; far_in = s.near_in; joins = s.joins }
shares_flipped _ a b u v s = record { near_in = s.far_in; far_in = s.near_in; joins = s.joins }

-- what is computed, from the other seat
pub computes_from_1 : {R : Type 0} {P : R → R → Type 0} {p q : Course R} → Computes Zero P p q → Computes One (λ s r. P r s) q p
computes_from_1 (ends h) = ends h
computes_from_1 (looks {k} {a} {b} A B h) = looks B A (λ v u s. computes_from_1 (h u v (shares_flipped k a b u v s)))
computes_from_1 (says l h) = hears l (computes_from_1 h)
computes_from_1 (hears l h) = says l (computes_from_1 h)
