-- What every way through one party's course ends in, and so a session.
use Rattle.std.proofs.Common.{ℕ, List, [], ◌∷◌}
use Rattle.refusal.specs.declared.kind.Kind.{Kind}
use Rattle.sources.specs.Halves.{Halves}
use Rattle.refusal.specs.declared.seat.Seat.{Seat}
use Rattle.protocol.specs.Course.{Ask, Course, done, look, say, hear, and_then}
use Rattle.protocol.specs.Run.{run}
use Rattle.protocol.specs.Session.{session}

pub data Always {R : Type 0} (P : R → Type 0) : Course R → Type 0 where
  ends : {r : R} → P r → Always P (done r)
  looks : {k : Kind} {a : Ask} {c : ℕ → Course R} → ((u : ℕ) → Always P (c u)) → Always P (look k a c)
  says : {w : ℕ} {c : Course R} → Always P c → Always P (say w c)
  hears : {n : ℕ} {c : ℕ → Course R} → ((w : ℕ) → Always P (c w)) → Always P (hear n c)

pub always_then : {R S : Type 0} (P : S → Type 0) (g : R → S) → ((r : R) → P (g r)) → (p : Course R) → Always P (and_then p (λ r. done (g r)))
always_then P g h (done r) = ends (h r)
always_then P g h (look k a c) = looks (λ u. always_then P g h (c u))
always_then P g h (say w c) = says (always_then P g h c)
always_then P g h (hear n c) = hears (λ w. always_then P g h (c w))

always_end : {R : Type 0} (f : Seat) (P : R → Type 0) {p : Course R} → Always P p → (q : Course R) (n o : Halves) → P (run f p q n o).near
always_end f P (ends e) q n o = e
always_end f P (looks e) q n o = always_end f P (e _) _ _ _
always_end f P (says e) q n o = always_end f P e _ n o
always_end f P (hears e) q n o = always_end f P (e _) _ n o

-- what each command keeps of the near party's state, a session keeps
pub session_always : {C S : Type 0} (f : Seat) (P : S → Type 0) (near far : C → S → Course S) → ((c : C) (a : S) → P a → Always P (near c a)) →
    (cs : List C) (a b : S) (hf ho : Halves) → P a → P (session f near far cs a b hf ho).near
session_always f P near far h [] a b hf ho i = i
session_always f P near far h (c ∷ cs) a b hf ho i = session_always f P near far h cs _ _ _ _ (always_end f P (h c a i) (far c b) hf ho)
