-- Commands one after the other: one by one, and as one course.
use Rattle.std.proofs.Common.{◌≡◌, ℕ, List, [], ◌∷◌, sym, refl, ap, ◌∙◌, zero-add}
use Rattle.std.proofs.Math.Path.{fun_ext}
use Rattle.refusal.specs.declared.kind.Kind.{Kind}
use Rattle.sources.specs.Halves.{Halves}
use Rattle.refusal.specs.declared.seat.Seat.{Seat}
use Rattle.refusal.specs.declared.seat.Seat.TheVariants.{Zero, One}
use Rattle.protocol.specs.Seats.{next, rest}
use Rattle.protocol.specs.Course.{Course, done, look, say, hear, and_then, Computes, Matched, Spends, Talks, ends, looks, says, hears}
use Rattle.protocol.specs.Run.{Turn, turn, Outcome, after_look, after_say, after_hear, run, flipped}
use Rattle.protocol.specs.Session.{in_a_row, followed, session, Agrees}
use Rattle.protocol.specs.Certificate.{steps}
use Rattle.protocol.proofs.Binding.{then_computes, then_spends, then_talks}
use Rattle.protocol.proofs.Supplies.{on_plus}
use Rattle.protocol.proofs.Turning.{seen_from_1}

-- as one course

pub row_computes : {W C S : Type 0} (f : Seat) (I : W → S → S → Type 0) (near far : C → S → Course S) (step : C → W → W) →
    ((c : C) (w : W) (a b : S) → I w a b → Computes f (I (step c w)) (near c a) (far c b)) →
    (cs : List C) (w : W) (a b : S) → I w a b → Computes f (I (steps step cs w)) (in_a_row near cs a) (in_a_row far cs b)
row_computes f I near far step h [] w a b i = ends i
row_computes f I near far step h (c ∷ cs) w a b i =
    then_computes (h c w a b i) (λ r s j. row_computes f I near far step h cs (step c w) r s j)

pub spends_same : {R : Type 0} (l : R → Kind → ℕ) (n m : Kind → ℕ) (p : Course R) → ((k : Kind) → n k ≡ m k) → Spends l m p → Spends l n p
spends_same l n m (done r) e h = λ k. e k ∙ h k
spends_same l n m (look k a c) e h = (h.0, (λ j. e j ∙ h.1 j), h.2)
spends_same l n m (say w c) e h = spends_same l n m c e h
spends_same l n m (hear limit c) e h = λ w. spends_same l n m (c w) e (h w)

pub row_spends : {C S : Type 0} (left : S → Kind → ℕ) (near : C → S → Course S) → ((c : C) (a : S) → Spends left (left a) (near c a)) →
    (cs : List C) (a : S) → Spends left (left a) (in_a_row near cs a)
row_spends l near h [] a = λ k. refl
row_spends l near h (c ∷ cs) a = then_spends l l (l a) (near c a) (in_a_row near cs) (h c a) (λ r m e. spends_same l m (l r) (in_a_row near cs r) e (row_spends l near h cs r))

talks_same : {R : Type 0} (l : R → ℕ) (n m : ℕ) (p : Course R) → n ≡ m → Talks l m p → Talks l n p
talks_same l n m p e h = rw e h

pub row_talks : {C S : Type 0} (left : S → ℕ) (near : C → S → Course S) → ((c : C) (a : S) → Talks left (left a) (near c a)) →
    (cs : List C) (a : S) → Talks left (left a) (in_a_row near cs a)
row_talks l near h [] a = refl
row_talks l near h (c ∷ cs) a = then_talks l l (l a) (near c a) (in_a_row near cs) (h c a) (λ r m e. talks_same l m (l r) (in_a_row near cs r) e (row_talks l near h cs r))

-- one by one

abbrev with_used : {R : Type 0} → (Kind → ℕ) → Outcome R → Outcome R
with_used u o = record o { used = u }

run_then : {R S : Type 0} (f : Seat) {P : R → R → Type 0} {p q : Course R} (g h : R → Course S) → Matched P p q → (n o : Halves) →
    run f (and_then p g) (and_then q h) n o
    ≡ followed (run f p q n o) (run f (g (run f p q n o).near) (h (run f p q n o).far) (run f p q n o).near_left (run f p q n o).far_left)
run_then f g h (ends {r} {s} e) n o =
    let it = run f (g r) (h s) n o in
    ap (λ u. with_used u it) (fun_ext (λ k. sym (zero-add (it.used k))))
run_then f g h (looks {k} {a} {b} {c} {d} A B e) n o =
    let t : Turn = turn f k a b (next k n) (next k o) in
    let r = run f (c t.near) (d t.far) (rest k n) (rest k o) in
    let s = run f (g r.near) (h r.far) r.near_left r.far_left in
    ap (after_look k t) (run_then f g h (e t.near t.far) (rest k n) (rest k o))
    ∙ ap (λ u. with_used u (after_look k t (followed r s))) (fun_ext (λ j. sym (on_plus k j (r.used j) (s.used j))))
run_then f g h (says {w} l e) n o = ap (after_say w) (run_then f g h e n o)
run_then f g h (hears {w} l e) n o = ap (after_hear w) (run_then f g h e n o)

pub matched_end : {R : Type 0} (f : Seat) {P : R → R → Type 0} {p q : Course R} → Matched P p q → (n o : Halves) → P (run f p q n o).near (run f p q n o).far
matched_end f (ends e) n o = e
matched_end f (looks A B e) n o = matched_end f (e _ _) _ _
matched_end f (says l e) n o = matched_end f e n o
matched_end f (hears l e) n o = matched_end f e n o

pub one_by_one : {C S : Type 0} (J : S → S → Type 0) (f : Seat) (near far : C → S → Course S) (cs : List C) (a b : S) (hf ho : Halves) →
    Agrees J near far → J a b → run f (in_a_row near cs a) (in_a_row far cs b) hf ho ≡ session f near far cs a b hf ho
one_by_one J f near far [] a b n o agrees j = refl
one_by_one {C} {S} J f near far (c ∷ cs) a b n o agrees j =
    let r : Outcome S = run f (near c a) (far c b) n o in
    run_then f (in_a_row near cs) (in_a_row far cs) (agrees c a b j) n o
    ∙ ap (followed r) (one_by_one J f near far cs r.near r.far r.near_left r.far_left agrees (matched_end f (agrees c a b j) n o))

pub session_flipped : {C S : Type 0} (J : S → S → Type 0) (near far : C → S → Course S) (cs : List C) (a b : S) (h0 h1 : Halves) →
    Agrees J near far → J a b → session One far near cs b a h1 h0 ≡ flipped (session Zero near far cs a b h0 h1)
session_flipped J near far [] a b h0 h1 agrees j = refl
session_flipped {C} {S} J near far (c ∷ cs) a b h0 h1 agrees j =
    let r : Outcome S = run Zero (near c a) (far c b) h0 h1 in
    ap (λ (x : Outcome S). followed x (session One far near cs x.near x.far x.near_left x.far_left)) (seen_from_1 (agrees c a b j) h0 h1)
    ∙ ap (followed (flipped r)) (session_flipped J near far cs r.near r.far r.near_left r.far_left agrees (matched_end Zero (agrees c a b j) h0 h1))
