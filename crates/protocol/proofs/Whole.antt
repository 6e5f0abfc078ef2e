-- What lies behind the halves that a run uses does not matter to what explains it.
use Rattle.std.proofs.Common.{◌≡◌, ℕ, suc, ◌≤◌, length, sym, refl, ap, ◌∙◌, subst, arith, take-append-drop}
use Rattle.std.proofs.Math.Path.{fun_ext}
use Rattle.std.proofs.lemmas.Slice.Zip.{AllZip-long}
use Rattle.std.proofs.lemmas.List.{length-take-le, take_at}
use Rattle.refusal.specs.declared.kind.Kind.{Kind}
use Rattle.refusal.specs.Kinds.{on}
use Rattle.sources.specs.Halves.{Halves}
use Rattle.refusal.specs.declared.seat.Seat.{Seat}
use Rattle.protocol.specs.Seats.{sends, Paired, LawfulAt, next, rest, front, back, before as followed_by, Enough}
use Rattle.protocol.specs.Course.{Course, look, Shares, Alike, ends, looks, says, hears}
use Rattle.protocol.specs.Run.{Turn, turn, Outcome, after_look, run}
use Rattle.protocol.specs.Theorems.{Explains, ExplainsBefore, WholeOf}
use Rattle.protocol.proofs.Supplies.{rest_exact, each_take}
use Rattle.protocol.proofs.Lookups.{near_same, lookups_share}
use Rattle.protocol.proofs.Running.{Facts, facts, fronts, first_paired, rest_lawful, look_past, past}
use Rattle.protocol.proofs.Silent.{silence}

-- Where the second run sounds like the first, it uses as much.
used_same : {R : Type 0} (f : Seat) (P : R → R → R → Type 0) {p q q' : Course R} → Alike f P p q q' → (n t o z t' : Halves) →
    ((k : Kind) → length (n k) ≡ (run f p q n o).used k) → LawfulAt f n o → LawfulAt f n z →
    (run f p q' (followed_by n t) (followed_by z t')).near_heard ≡ (run f p q n o).near_heard →
    (run f p q' (followed_by n t) (followed_by z t')).used ≡ (run f p q n o).used
used_same f P (ends h) n t o z t' exact law law' heard = refl
used_same {R} f P (looks {k} {a} {b} {b'} {c} {d} {d'} A B B' h) n t o z t' exact law law' heard =
    let x = next k n in
    let v = next k z in
    let w : Turn = turn f k a b x (next k o) in
    let w' : Turn = turn f k a b' x v in
    let u : Kind → ℕ = (run f (c w.near) (d w.far) (rest k n) (rest k o)).used in
    let long : (j : Kind) → on k j suc (u j) ≤ length (n j) = λ j. omega (arith, exact j) in
    let long' : (j : Kind) → on k j suc (u j) ≤ length (z j) = λ j. omega (arith, exact j, AllZip-long (Paired (sends f j) j) (n j) (z j) (law' j)) in
    let e : run f (look k a c) (look k b' d') (followed_by n t) (followed_by z t')
    ≡ after_look k w' (run f (c w'.near) (d' w'.far) (followed_by (rest k n) t) (followed_by (rest k z) t')) = look_past f k a c (look k b' d') u n t z t' long long' in
    let heard' = sym (ap (λ (r : Outcome R). r.near_heard) e) ∙ heard in
    let kept : w'.near ≡ w.near = near_same f k a b b' x (next k o) v (cc) in
    let after : ℕ → Outcome R = λ i. run f (c i) (d' w'.far) (followed_by (rest k n) t) (followed_by (rest k z) t') in
    let more : (Kind → ℕ) → Kind → ℕ = λ m j. on k j suc (m j) in
    ap (λ (r : Outcome R). r.used) e
    ∙ ap more (ap (λ i. (after i).used) kept
    ∙ used_same f P
    (h w.near w.far w'.far (lookups_share f k a b x (next k o) A B (first_paired f k (u k) n o law (long k)))
    (subst (λ i. Shares f k a b' i w'.far) kept (lookups_share f k a b' x v A B' (first_paired f k (u k) n z law' (long k)))))
    (rest k n) t (rest k o) (rest k z) t' (λ j. rest_exact k j (u j) (n j) (exact j)) (rest_lawful f k n o law) (rest_lawful f k n z law')
    (ap (λ i. (after i).near_heard) (sym kept) ∙ (cc)))
used_same f P (says h) n t o z t' exact law law' heard = used_same f P h n t o z t' exact law law' heard
used_same f P (hears h) n t o z t' exact law law' heard = used_same f P h n t o z t' exact law law' (cc)

module _ {R : Type 0} (f : Seat) (P : R → R → R → Type 0) (p q q' : Course R) (hf ho : Halves) (alike : Alike f P p q q') (law : LawfulAt f hf ho)
    (long : Enough (run f p q hf ho).used hf) (t' z : Halves) where
  abbrev u : Kind → ℕ
  u = (run f p q hf ho).used

  abbrev n : Halves
  n = front u hf

  abbrev t : Halves
  t = back u hf

  abbrev o : Halves
  o = front u ho

  n_long : (k : Kind) → length (n k) ≡ u k
  n_long k = length-take-le (u k) (hf k) (long k)

  parted : followed_by n t ≡ hf
  parted = fun_ext (λ k. take-append-drop (u k) (hf k))

  same : facts (run f p q n o) ≡ facts (run f p q hf ho)
  same = fronts f p q hf ho

  cut : ((k : Kind) → length (z k) ≡ u k) → front u (followed_by z t') ≡ z
  cut l = fun_ext (λ k. take_at (z k) (t' k) (u k) (l k))

  before : Explains f (run f p q hf ho) (run f p q') hf z → ExplainsBefore f (run f p q hf ho) (run f p q') hf t' z
  before e =
      let s = silence R P f p q q' hf ho alike law long in
      let v : (run f p q' n z).used ≡ u = ap (λ w. (run f p q' n w).used) (s.one.2 z e) ∙ s.same_used in
      let same_run = ap (λ w. run f p q' w (followed_by z t')) (sym parted)
      ∙ past f p q' n t z t' (λ k. omega (arith, n_long k, ap (λ (m : Kind → ℕ). m k) v)) (λ k. omega (arith, e.exact k, ap (λ (m : Kind → ℕ). m k) v)) in
      record {
        exact = e.exact;
        lawful = e.lawful;
        heard = ap (λ (r : Outcome R). r.near_heard) same_run ∙ e.heard;
        result = ap (λ (r : Outcome R). r.near) same_run ∙ e.result;
      }

  alone : ExplainsBefore f (run f p q hf ho) (run f p q') hf t' z → Explains f (run f p q hf ho) (run f p q') hf z
  alone e =
      let whole = followed_by z t' in
      let v : (run f p q' hf whole).used ≡ u =
      ap (λ w. (run f p q' w whole).used) (sym parted)
      ∙ used_same f P alike n t o z t' (λ k. n_long k ∙ ap (λ (r : Facts R). r.used k) (sym same)) (λ k. each_take (Paired (sends f k) k) (u k) (hf k) (ho k) (law k)) e.lawful
      (ap (λ w. (run f p q' w whole).near_heard) parted ∙ e.heard ∙ ap (λ (r : Facts R). r.near_heard) (sym same))
      ∙ ap (λ (r : Facts R). r.used) same in
      let same_run : facts (run f p q' n z) ≡ facts (run f p q' hf whole) =
      ap (λ w. facts (run f p q' n w)) (sym (cut e.exact))
      ∙ ap (λ c. facts (run f p q' (front c hf) (front c whole))) (sym v)
      ∙ fronts f p q' hf whole in
      record {
        exact = e.exact;
        lawful = e.lawful;
        heard = ap (λ (r : Facts R). r.near_heard) same_run ∙ e.heard;
        result = ap (λ (r : Facts R). r.near) same_run ∙ e.result;
      }

pub whole : (R : Type 0) (P : R → R → R → Type 0) → WholeOf R P
whole R P f p q q' hf ho alike law long t' z = (before f P p q q' hf ho alike law long t' z, alone f P p q q' hf ho alike law long t' z)
