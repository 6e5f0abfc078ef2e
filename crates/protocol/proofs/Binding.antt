-- One course after another, in each of the relations; and what a list of lookups gives.
use Rattle.std.proofs.Common.{◌≡◌, ℕ, ◌+◌, ◌*◌, List, ◌++◌, length, zero-add, arith}
use Rattle.refusal.specs.declared.kind.Kind.{Kind}
use Rattle.refusal.specs.declared.seat.Seat.{Seat}
use Rattle.protocol.specs.Course.{Course, done, look, say, hear, and_then, Computes, Alike, Matched, Unheard, Follows, ends, looks, says, hears, tally, Spends, Talks}
use Rattle.protocol.proofs.Supplies.{on_plus}

module _ {R S : Type 0} where
  pub then_computes : {f : Seat} {P : R → R → Type 0} {Q : S → S → Type 0} {p q : Course R} {g h : R → Course S} →
      Computes f P p q → ((r s : R) → P r s → Computes f Q (g r) (h s)) → Computes f Q (and_then p g) (and_then q h)
  then_computes (ends e) n = n _ _ e
  then_computes (looks A B c) n = looks A B (λ u v s. then_computes (c u v s) n)
  then_computes (says l c) n = says l (then_computes c n)
  then_computes (hears l c) n = hears l (then_computes c n)

  pub then_alike : {f : Seat} {P : R → R → R → Type 0} {Q : S → S → S → Type 0} {p q q' : Course R} {g h h' : R → Course S} →
      Alike f P p q q' → ((r s s' : R) → P r s s' → Alike f Q (g r) (h s) (h' s')) → Alike f Q (and_then p g) (and_then q h) (and_then q' h')
  then_alike (ends e) n = n _ _ _ e
  then_alike (looks A B B' c) n = looks A B B' (λ u v v' s s'. then_alike (c u v v' s s') n)
  then_alike (says c) n = says (then_alike c n)
  then_alike (hears c) n = hears (then_alike c n)

  pub then_matched : {P : R → R → Type 0} {Q : S → S → Type 0} {p q : Course R} {g h : R → Course S} →
      Matched P p q → ((r s : R) → P r s → Matched Q (g r) (h s)) → Matched Q (and_then p g) (and_then q h)
  then_matched (ends e) n = n _ _ e
  then_matched (looks A B c) n = looks A B (λ u v. then_matched (c u v) n)
  then_matched (says l c) n = says l (then_matched c n)
  then_matched (hears l c) n = hears l (then_matched c n)

  pub then_follows : {P : R → Type 0} {Q : S → Type 0} {ks js : List Kind} {p : Course R} {g : R → Course S} →
      Follows P ks p → ((r : R) → P r → Follows Q js (g r)) → Follows Q (ks ++ js) (and_then p g)
  then_follows (ends h) n = n _ h
  then_follows (looks A h) n = looks A (λ u. then_follows (h u) n)

  -- a course of which the result says what is left, and then one that goes on from there
  pub then_spends : (l : R → Kind → ℕ) (l' : S → Kind → ℕ) (n : Kind → ℕ) (p : Course R) (g : R → Course S) →
      Spends l n p → ((r : R) (m : Kind → ℕ) → ((k : Kind) → m k ≡ l r k) → Spends l' m (g r)) → Spends l' n (and_then p g)
  then_spends l l' n (done r) g e h = h r n e
  then_spends l l' n (look k a c) g e h = (e.0, e.1, λ u. then_spends l l' e.0 (c u) g (e.2 u) h)
  then_spends l l' n (say w c) g e h = then_spends l l' n c g e h
  then_spends l l' n (hear limit c) g e h = λ w. then_spends l l' n (c w) g (e w) h

  -- the same of messages
  pub then_talks : (l : R → ℕ) (l' : S → ℕ) (n : ℕ) (p : Course R) (g : R → Course S) →
      Talks l n p → ((r : R) (m : ℕ) → m ≡ l r → Talks l' m (g r)) → Talks l' n (and_then p g)
  then_talks l l' n (done r) g e h = h r n e
  then_talks l l' n (look k a c) g e h = (e.0, e.1, λ u. then_talks l l' e.0 (c u) g (e.2 u) h)
  then_talks l l' n (say w c) g e h = (e.0, e.1, then_talks l l' e.0 c g e.2 h)
  then_talks l l' n (hear limit c) g e h = (e.0, e.1, λ w. then_talks l l' e.0 (c w) g (e.2 w) h)

module _ {R : Type 0} where
  -- a weaker relation of the results
  pub computes_weaker : {f : Seat} {P Q : R → R → Type 0} → ((r s : R) → P r s → Q r s) → {p q : Course R} → Computes f P p q → Computes f Q p q
  computes_weaker g (ends h) = ends (g _ _ h)
  computes_weaker g (looks A B h) = looks A B (λ u v s. computes_weaker g (h u v s))
  computes_weaker g (says l h) = says l (computes_weaker g h)
  computes_weaker g (hears l h) = hears l (computes_weaker g h)

  pub follows_unheard : {P : R → Type 0} {ks : List Kind} {p : Course R} → Follows P ks p → Unheard p
  follows_unheard (ends h) = ends
  follows_unheard (looks A h) = looks (λ u. follows_unheard (h u))

  -- n is what is left afterwards
  pub follows_spends : {P : R → Type 0} (n : Kind → ℕ) {ks : List Kind} {p : Course R} → Follows P ks p → Spends (λ _. n) (λ k. tally ks k + n k) p
  follows_spends n (ends h) = λ k. zero-add (n k)
  follows_spends n (looks {k} {ks} A h) = ((λ j. tally ks j + n j), (λ j. on_plus k j (tally ks j) (n j)), λ u. follows_spends n (h u))

  pub follows_talks : {P : R → Type 0} (n : ℕ) {ks : List Kind} {p : Course R} → Follows P ks p → Talks (λ _. n) (2 * length ks + n) p
  follows_talks n (ends h) = zero-add n
  follows_talks n (looks {k} {ks} A h) = (2 * length ks + n, omega arith, λ u. follows_talks n (h u))

  pub follows_matched : {P Q : R → Type 0} {ks : List Kind} {p q : Course R} → Follows P ks p → Follows Q ks q → Matched (λ r s. P r × Q s) p q
  follows_matched (ends h) (ends h') = ends (h, h')
  follows_matched (looks A h) (looks A' h') = looks A A' (λ u v. follows_matched (h u) (h' v))

  -- a list of kinds that is another
  pub follows_same : {P : R → Type 0} {ks js : List Kind} {p : Course R} → ks ≡ js → Follows P ks p → Follows P js p
  follows_same {p = p} e h = rw e at h
