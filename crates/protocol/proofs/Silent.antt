-- A run tells a party nothing of what the other does, but for the words that the other says.
use Rattle.std.proofs.Common.{◌≡◌, ℕ, suc, ◌<◌, ◌≤◌, [], ◌∷◌, length, slice_index_or, sym, refl, ap, ◌∙◌, subst, ap₂, arith}
use Rattle.std.specs.Prelude.{⊤}
use Rattle.std.proofs.Math.Path.{fun_ext}
use Rattle.std.proofs.lemmas.Slice.Zip.{AllZip-long}
use Rattle.std.proofs.lemmas.List.{length-take-le, take_all}
use Rattle.refusal.specs.declared.kind.Kind.{Kind}
use Rattle.refusal.specs.Kinds.{on}
use Rattle.lookup.specs.Once.{ExactlyOne}
use Rattle.sources.specs.Halves.{Half, Halves}
use Rattle.refusal.specs.declared.seat.Seat.{Seat}
use Rattle.protocol.specs.Seats.{sends, Paired, LawfulAt, next, rest, front, Enough}
use Rattle.protocol.specs.Course.{Ask, AskIn, Course, look, Shares, Computes, Alike, ends, looks, says, hears, Unheard}
use Rattle.protocol.specs.Run.{Turn, turn, Outcome, after_look, run}
use Rattle.protocol.specs.Theorems.{Silent, SilenceOf, BothWays}
use Rattle.protocol.proofs.Supplies.{push, next_push, rest_push, some_left, rest_exact, each_none, each_empty, each_take, each_push, each_split}
use Rattle.protocol.proofs.Lookups.{near_same, lookups_hide, lookups_share}
use Rattle.protocol.proofs.Running.{Facts, facts, fronts, first_paired, rest_lawful}

-- The core, for near halves that are just as many as the run needs.

module _ {R : Type 0} (f : Seat) where
  abbrev Exact : (p q : Course R) (n o : Halves) → Type 0
  Exact p q n o = (k : Kind) → length (n k) ≡ (run f p q n o).used k

  abbrev Seen : (p q q' : Course R) (n o o' : Halves) → Type 0
  Seen p q q' n o o' = LawfulAt f n o' × ((run f p q' n o').near_heard ≡ (run f p q n o).near_heard) × ((run f p q' n o').near ≡ (run f p q n o).near)

pub record One {R : Type 0} (f : Seat) (P : R → R → R → Type 0) (p q q' : Course R) (n o : Halves) : Type 0 where
  pub it : Halves
  pub seen : Seen f p q q' n o it
  pub same_used : (run f p q' n it).used ≡ (run f p q n o).used
  pub related : P (run f p q n o).near (run f p q n o).far (run f p q' n it).far
  pub only : (z : Halves) → Seen f p q q' n o z → z ≡ it

-- one lookup in front of what is known of the rest
module _ {R : Type 0} (f : Seat) (P : R → R → R → Type 0) (k : Kind) (a b b' : Ask) (c d d' : ℕ → Course R) (A : AskIn k a) (B : AskIn k b) (B' : AskIn k b')
    (ih : (u v v' : ℕ) → Shares f k a b u v → Shares f k a b' u v' → (n o : Halves) → Exact f (c u) (d v) n o → LawfulAt f n o → One f P (c u) (d v) (d' v') n o)
    (n o : Halves) (exact : Exact f (look k a c) (look k b d) n o) (law : LawfulAt f n o) where
  abbrev x : Half
  x = next k n

  abbrev y : Half
  y = next k o

  abbrev t : Turn
  t = turn f k a b x y

  abbrev t' : Half → Turn
  t' z = turn f k a b' x z

  abbrev first : Outcome R
  first = run f (c t.near) (d t.far) (rest k n) (rest k o)

  some : on k k suc (first.used k) ≤ length (n k)
  some = omega (arith, exact k)

  paired : (z : Halves) → LawfulAt f n z → Paired (sends f k) k x (next k z)
  paired z l = first_paired f k (first.used k) n z l some

  one : ExactlyOne (λ (y' : Half). Paired (sends f k) k x y' × ((t' y').near_heard ≡ t.near_heard))
  one = lookups_hide f k a b b' x y A B B' (paired o law)

  abbrev y' : Half
  y' = one.0

  kept : (z : Half) → (t' z).near_heard ≡ t.near_heard → (t' z).near ≡ t.near
  kept z e = near_same f k a b b' x y z e

  deep : One f P (c t.near) (d t.far) (d' (t' y').far) (rest k n) (rest k o)
  deep = ih t.near t.far (t' y').far (lookups_share f k a b x y A B (paired o law))
      (subst (λ u. Shares f k a b' u (t' y').far) (kept y' one.1.1) (lookups_share f k a b' x y' A B' one.1.0))
      (rest k n) (rest k o) (λ j. rest_exact k j (first.used j) (n j) (exact j)) (rest_lawful f k n o law)

  abbrev made : Halves
  made = push k y' deep.it

  -- the second run, after the far party's half and its other halves
  abbrev second : Half → Halves → Outcome R
  second z r = after_look k (t' z) (run f (c (t' z).near) (d' (t' z).far) (rest k n) r)

  made_run : run f (look k a c) (look k b' d') n made ≡ after_look k (t' y') (run f (c t.near) (d' (t' y').far) (rest k n) deep.it)
  made_run =
      ap₂ second (next_push k y' deep.it) (fun_ext (λ j. rest_push k y' deep.it j))
      ∙ ap (λ u. after_look k (t' y') (run f (c u) (d' (t' y').far) (rest k n) deep.it)) (kept y' one.1.1)

  -- at the kind itself there is a half
  some_at : (j : Kind) → k ≡ j → 0 < length (n j)
  some_at j e = subst (λ i. 0 < length (n i)) e (some_left k (first.used k) (length (n k)) some)

  module _ (o' : Halves) (seen : Seen f (look k a c) (look k b d) (look k b' d') n o o') where
    abbrev z : Half
    z = next k o'

    first_heard : (t' z).near_heard ≡ t.near_heard
    first_heard = cc

    z_is : z ≡ y'
    z_is = one.2 z (paired o' seen.0, first_heard)

    rest_is : rest k o' ≡ deep.it
    rest_is = deep.only (rest k o') (
      rest_lawful f k n o' seen.0,
      ap₂ (λ u w. (run f (c u) (d' (t' w).far) (rest k n) (rest k o')).near_heard) (sym (kept z first_heard)) (sym z_is) ∙ (cc),
      ap₂ (λ u w. (run f (c u) (d' (t' w).far) (rest k n) (rest k o')).near) (sym (kept z first_heard)) (sym z_is) ∙ seen.2,
    )

    made_is : o' ≡ made
    made_is =
        fun_ext (λ j. each_split (Paired (sends f j) j) k j (n j) (o' j) z [] (some_at j) (λ e. ap (λ i. slice_index_or (o' i) 0 []) e) (seen.0 j))
        ∙ ap₂ (λ w r. push k w r) z_is rest_is

  extended : One f P (look k a c) (look k b d) (look k b' d') n o
  extended = record {
    it = made;
    seen = (
      (λ j. each_push (Paired (sends f j) j) k j (n j) (deep.it j) [] y' (some_at j)
          (λ e. subst (λ i. Paired (sends f i) i (slice_index_or (n i) 0 []) y') e one.1.0) (deep.seen.0 j)),
      ap (λ (r : Outcome R). r.near_heard) made_run ∙ ap₂ (λ w l. w ∷ l) one.1.1 deep.seen.1,
      ap (λ (r : Outcome R). r.near) made_run ∙ deep.seen.2,
    );
    same_used = ap (λ (r : Outcome R). r.used) made_run ∙ (let more : (Kind → ℕ) → Kind → ℕ = λ m j. on k j suc (m j) in ap more deep.same_used);
    related = subst (P first.near first.far) (sym (ap (λ (r : Outcome R). r.far) made_run)) deep.related;
    only = made_is;
  }

core : {R : Type 0} (f : Seat) (P : R → R → R → Type 0) {p q q' : Course R} → Alike f P p q q' → (n o : Halves) → Exact f p q n o → LawfulAt f n o → One f P p q q' n o
core f P (ends h) n o exact law = record {
  it = λ k. [];
  seen = ((λ k. each_none (Paired (sends f k) k) (n k) (exact k)), refl, refl);
  same_used = refl;
  related = h;
  only = λ z s. fun_ext (λ k. each_empty (Paired (sends f k) k) (n k) (z k) (exact k) (s.0 k));
}
core f P (looks {k} {a} {b} {b'} {c} {d} {d'} A B B' h) n o exact law =
    extended f P k a b b' c d d' A B B' (λ u v v' s s'. core f P (h u v v' s s')) n o exact law
core f P (says h) n o exact law =
    let one = core f P h n o exact law in
    record { it = one.it; seen = one.seen; same_used = one.same_used; related = one.related; only = one.only }
core f P (hears {w} h) n o exact law =
    let one = core f P h n o exact law in
    record {
      it = one.it;
      seen = (one.seen.0, ap (λ l. (w ∷ []) ∷ l) one.seen.1, one.seen.2);
      same_used = one.same_used;
      related = one.related;
      only = λ z s. one.only z (s.0, cc, s.2);
    }

-- For any lawful deal that is long enough, by the fronts that the run uses.
module _ {R : Type 0} (f : Seat) (P : R → R → R → Type 0) (p q q' : Course R) (hf ho : Halves) (alike : Alike f P p q q') (law : LawfulAt f hf ho)
    (long : Enough (run f p q hf ho).used hf) where
  abbrev u : Kind → ℕ
  u = (run f p q hf ho).used

  abbrev n : Halves
  n = front u hf

  abbrev o : Halves
  o = front u ho

  same : facts (run f p q n o) ≡ facts (run f p q hf ho)
  same = fronts f p q hf ho

  long_is : (k : Kind) → length (n k) ≡ u k
  long_is k = length-take-le (u k) (hf k) (long k)

  cored : One f P p q q' n o
  cored = core f P alike n o (λ k. long_is k ∙ ap (λ (v : Facts R). v.used k) (sym same)) (λ k. each_take (Paired (sends f k) k) (u k) (hf k) (ho k) (law k))

  same_heard : (run f p q n o).near_heard ≡ (run f p q hf ho).near_heard
  same_heard = ap (λ (v : Facts R). v.near_heard) same

  same_near : (run f p q n o).near ≡ (run f p q hf ho).near
  same_near = ap (λ (v : Facts R). v.near) same

  silent : Silent f P (run f p q hf ho) (run f p q') hf
  silent = record {
    one = (
      cored.it,
      record {
        exact = λ k. AllZip-long (Paired (sends f k) k) (n k) (cored.it k) (cored.seen.0 k) ∙ long_is k;
        lawful = cored.seen.0;
        heard = cored.seen.1 ∙ same_heard;
        result = cored.seen.2 ∙ same_near;
      },
      λ z e. cored.only z (e.lawful, e.heard ∙ sym same_heard, e.result ∙ sym same_near),
    );
    same_used = cored.same_used ∙ ap (λ (v : Facts R). v.used) same;
    related = subst (λ (v : Facts R). P v.near v.far (run f p q' n cored.it).far) same cored.related;
  }

pub silence : (R : Type 0) (P : R → R → R → Type 0) → SilenceOf R P
silence R P f p q q' hf ho alike law long = silent f P p q q' hf ho alike law long

-- Two courses of the other that each go together with one in which no word is heard are alike to it.
pub alike_of : {R : Type 0} {f : Seat} {P Q : R → R → Type 0} {p q q' : Course R} → Unheard p → Computes f P p q → Computes f Q p q' → Alike f (λ r s s'. P r s × Q r s') p q q'
alike_of ends (ends h) (ends h') = ends (h, h')
alike_of (looks m) (looks A B h) (looks A' B' h') = looks A B B' (λ u v v' s s'. alike_of (m u) (h u v s) (h' u v' s'))
alike_of (says m) (says l h) (says l' h') = says (alike_of m h h')

pub both_ways : (R : Type 0) → BothWays R
both_ways R f p q q' hf ho z alike law exact e =
    let first : Outcome R = run f p q hf ho in
    let s = silence R (λ _ _ _. ⊤) f p q q' hf ho alike law (λ k. omega (arith, exact k)) in
    let whole : front first.used hf ≡ hf = fun_ext (λ k. let l : length (hf k) ≤ first.used k = omega (arith, exact k) in take_all (first.used k) (hf k) l) in
    let is : z ≡ s.one.0 = s.one.2 z e in
    let same : (run f p q' hf z).used ≡ first.used = ap₂ (λ n o. (run f p q' n o).used) (sym whole) is ∙ s.same_used in
    let whole' : front (run f p q' hf z).used hf ≡ hf = ap (λ c. front c hf) same ∙ whole in
    record {
      exact = λ k. AllZip-long (Paired (sends f k) k) (hf k) (ho k) (law k) ∙ exact k ∙ sym (ap (λ (c : Kind → ℕ). c k) same);
      lawful = subst (λ n. LawfulAt f n ho) (sym whole') law;
      heard = ap (λ n. (run f p q n ho).near_heard) whole' ∙ sym e.heard ∙ ap (λ n. (run f p q' n z).near_heard) whole;
      result = ap (λ n. (run f p q n ho).near) whole' ∙ sym e.result ∙ ap (λ n. (run f p q' n z).near) whole;
    }
