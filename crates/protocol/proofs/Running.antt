-- What a run takes, leaves and comes to.
use Rattle.std.proofs.Common.{◌≡◌, ℕ, suc, ◌≤◌, List, [], ◌∷◌, length, sym, refl, ap, ◌∙◌, ap₂, add-zero, zero-add, arith}
use Rattle.std.proofs.Math.Path.{fun_ext}
use Rattle.std.proofs.Math.ListN.{get_or-append}
use Rattle.std.proofs.lemmas.List.Elements.{AllZip-get_or}
use Rattle.refusal.specs.declared.kind.Kind.{Kind}
use Rattle.refusal.specs.Kinds.{on}
use Rattle.sources.specs.Halves.{Half, Halves}
use Rattle.refusal.specs.declared.seat.Seat.{Seat}
use Rattle.protocol.specs.Seats.{sends, Paired, LawfulAt, next, rest, front, back, before, Enough}
use Rattle.protocol.specs.Course.{Ask, Course, done, look, say, hear, Computes, ends, looks, says, hears}
use Rattle.protocol.specs.Run.{Turn, turn, ask_of, word_of, next_of, Outcome, after_look, after_say, after_hear, run}
use Rattle.protocol.specs.Theorems.{SoundnessOf, Account, MessageAccount, Cost}
use Rattle.protocol.proofs.Supplies.{next_front, rest_front, some_left, rest_long, rest_back, rest_append, on_plus, each_rest, each_drop}
use Rattle.protocol.proofs.Lookups.{lookups_share}

-- what an outcome says apart from the halves that are left
pub record Facts (R : Type 0) : Type 0 where
  pub near : R
  pub far : R
  pub near_heard : List (List ℕ)
  pub far_heard : List (List ℕ)
  pub used : Kind → ℕ

module _ {R : Type 0} where
  abbrev pub facts : Outcome R → Facts R
  facts o = record { near = o.near; far = o.far; near_heard = o.near_heard; far_heard = o.far_heard; used = o.used }

  abbrev facts_look : Kind → Turn → Facts R → Facts R
  facts_look k t o = record o { near_heard = t.near_heard ∷ o.near_heard; far_heard = t.far_heard ∷ o.far_heard; used = λ j. on k j suc (o.used j) }

  abbrev facts_say : ℕ → Facts R → Facts R
  facts_say w o = record o { far_heard = (w ∷ []) ∷ o.far_heard }

  abbrev facts_hear : ℕ → Facts R → Facts R
  facts_hear w o = record o { near_heard = (w ∷ []) ∷ o.near_heard }

  -- a run over just the front that it uses is the same
  pub fronts : (f : Seat) (p q : Course R) (n o : Halves) → facts (run f p q (front (run f p q n o).used n) (front (run f p q n o).used o)) ≡ facts (run f p q n o)
  fronts f (done r) q n o = refl
  fronts f (look k a c) q n o =
      let t : Turn = turn f k a (ask_of q) (next k n) (next k o) in
      let u : Kind → ℕ = (run f (c t.near) (next_of q t.far) (rest k n) (rest k o)).used in
      let v : Kind → ℕ = λ j. on k j suc (u j) in
      let go : Half → Half → Halves → Halves → Facts R = λ x y s s'. let t = turn f k a (ask_of q) x y in
      facts_look k t (facts (run f (c t.near) (next_of q t.far) s s')) in
      ap₂ (λ x y. go x y (rest k (front v n)) (rest k (front v o))) (next_front k (u k) (n k) []) (next_front k (u k) (o k) [])
      ∙ ap₂ (go (next k n) (next k o)) (fun_ext (λ j. rest_front k j (u j) (n j))) (fun_ext (λ j. rest_front k j (u j) (o j)))
      ∙ ap (facts_look k t) (fronts f (c t.near) (next_of q t.far) (rest k n) (rest k o))
  fronts f (say w c) q n o = ap (facts_say w) (fronts f c (next_of q w) n o)
  fronts f (hear l c) q n o = ap (facts_hear (word_of q)) (fronts f (c (word_of q)) (next_of q (word_of q)) n o)

  left_is : (f : Seat) (p q : Course R) (n o : Halves) →
      ((run f p q n o).near_left ≡ back (run f p q n o).used n) × ((run f p q n o).far_left ≡ back (run f p q n o).used o)
  left_is f (done r) q n o = (refl, refl)
  left_is f (look k a c) q n o =
      let t : Turn = turn f k a (ask_of q) (next k n) (next k o) in
      let e = left_is f (c t.near) (next_of q t.far) (rest k n) (rest k o) in
      (e.0 ∙ fun_ext (λ j. rest_back k j _ (n j)), e.1 ∙ fun_ext (λ j. rest_back k j _ (o j)))
  left_is f (say w c) q n o = left_is f c (next_of q w) n o
  left_is f (hear l c) q n o = left_is f (c (word_of q)) (next_of q (word_of q)) n o

-- the two next halves of a lawful deal, and what is left without them
pub first_paired : (f : Seat) (k : Kind) (u : ℕ) (n o : Halves) → LawfulAt f n o → on k k suc u ≤ length (n k) → Paired (sends f k) k (next k n) (next k o)
first_paired f k u n o law l = AllZip-get_or (Paired (sends f k) k) (n k) (o k) 0 [] [] (law k) (some_left k u (length (n k)) l)

pub rest_lawful : (f : Seat) (k : Kind) (n o : Halves) → LawfulAt f n o → LawfulAt f (rest k n) (rest k o)
rest_lawful f k n o law j = each_rest (Paired (sends f j) j) k j (n j) (o j) (law j)

module _ {R : Type 0} where
  pub related : (f : Seat) (P : R → R → Type 0) {p q : Course R} → Computes f P p q → (n o : Halves) →
      LawfulAt f n o → Enough (run f p q n o).used n → P (run f p q n o).near (run f p q n o).far
  related f P (ends h) n o law long = h
  related f P (looks {k} {a} {b} A B h) n o law long =
      related f P (h _ _ (lookups_share f k a b (next k n) (next k o) A B (first_paired f k _ n o law (long k))))
      (rest k n) (rest k o) (rest_lawful f k n o law) (λ j. rest_long k j _ (n j) (long j))
  related f P (says l h) n o law long = related f P h n o law long
  related f P (hears l h) n o law long = related f P h n o law long

pub soundness : (R : Type 0) (P : R → R → Type 0) → SoundnessOf R P
soundness R P f p q n o C law long =
    let r : Outcome R = run f p q n o in
    let e = left_is f p q n o in
    record {
      related = related f P C n o law long;
      near_left = e.0;
      far_left = e.1;
      lawful = λ k. rw (e.0, e.1) (each_drop (Paired (sends f k) k) (r.used k) (n k) (o k) (law k));
    }

-- a run over halves with more behind them

abbrev and_left : {R : Type 0} → Halves → Halves → Outcome R → Outcome R
and_left t t' o = record o { near_left = before o.near_left t; far_left = before o.far_left t' }

pub look_past : {R : Type 0} (f : Seat) (k : Kind) (a : Ask) (c : ℕ → Course R) (q : Course R) (u : Kind → ℕ) (s t s' t' : Halves) →
    ((j : Kind) → on k j suc (u j) ≤ length (s j)) → ((j : Kind) → on k j suc (u j) ≤ length (s' j)) →
    run f (look k a c) q (before s t) (before s' t')
    ≡ after_look k (turn f k a (ask_of q) (next k s) (next k s'))
    (run f (c (turn f k a (ask_of q) (next k s) (next k s')).near) (next_of q (turn f k a (ask_of q) (next k s) (next k s')).far) (before (rest k s) t) (before (rest k s') t'))
look_past {R} f k a c q u s t s' t' l l' =
    let go : Half → Half → Halves → Halves → Outcome R = λ x y s s'. let t = turn f k a (ask_of q) x y in
    after_look k t (run f (c t.near) (next_of q t.far) s s') in
    ap₂ (λ x y. go x y (rest k (before s t)) (rest k (before s' t')))
    (get_or-append (s k) (t k) [] 0 (some_left k (u k) (length (s k)) (l k))) (get_or-append (s' k) (t' k) [] 0 (some_left k (u k) (length (s' k)) (l' k)))
    ∙ ap₂ (go (next k s) (next k s')) (fun_ext (λ j. rest_append k j (u j) (s j) (t j) (l j))) (fun_ext (λ j. rest_append k j (u j) (s' j) (t' j) (l' j)))

-- What is past the front that a run uses makes no difference, and is left over.
pub past : {R : Type 0} (f : Seat) (p q : Course R) (s t s' t' : Halves) → Enough (run f p q s s').used s → Enough (run f p q s s').used s' →
    run f p q (before s t) (before s' t') ≡ and_left t t' (run f p q s s')
past f (done r) q s t s' t' l l' = refl
past f (look k a c) q s t s' t' l l' =
    let w : Turn = turn f k a (ask_of q) (next k s) (next k s') in
    look_past f k a c q _ s t s' t' l l'
    ∙ ap (after_look k w) (past f (c w.near) (next_of q w.far) (rest k s) t (rest k s') t' (λ j. rest_long k j _ (s j) (l j)) (λ j. rest_long k j _ (s' j) (l' j)))
past f (say w c) q s t s' t' l l' = ap (after_say w) (past f c (next_of q w) s t s' t' l l')
past f (hear n c) q s t s' t' l l' = ap (after_hear (word_of q)) (past f (c (word_of q)) (next_of q (word_of q)) s t s' t' l l')

pub account : (R : Type 0) → Account R
account R f l n (done r) q s s' C k = zero-add (l r k) ∙ sym (C k)
account R f l n (look j a c) q s s' C k =
    let t : Turn = turn f j a (ask_of q) (next j s) (next j s') in
    on_plus j k _ _ ∙ ap (on j k suc) (account R f l C.0 (c t.near) (next_of q t.far) (rest j s) (rest j s') (C.2 t.near) k) ∙ sym (C.1 k)
account R f l n (say w c) q s s' C k = account R f l n c (next_of q w) s s' C k
account R f l n (hear limit c) q s s' C k = account R f l n (c (word_of q)) (next_of q (word_of q)) s s' (C (word_of q)) k

pub cost : (R : Type 0) → Cost R
cost R f n p q s s' C k = sym (add-zero _) ∙ account R f (λ _ _. 0) n p q s s' C k

pub message_account : (R : Type 0) → MessageAccount R
message_account R f l n (done r) q s s' C = zero-add (l r) ∙ sym C
message_account R f l n (look j a c) q s s' C =
    let t : Turn = turn f j a (ask_of q) (next j s) (next j s') in
    let e = message_account R f l C.0 (c t.near) (next_of q t.far) (rest j s) (rest j s') (C.2 t.near) in
    omega (arith, e, C.1)
message_account R f l n (say w c) q s s' C = let e = message_account R f l C.0 c (next_of q w) s s' C.2 in omega (arith, e, C.1)
message_account R f l n (hear limit c) q s s' C =
    let e = message_account R f l C.0 (c (word_of q)) (next_of q (word_of q)) s s' (C.2 (word_of q)) in omega (arith, e, C.1)
