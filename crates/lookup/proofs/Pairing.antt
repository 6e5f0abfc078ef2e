-- The three theorems of one lookup, from the laws of its group alone.
use Rattle.std.proofs.Common.{◌≡◌, ℕ, ◌<◌, List, map, length, get_or, sym, refl, ap, ◌∙◌, subst, ap₂, arith}
use Rattle.std.specs.List.{range_with_len}
use Rattle.std.proofs.lemmas.List.FromFn.{length-map-range_with_len, get_or-map-range_with_len, fill_by_all}
use Rattle.lookup.specs.Once.{ExactlyOne}
use Rattle.lookup.specs.Groups.{Operation, Laws}
use Rattle.lookup.specs.Lookup.{Sender, Receiver, SenderSound, ReceiverSound, Fit, TableIn, minus, request, word, words}
use Rattle.lookup.specs.Theorems.{SharesJoin, TableHidden, IndexHidden}
use Rattle.lookup.proofs.Places.{minus_below, minus_minus, plus, plus_below, plus_minus, minus_plus, plus_request}
use Rattle.lookup.proofs.Cancel.{undo_right, redo_right, undo_left, redo_left}

-- an entry of a list that is made from a function of the index
made_at : (f : ℕ → ℕ) (n k : ℕ) → k < n → get_or (map f (range_with_len 0 n)) k 0 ≡ f k
made_at f n k h = get_or-map-range_with_len f 0 n k k 0 h (omega arith)

-- the word that the receiver reads, where the halves fit
read : (G : Operation) (n : ℕ) (T : ℕ → ℕ) (s : Sender) (r : Receiver) (y : ℕ) → ReceiverSound G n r → Fit s r → y < n →
    word G n T s (request n r y) y ≡ G.join (G.join (T y) s.blind) r.mask
read G n T s r y R F h =
    ap (λ k. G.join (G.join (T y) s.blind) (get_or s.masks k 0)) (minus_minus n y r.choice h R.choice_in)
    ∙ ap (G.join (G.join (T y) s.blind)) (sym F)

pub shares_join : (G : Operation) → Laws G → SharesJoin G
shares_join G L n T s r y TI S R F h =
    let v = G.join (T y) s.blind in
    let v_in : v < G.size = L.closed (T y) s.blind (TI y) S.blind_in in
    let w : get_or (words G n T s (request n r y)) y 0 ≡ G.join v r.mask =
    made_at (word G n T s (request n r y)) n y h ∙ read G n T s r y R F h in
    ap (λ u. G.join (G.join u (G.inverse r.mask)) (G.inverse s.blind)) w
    ∙ ap (λ u. G.join u (G.inverse s.blind)) (undo_right L v r.mask v_in R.mask_in)
    ∙ undo_right L (T y) s.blind (TI y) S.blind_in

-- Any n words in the group are what exactly one sender's half sends that fits.
module _ (G : Operation) (L : Laws G) (n : ℕ) (T : ℕ → ℕ) (r : Receiver) (y : ℕ) (ws : List ℕ) (TI : TableIn G T)
    (R : ReceiverSound G n r) (h : y < n) (long : length ws ≡ n) (ws_in : (k : ℕ) → k < n → get_or ws k 0 < G.size) where
  abbrev d : ℕ
  d = request n r y

  d_below : d < n
  d_below = minus_below n y r.choice h

  -- the word sought, with the mask taken off
  abbrev seen : ℕ
  seen = G.join (get_or ws y 0) (G.inverse r.mask)

  seen_in : seen < G.size
  seen_in = L.closed _ _ (ws_in y h) (L.inverse_in _ R.mask_in)

  abbrev blind : ℕ
  blind = G.join (G.inverse (T y)) seen

  blind_in : blind < G.size
  blind_in = L.closed _ _ (L.inverse_in _ (TI y)) seen_in

  abbrev blinded : ℕ → ℕ
  blinded k = G.join (T k) blind

  blinded_in : (k : ℕ) → blinded k < G.size
  blinded_in k = L.closed _ _ (TI k) blind_in

  -- the mask at the place j serves the word at j + d
  abbrev mask : ℕ → ℕ
  mask j = G.join (G.inverse (blinded (plus n j d))) (get_or ws (plus n j d) 0)

  mask_in : (j : ℕ) → j < n → mask j < G.size
  mask_in j l = L.closed _ _ (L.inverse_in _ (blinded_in (plus n j d))) (ws_in (plus n j d) (plus_below n j d l d_below))

  abbrev half : Sender
  half = record { masks = map mask (range_with_len 0 n); blind = blind }

  half_sound : SenderSound G n half
  half_sound = record {
    long = length-map-range_with_len mask 0 n;
    masks_in = λ k l. subst (λ u. u < G.size) (sym (made_at mask n k l)) (mask_in k l);
    blind_in = blind_in;
  }

  half_fits : Fit half r
  half_fits =
      let sought : blinded y ≡ seen = redo_left L (T y) seen (TI y) seen_in in
      let back : get_or ws y 0 ≡ G.join seen r.mask = sym (redo_right L (get_or ws y 0) r.mask (ws_in y h) R.mask_in) in
      sym (made_at mask n r.choice R.choice_in
      ∙ ap (λ k. G.join (G.inverse (blinded k)) (get_or ws k 0)) (plus_request n y r.choice h R.choice_in)
      ∙ ap₂ (λ u v. G.join (G.inverse u) v) sought back
      ∙ undo_left L seen r.mask seen_in R.mask_in)

  half_words : words G n T half d ≡ ws
  half_words = sym (fill_by_all (word G n T half d) ws n 0 long each)
    where
      each : (k : ℕ) → k < n → get_or ws k 0 ≡ word G n T half d k
      each k l = sym (ap (G.join (blinded k)) (made_at mask n (minus n k d) (minus_below n k d l)
          ∙ ap (λ i. G.join (G.inverse (blinded i)) (get_or ws i 0)) (plus_minus n k d l d_below))
          ∙ redo_left L (blinded k) (get_or ws k 0) (blinded_in k) (ws_in k l))

  module _ (s : Sender) (S : SenderSound G n s) (F : Fit s r) (same : words G n T s d ≡ ws) where
    word_is : (k : ℕ) → k < n → word G n T s d k ≡ get_or ws k 0
    word_is k l = sym (made_at (word G n T s d) n k l) ∙ ap (λ l. get_or l k 0) same

    blind_is : s.blind ≡ blind
    blind_is =
        let v = G.join (T y) s.blind in
        let v_in : v < G.size = L.closed _ _ (TI y) S.blind_in in
        let v_is : v ≡ seen = sym (undo_right L v r.mask v_in R.mask_in)
        ∙ ap (λ u. G.join u (G.inverse r.mask)) (sym (read G n T s r y R F h) ∙ word_is y h) in
        sym (undo_left L (T y) s.blind (TI y) S.blind_in) ∙ ap (G.join (G.inverse (T y))) v_is

    mask_is : (j : ℕ) → j < n → get_or s.masks j 0 ≡ mask j
    mask_is j l =
        let k = plus n j d in
        let k_below : k < n = plus_below n j d l d_below in
        let u = G.join (T k) s.blind in
        let u_in : u < G.size = L.closed _ _ (TI k) S.blind_in in
        let w : G.join u (get_or s.masks j 0) ≡ get_or ws k 0 =
        ap (λ i. G.join u (get_or s.masks i 0)) (sym (minus_plus n j d l d_below)) ∙ word_is k k_below in
        sym (undo_left L u (get_or s.masks j 0) u_in (S.masks_in j l))
        ∙ ap₂ (λ a b. G.join (G.inverse (G.join (T k) a)) b) blind_is w

    half_is : s ≡ half
    half_is = let e = fill_by_all mask s.masks n 0 S.long mask_is in λ i. record { masks = e i; blind = blind_is i }

  pub one_sender : ExactlyOne (λ (s : Sender). SenderSound G n s × Fit s r × (words G n T s (request n r y) ≡ ws))
  one_sender = (half, (half_sound, half_fits, half_words), λ s p. half_is s p.0 p.1 p.2)

-- what a sender sends is n words in the group
pub words_long : (G : Operation) (n : ℕ) (T : ℕ → ℕ) (s : Sender) (d : ℕ) → length (words G n T s d) ≡ n
words_long G n T s d = length-map-range_with_len (word G n T s d) 0 n

pub words_in : (G : Operation) (n : ℕ) (T : ℕ → ℕ) (s : Sender) (d : ℕ) → Laws G → TableIn G T → SenderSound G n s → (k : ℕ) → k < n →
    get_or (words G n T s d) k 0 < G.size
words_in G n T s d L TI S k l =
    subst (λ u. u < G.size) (sym (made_at (word G n T s d) n k l))
    (L.closed _ _ (L.closed _ _ (TI k) S.blind_in) (S.masks_in (minus n k d) (minus_below n k d l)))

pub table_hidden : (G : Operation) → Laws G → TableHidden G
table_hidden G L n T T' s r y TI TI' S R F h =
    one_sender G L n T' r y (words G n T s (request n r y)) TI' R h (words_long G n T s _) (words_in G n T s _ L TI S)

-- no law of the group is needed: the choice makes up for the index
pub index_hidden : (G : Operation) → IndexHidden G
index_hidden G n s r y y' S R F h h' =
    let d = request n r y in
    let d_below : d < n = minus_below n y r.choice h in
    let c = minus n y' d in
    let c_below : c < n = minus_below n y' d h' in (
      record { choice = c; mask = get_or s.masks c 0 },
      (record { choice_in = c_below; mask_in = S.masks_in c c_below }, refl, minus_minus n y' d h' d_below),
      λ r' p.
          let e : r'.choice ≡ c = sym (minus_minus n y' r'.choice h' p.0.choice_in) ∙ ap (minus n y') p.2 in
          let f : r'.mask ≡ get_or s.masks c 0 = p.1 ∙ ap (λ k. get_or s.masks k 0) e in
          λ i. record { choice = e i; mask = f i },
    )
