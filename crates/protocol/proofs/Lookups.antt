-- One lookup over rows of words, as the party at either seat sees it.
use Rattle.std.proofs.Common.{◌≡◌, ℕ, ◌+◌, ◌-◌, ◌<◌, ◌≤◌, Bool, true, false, [], ◌∷◌, ◌++◌, length, slice_index_or, take, sym, refl, ap, ◌∙◌, subst, arith}
use Rattle.std.proofs.lemmas.List.{take_more, take_all, take_at, length_push, get_or_push}
use Rattle.refusal.specs.declared.kind.Kind.{Kind}
use Rattle.refusal.specs.declared.kind.Kind.TheVariants.{Bit}
use Rattle.refusal.specs.Kinds.{entries}
use Rattle.lookup.specs.Once.{ExactlyOne}
use Rattle.lookup.specs.Groups.{Laws}
use Rattle.lookup.specs.Lookup.{Sender, Receiver, Fit, request, words, receiver_share}
use Rattle.lookup.specs.Halves.{sender_from, receiver_from}
use Rattle.lookup.specs.Instances.{xor_laws, add_laws}
use Rattle.lookup.proofs.Pairing.{shares_join, words_in, table_hidden, index_hidden}
use Rattle.sources.specs.Halves.{Half, operation}
use Rattle.refusal.specs.declared.seat.Seat.{Seat}
use Rattle.protocol.specs.Seats.{sends, Correlated, Paired}
use Rattle.protocol.specs.Course.{Ask, AskIn, Joins}
use Rattle.protocol.specs.Run.{sending, turn_by, turn}
use Rattle.protocol.specs.Theorems.{LookupsShare, LookupsHide}

pub laws : (k : Kind) → Laws (operation k)
laws Bit = xor_laws
laws _ = add_laws

-- a half as a row of words

abbrev pub sender_row : Sender → Half
sender_row s = s.masks ++ s.blind ∷ []

abbrev pub receiver_row : Receiver → Half
receiver_row r = r.choice ∷ r.mask ∷ []

row_short : (s : Sender) → length (sender_row s) - 1 ≡ length s.masks
row_short s = let e = length_push s.masks s.blind in omega arith

pub sender_back : (s : Sender) → sender_from (sender_row s) ≡ s
sender_back s =
    let e = ap (λ n. take n (sender_row s)) (row_short s) ∙ take_at s.masks (s.blind ∷ []) (length s.masks) refl in
    let f = ap (λ n. slice_index_or (sender_row s) n 0) (row_short s) ∙ get_or_push s.masks s.blind 0 (length s.masks) refl in
    λ i. record { masks = e i; blind = f i }

pub sender_forth : (n : ℕ) (h : Half) → length h ≡ n + 1 → sender_row (sender_from h) ≡ h
sender_forth n h l =
    let i = length h - 1 in
    let below : i < length h = omega arith in
    let all : length h ≤ i + 1 = omega arith in
    sym (take_more h i 0 below) ∙ take_all (i + 1) h all

pub receiver_forth : (h : Half) → length h ≡ 2 → receiver_row (receiver_from h) ≡ h
receiver_forth (c ∷ (m ∷ [])) l = refl
receiver_forth _ l = absurd (omega arith)

-- the share that a party comes to goes by what it brings, its own half, and what it heard
near_by : (b : Bool) (k : Kind) (a c c' : Ask) (x y y' : Half) → (turn_by b k a c' x y').near_heard ≡ (turn_by b k a c x y).near_heard →
    (turn_by b k a c' x y').near ≡ (turn_by b k a c x y).near
near_by true k a c c' x y y' e = refl
near_by false k a c c' x y y' e = ap (receiver_share (operation k) (receiver_from x) a.index) e

pub near_same : (f : Seat) (k : Kind) (a b b' : Ask) (x y y' : Half) → (turn f k a b' x y').near_heard ≡ (turn f k a b x y).near_heard →
    (turn f k a b' x y').near ≡ (turn f k a b x y).near
near_same f k a b b' x y y' e = near_by (sends f k) k a b b' x y y' e

-- the shares that a lookup gives
module _ (k : Kind) (a b : Ask) (s r : Half) (A : AskIn k a) (B : AskIn k b) (p : Correlated k s r) where
  sender_in : (sending k a b s r).near < (operation k).size
  sender_in = (laws k).inverse_in _ p.sender.sound.blind_in

  receiver_in : (sending k a b s r).far < (operation k).size
  receiver_in =
      (laws k).closed _ _ (words_in (operation k) (entries k) a.table (sender_from s) _ (laws k) A.table_in p.sender.sound b.index B.index_in)
      ((laws k).inverse_in _ p.receiver.sound.mask_in)

  both_join : (operation k).join (sending k a b s r).far (sending k a b s r).near ≡ a.table b.index
  both_join = shares_join (operation k) (laws k) (entries k) a.table (sender_from s) (receiver_from r) b.index A.table_in p.sender.sound p.receiver.sound p.fit B.index_in

shared_by : (n : Bool) (k : Kind) (a b : Ask) (x y : Half) → AskIn k a → AskIn k b → Paired n k x y →
    ((turn_by n k a b x y).near < (operation k).size) × ((turn_by n k a b x y).far < (operation k).size) × Joins n k a b (turn_by n k a b x y).near (turn_by n k a b x y).far
shared_by true k a b x y A B p = (sender_in k a b x y A B p, receiver_in k a b x y A B p, both_join k a b x y A B p)
shared_by false k a b x y A B p = (receiver_in k b a y x B A p, sender_in k b a y x B A p, both_join k b a y x B A p)

pub lookups_share : LookupsShare
lookups_share f k a b x y A B p =
    let s = shared_by (sends f k) k a b x y A B p in
    record { near_in = s.0; far_in = s.1; joins = s.2 }

-- the near party sends: one receiver's half
sender_sees : (k : Kind) (a b b' : Ask) (x y : Half) → AskIn k b → AskIn k b' → Correlated k x y →
    ExactlyOne (λ (y' : Half). Correlated k x y' × ((sending k a b' x y').near_heard ≡ (sending k a b x y).near_heard))
sender_sees k a b b' x y B B' p =
    let one = index_hidden (operation k) (entries k) (sender_from x) (receiver_from y) b.index b'.index p.sender.sound p.receiver.sound p.fit B.index_in B'.index_in in (
      receiver_row one.0,
      (record { sender = p.sender; receiver = record { long = refl; sound = one.1.0 }; fit = one.1.1 }, ap (λ d. d ∷ []) one.1.2),
      λ y' q. sym (receiver_forth y' q.0.receiver.long) ∙ ap receiver_row (one.2 (receiver_from y') (q.0.receiver.sound, q.0.fit, cc)),
    )

-- the far party sends: one sender's half
receiver_sees : (k : Kind) (a b b' : Ask) (x y : Half) → AskIn k a → AskIn k b → AskIn k b' → Correlated k y x →
    ExactlyOne (λ (y' : Half). Correlated k y' x × ((sending k b' a y' x).far_heard ≡ (sending k b a y x).far_heard))
receiver_sees k a b b' x y A B B' p =
    let one = table_hidden (operation k) (laws k) (entries k) b.table b'.table (sender_from y) (receiver_from x) a.index B.table_in B'.table_in p.sender.sound p.receiver.sound p.fit A.index_in in
    let back = sender_back one.0 in
    let long : length (sender_row one.0) ≡ entries k + 1 = length_push one.0.masks one.0.blind ∙ ap (λ n. n + 1) one.1.0.long in (
      sender_row one.0,
      (
        record {
          sender = record { long = long; sound = rw back one.1.0 };
          receiver = p.receiver;
          fit = subst (λ s. Fit s (receiver_from x)) (sym back) one.1.1;
        },
        ap (λ s. words (operation k) (entries k) b'.table s (request (entries k) (receiver_from x) a.index)) back ∙ one.1.2,
      ),
      λ y' q. sym (sender_forth (entries k) y' q.0.sender.long) ∙ ap sender_row (one.2 (sender_from y') (q.0.sender.sound, q.0.fit, q.1)),
    )

sees_by : (n : Bool) (k : Kind) (a b b' : Ask) (x y : Half) → AskIn k a → AskIn k b → AskIn k b' → Paired n k x y →
    ExactlyOne (λ (y' : Half). Paired n k x y' × ((turn_by n k a b' x y').near_heard ≡ (turn_by n k a b x y).near_heard))
sees_by true k a b b' x y A B B' p = sender_sees k a b b' x y B B' p
sees_by false k a b b' x y A B B' p = receiver_sees k a b b' x y A B B' p

pub lookups_hide : LookupsHide
lookups_hide f k a b b' x y A B B' p = sees_by (sends f k) k a b b' x y A B B' p
