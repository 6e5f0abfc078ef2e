-- What a party does, as a tree of lookups and disclosed words, and what two or three such trees have to do with each other.
use Rattle.std.specs.Prelude.{◌≡◌, ℕ, suc, ◌+◌, ◌<◌, Bool, true, false, List, [], ◌∷◌}
use Rattle.refusal.specs.declared.kind.Kind.{Kind}
use Rattle.refusal.specs.Kinds.{entries, on}
use Rattle.lookup.specs.Lookup.{TableIn}
use Rattle.sources.specs.Halves.{operation}
use Rattle.refusal.specs.declared.seat.Seat.{Seat}
use Rattle.protocol.specs.Seats.{sends}

-- What a party brings to a lookup: if it sends, the table counts, and else the index.
pub record Ask : Type 0 where
  pub table : ℕ → ℕ
  pub index : ℕ

pub record AskIn (k : Kind) (a : Ask) : Type 0 where
  pub table_in : TableIn (operation k) a.table
  pub index_in : a.index < entries k

-- be done; look something up together, and go on with one's own share of it; say a word to the other; hear a word
-- from the other, which is to be below a limit
pub data Course (R : Type 0) : Type 0 where
  done : R → Course R
  look : Kind → Ask → (ℕ → Course R) → Course R
  say : ℕ → Course R → Course R
  hear : (limit : ℕ) → (ℕ → Course R) → Course R

-- a lookup by its table and index
abbrev pub lookup : {R : Type 0} → Kind → (ℕ → ℕ) → ℕ → (ℕ → Course R) → Course R
lookup k t y c = look k (record { table = t; index = y }) c

-- one course, then another that goes by its result
abbrev pub and_then : {R S : Type 0} → Course R → (R → Course S) → Course S
and_then (done r) g = g r
and_then (look k a c) g = look k a (λ u. and_then (c u) g)
and_then (say w c) g = say w (and_then c g)
and_then (hear n c) g = hear n (λ w. and_then (c w) g)

-- The shares join to the entry that is sought: u of the near party, which brings a, and v of the far one, which brings b.
-- The test says whether the near party sends.
abbrev pub Joins : Bool → Kind → Ask → Ask → ℕ → ℕ → Type 0
Joins true k a b u v = (operation k).join v u ≡ a.table b.index
Joins false k a b u v = (operation k).join u v ≡ b.table a.index

pub record Shares (f : Seat) (k : Kind) (a b : Ask) (u v : ℕ) : Type 0 where
  pub near_in : u < (operation k).size
  pub far_in : v < (operation k).size
  pub joins : Joins (sends f k) k a b u v

-- The course of the party at the seat f and that of the other go together, and whatever shares the lookups give, so long
-- as they join to the entry that is sought, they end in results related by P.
pub data Computes (f : Seat) {R : Type 0} (P : R → R → Type 0) : Course R → Course R → Type 0 where
  ends : {r s : R} → P r s → Computes f P (done r) (done s)
  looks : {k : Kind} {a b : Ask} {c d : ℕ → Course R} → AskIn k a → AskIn k b
      → ((u v : ℕ) → Shares f k a b u v → Computes f P (c u) (d v))
      → Computes f P (look k a c) (look k b d)
  says : {w n : ℕ} {c : Course R} {d : ℕ → Course R} → w < n → Computes f P c (d w) → Computes f P (say w c) (hear n d)
  hears : {w n : ℕ} {c : ℕ → Course R} {d : Course R} → w < n → Computes f P (c w) d → Computes f P (hear n c) (say w d)

-- One course of the party at the seat f, and two of the other that go together with it and say the same words; the results
-- are related by P.
pub data Alike (f : Seat) {R : Type 0} (P : R → R → R → Type 0) : Course R → Course R → Course R → Type 0 where
  ends : {r s s' : R} → P r s s' → Alike f P (done r) (done s) (done s')
  looks : {k : Kind} {a b b' : Ask} {c d d' : ℕ → Course R} → AskIn k a → AskIn k b → AskIn k b'
      → ((u v v' : ℕ) → Shares f k a b u v → Shares f k a b' u v' → Alike f P (c u) (d v) (d' v'))
      → Alike f P (look k a c) (look k b d) (look k b' d')
  says : {w n n' : ℕ} {c : Course R} {d d' : ℕ → Course R} → Alike f P c (d w) (d' w) → Alike f P (say w c) (hear n d) (hear n' d')
  hears : {w n : ℕ} {c : ℕ → Course R} {d d' : Course R} → Alike f P (c w) d d' → Alike f P (hear n c) (say w d) (say w d')

-- Two courses that go together whatever numbers the lookups give: they bring what is in range, say words below the other's
-- limit, and end in results related by P. So no deal, lawful or not, can halt them.
pub data Matched {R : Type 0} (P : R → R → Type 0) : Course R → Course R → Type 0 where
  ends : {r s : R} → P r s → Matched P (done r) (done s)
  looks : {k : Kind} {a b : Ask} {c d : ℕ → Course R} → AskIn k a → AskIn k b → ((u v : ℕ) → Matched P (c u) (d v)) → Matched P (look k a c) (look k b d)
  says : {w n : ℕ} {c : Course R} {d : ℕ → Course R} → w < n → Matched P c (d w) → Matched P (say w c) (hear n d)
  hears : {w n : ℕ} {c : ℕ → Course R} {d : Course R} → w < n → Matched P (c w) d → Matched P (hear n c) (say w d)

-- a course in which this party hears no word
pub data Unheard {R : Type 0} : Course R → Type 0 where
  ends : {r : R} → Unheard (done r)
  looks : {k : Kind} {a : Ask} {c : ℕ → Course R} → ((u : ℕ) → Unheard (c u)) → Unheard (look k a c)
  says : {w : ℕ} {c : Course R} → Unheard c → Unheard (say w c)

-- The course has lookups of these kinds, one after the other, whatever numbers they give; it brings to each what is in range,
-- says and hears nothing, and ends in a result of P. So the list is its price.
pub data Follows {R : Type 0} (P : R → Type 0) : List Kind → Course R → Type 0 where
  ends : {r : R} → P r → Follows P [] (done r)
  looks : {k : Kind} {ks : List Kind} {a : Ask} {c : ℕ → Course R} → AskIn k a → ((u : ℕ) → Follows P ks (c u)) → Follows P (k ∷ ks) (look k a c)

-- how many of a kind are in a list of kinds
abbrev pub tally : List Kind → Kind → ℕ
tally [] j = 0
tally (k ∷ ks) j = on k j suc (tally ks j)

-- Each way through the course has so many lookups, kind by kind, that of n there are left as many as the result says.
abbrev pub Spends : {R : Type 0} → (R → Kind → ℕ) → (Kind → ℕ) → Course R → Type 0
Spends left n (done r) = (k : Kind) → n k ≡ left r k
Spends left n (look k a c) = (m : Kind → ℕ) × ((j : Kind) → n j ≡ on k j suc (m j)) × ((u : ℕ) → Spends left m (c u))
Spends left n (say w c) = Spends left n c
Spends left n (hear limit c) = (w : ℕ) → Spends left n (c w)

-- each way through the course has n lookups, kind by kind
abbrev pub Costs : {R : Type 0} → (Kind → ℕ) → Course R → Type 0
Costs n p = Spends (λ _ _. 0) n p

-- Each way through the course has so many messages, two for a lookup and one for a word, that of n there are left as many as
-- the result says.
abbrev pub Talks : {R : Type 0} → (R → ℕ) → ℕ → Course R → Type 0
Talks left n (done r) = n ≡ left r
Talks left n (look k a c) = (m : ℕ) × (n ≡ 2 + m) × ((u : ℕ) → Talks left m (c u))
Talks left n (say w c) = (m : ℕ) × (n ≡ 1 + m) × Talks left m c
Talks left n (hear limit c) = (m : ℕ) × (n ≡ 1 + m) × ((w : ℕ) → Talks left m (c w))
