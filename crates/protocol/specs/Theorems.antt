-- What is proved of a run of two courses.
use Rattle.std.specs.Prelude.{◌≡◌, ℕ, ◌+◌, Bool, IsTrue, ⊤, length}
use Rattle.refusal.specs.declared.kind.Kind.{Kind}
use Rattle.lookup.specs.Once.{ExactlyOne}
use Rattle.sources.specs.Halves.{Half, Halves}
use Rattle.refusal.specs.declared.seat.Seat.{Seat}
use Rattle.refusal.specs.declared.seat.Seat.TheVariants.{Zero, One}
use Rattle.protocol.specs.Seats.{sends, Paired, LawfulAt, front, back, before, Enough}
use Rattle.protocol.specs.Course.{Ask, AskIn, Shares, Course, Computes, Alike, Matched, Spends, Costs, Talks}
use Rattle.protocol.specs.Run.{turn, Outcome, messages, run, flipped}

-- One lookup over correlated halves: the shares join to the entry, and for anything else that the far party may bring,
-- exactly one half of its own fits and lets the near party hear the same.
abbrev pub LookupsShare : Type 0
LookupsShare = (f : Seat) (k : Kind) (a b : Ask) (x y : Half) → AskIn k a → AskIn k b → Paired (sends f k) k x y →
    Shares f k a b (turn f k a b x y).near (turn f k a b x y).far

abbrev pub LookupsHide : Type 0
LookupsHide = (f : Seat) (k : Kind) (a b b' : Ask) (x y : Half) → AskIn k a → AskIn k b → AskIn k b' → Paired (sends f k) k x y →
    ExactlyOne (λ (y' : Half). Paired (sends f k) k x y' × ((turn f k a b' x y').near_heard ≡ (turn f k a b x y).near_heard))

-- What two courses compute they compute in a run over a lawful deal that is long enough; of that deal just the used front is gone.
pub record Sound {R : Type 0} (f : Seat) (P : R → R → Type 0) (hf ho : Halves) (o : Outcome R) : Type 0 where
  pub related : P o.near o.far
  pub near_left : o.near_left ≡ back o.used hf
  pub far_left : o.far_left ≡ back o.used ho
  pub lawful : LawfulAt f o.near_left o.far_left

abbrev pub SoundnessOf : (R : Type 0) → (R → R → Type 0) → Type 0
SoundnessOf R P = (f : Seat) (p q : Course R) (hf ho : Halves) →
    Computes f P p q → LawfulAt f hf ho → Enough (run f p q hf ho).used hf → Sound f P hf ho (run f p q hf ho)

-- a contract can speak of relations that are tests; the lemma is of any
abbrev pub Soundness : Type 0 → Type 0
Soundness R = (P : R → R → Bool) → SoundnessOf R (λ r s. IsTrue (P r s))

-- A course that has n lookups on each way uses n correlations.
abbrev pub Cost : Type 0 → Type 0
Cost R = (f : Seat) (n : Kind → ℕ) (p q : Course R) (hf ho : Halves) → Costs n p → (k : Kind) → (run f p q hf ho).used k ≡ n k

-- A result that says what is left says it rightly.
abbrev pub Account : Type 0 → Type 0
Account R = (f : Seat) (left : R → Kind → ℕ) (n : Kind → ℕ) (p q : Course R) (hf ho : Halves) → Spends left n p →
    (k : Kind) → (run f p q hf ho).used k + left (run f p q hf ho).near k ≡ n k

-- The same of messages.
abbrev pub MessageAccount : Type 0 → Type 0
MessageAccount R = (f : Seat) (left : R → ℕ) (n : ℕ) (p q : Course R) (hf ho : Halves) → Talks left n p →
    messages (run f p q hf ho) + left (run f p q hf ho).near ≡ n

-- The halves z explain what the party at the seat f saw in a first run, had the other done as in a second: there are just as
-- many as the first run used, they are lawful against that front of the party's own, and over the two fronts the party hears
-- the same messages and comes to the same result.
pub record Explains {R : Type 0} (f : Seat) (first : Outcome R) (second : Halves → Halves → Outcome R) (hf z : Halves) : Type 0 where
  pub exact : (k : Kind) → length (z k) ≡ first.used k
  pub lawful : LawfulAt f (front first.used hf) z
  pub heard : (second (front first.used hf) z).near_heard ≡ first.near_heard
  pub result : (second (front first.used hf) z).near ≡ first.near

-- Exactly one list of halves explains it; over it the second run uses as many, and the three results are related.
pub record Silent {R : Type 0} (f : Seat) (P : R → R → R → Type 0) (first : Outcome R) (second : Halves → Halves → Outcome R) (hf : Halves) : Type 0 where
  pub one : ExactlyOne (Explains f first second hf)
  pub same_used : (second (front first.used hf) one.0).used ≡ first.used
  pub related : P first.near first.far (second (front first.used hf) one.0).far

abbrev pub SilenceOf : (R : Type 0) → (R → R → R → Type 0) → Type 0
SilenceOf R P = (f : Seat) (p q q' : Course R) (hf ho : Halves) →
    Alike f P p q q' → LawfulAt f hf ho → Enough (run f p q hf ho).used hf → Silent f P (run f p q hf ho) (run f p q') hf

abbrev pub Silence : Type 0 → Type 0
Silence R = (P : R → R → R → Bool) → SilenceOf R (λ r s s'. IsTrue (P r s s'))

-- The same over all the halves there are: z in front of any more that the other has.
pub record ExplainsBefore {R : Type 0} (f : Seat) (first : Outcome R) (second : Halves → Halves → Outcome R) (hf more z : Halves) : Type 0 where
  pub exact : (k : Kind) → length (z k) ≡ first.used k
  pub lawful : LawfulAt f (front first.used hf) z
  pub heard : (second hf (before z more)).near_heard ≡ first.near_heard
  pub result : (second hf (before z more)).near ≡ first.near

abbrev pub WholeOf : (R : Type 0) → (R → R → R → Type 0) → Type 0
WholeOf R P = (f : Seat) (p q q' : Course R) (hf ho : Halves) →
    Alike f P p q q' → LawfulAt f hf ho → Enough (run f p q hf ho).used hf → (more z : Halves) →
    (Explains f (run f p q hf ho) (run f p q') hf z → ExplainsBefore f (run f p q hf ho) (run f p q') hf more z)
    × (ExplainsBefore f (run f p q hf ho) (run f p q') hf more z → Explains f (run f p q hf ho) (run f p q') hf z)

-- What explains a run is the same, whatever lies behind it.
abbrev pub Whole : Type 0 → Type 0
Whole R = WholeOf R (λ _ _ _. ⊤)

-- Where the deal is just as long as the run, the other way holds too: so what q and q' may have been dealt is paired one to one.
abbrev pub BothWays : Type 0 → Type 0
BothWays R = (f : Seat) (p q q' : Course R) (hf ho z : Halves) →
    Alike f (λ _ _ _. ⊤) p q q' → LawfulAt f hf ho → ((k : Kind) → length (hf k) ≡ (run f p q hf ho).used k) →
    Explains f (run f p q hf ho) (run f p q') hf z → Explains f (run f p q' hf z) (run f p q) hf ho

-- The two seats see one and the same run, if the courses go together.
abbrev pub OneRun : Type 0 → Type 0
OneRun R = (p q : Course R) (h0 h1 : Halves) → Matched (λ _ _. ⊤) p q → run One q p h1 h0 ≡ flipped (run Zero p q h0 h1)

-- There is a lawful deal of any length, so that no premise of lawfulness is empty.
abbrev pub DealsExist : Type 0
DealsExist = (f : Seat) (n : Kind → ℕ) → (hf : Halves) × (ho : Halves) × ((k : Kind) → length (hf k) ≡ n k) × LawfulAt f hf ho
