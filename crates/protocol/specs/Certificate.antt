-- What an engine of commands has to show, and what then holds of every session.
use Rattle.std.specs.Prelude.{◌≡◌, ℕ, ◌+◌, ◌≤◌, Bool, IsTrue, List, map, length, fold, scan}
use Rattle.refusal.specs.declared.kind.Kind.{Kind}
use Rattle.lookup.specs.Once.{ExactlyOne}
use Rattle.sources.specs.Halves.{Halves}
use Rattle.refusal.specs.declared.seat.Seat.{Seat}
use Rattle.protocol.specs.Seats.{LawfulAt}
use Rattle.protocol.specs.Course.{Course, Computes, Alike, Spends, Talks}
use Rattle.protocol.specs.Run.{Outcome, messages}
use Rattle.protocol.specs.Theorems.{Sound, ExplainsBefore}
use Rattle.protocol.specs.Session.{session, Agrees}

-- Worlds of W are what the commands of C mean: `step` is what a command does to one, `shown` what it shows a party of one.

abbrev pub steps : {C W : Type 0} → (C → W → W) → List C → W → W
steps step cs w = fold (λ u c. step c u) w cs

abbrev pub shown_by : {C W O : Type 0} → (C → W → W) → (C → W → O) → List C → W → List O
shown_by step shown cs w = scan (λ u c. step c u) (λ u c. shown c u) w cs

-- An engine, with the party at the seat f near: of each command that party is told a D. Its states of S say how many halves
-- of each kind are left, and how many messages may still be sent. I relates a world to the two parties' states, J is what
-- their courses' shape goes by.
module _ {C D W S O : Type 0} (f : Seat) (I : W → S → S → Type 0) (J : S → S → Type 0) (left : S → Kind → ℕ) (budget : S → ℕ)
    (told : C → D) (near : D → S → Course S) (far : C → S → Course S) (step : C → W → W) (shown : C → W → O) where
  abbrev pub Keeps : Type 0
  Keeps = (c : C) (w : W) (a b : S) → I w a b → Computes f (I (step c w)) (near (told c) a) (far c b)

  -- Two commands of which the near party is told the same, and that show it the same, are alike to it, and each keeps its own world.
  abbrev pub Hides : Type 0
  Hides = (c d : C) (w w' : W) (a b b' : S) → told c ≡ told d → shown c w ≡ shown d w' → I w a b → I w' a b' →
      Alike f (λ r s s'. I (step c w) r s × I (step d w') r s') (near (told c) a) (far c b) (far d b')

  -- what the engine shows of each command
  pub record Engine : Type 0 where
    pub keeps : Keeps
    pub hides : Hides
    pub spends : (t : D) (a : S) → Spends left (left a) (near t a)
    pub talks : (t : D) (a : S) → Talks budget (budget a) (near t a)
    pub agrees : Agrees J (λ c. near (told c)) far
    pub public : (w : W) (a b : S) → I w a b → J a b

  abbrev pub played : List C → S → S → Halves → Halves → Outcome S
  played cs a b hf ho = session f (λ c. near (told c)) far cs a b hf ho

  -- Over a lawful deal, of every list of commands: what the commands mean comes about; the states count rightly what is left;
  -- and for every other list of which the near party is told the same and that shows it the same, exactly one list of the
  -- other's spent halves explains what the near party saw, whatever lies behind it.
  pub record Certified : Type 0 where
    pub sound : (cs : List C) (w : W) (a b : S) (hf ho : Halves) → I w a b → LawfulAt f hf ho → ((k : Kind) → left a k ≤ length (hf k)) →
        Sound f (I (steps step cs w)) hf ho (played cs a b hf ho)
    pub accounts : (cs : List C) (a b : S) (hf ho : Halves) → J a b → (k : Kind) → (played cs a b hf ho).used k + left (played cs a b hf ho).near k ≡ left a k
    pub message_accounts : (cs : List C) (a b : S) (hf ho : Halves) → J a b → messages (played cs a b hf ho) + budget (played cs a b hf ho).near ≡ budget a
    pub silent : (cs ds : List C) (w w' : W) (a b b' : S) (hf ho more : Halves) → map told cs ≡ map told ds →
        shown_by step shown cs w ≡ shown_by step shown ds w' → I w a b → I w' a b' → LawfulAt f hf ho → ((k : Kind) → left a k ≤ length (hf k)) →
        ExactlyOne (ExplainsBefore f (played cs a b hf ho) (played ds a b') hf more)

-- Whoever shows it of each command has it of every session. (A contract can speak of relations that are tests.)
abbrev pub Certificate : Type 0 → Type 0 → Type 0 → Type 0 → Type 0 → Type 0
Certificate C D W S O = (I : W → S → S → Bool) (J : S → S → Bool) (left : S → Kind → ℕ) (budget : S → ℕ) (f : Seat)
    (told : C → D) (near : D → S → Course S) (far : C → S → Course S) (step : C → W → W) (shown : C → W → O) →
    Engine f (λ w a b. IsTrue (I w a b)) (λ a b. IsTrue (J a b)) left budget told near far step shown →
    Certified f (λ w a b. IsTrue (I w a b)) (λ a b. IsTrue (J a b)) left budget told near far step shown
