-- Commands one after the other: a session.
use Rattle.std.specs.Prelude.{◌≡◌, ◌+◌, Bool, IsTrue, List, [], ◌∷◌, ◌++◌}
use Rattle.sources.specs.Halves.{Halves}
use Rattle.refusal.specs.declared.seat.Seat.{Seat}
use Rattle.refusal.specs.declared.seat.Seat.TheVariants.{Zero, One}
use Rattle.protocol.specs.Course.{Course, done, and_then, Matched}
use Rattle.protocol.specs.Run.{Outcome, run, flipped}

-- A command of C is, to a party with the local state a, a course that ends in its new local state. The commands in their
-- order are one course.
abbrev pub in_a_row : {C S : Type 0} → (C → S → Course S) → List C → S → Course S
in_a_row m [] a = done a
in_a_row m (c ∷ cs) a = and_then (m c a) (in_a_row m cs)

-- one outcome, and the next from where it left off
abbrev pub followed : {R S : Type 0} → Outcome R → Outcome S → Outcome S
followed r s = record s { near_heard = r.near_heard ++ s.near_heard; far_heard = r.far_heard ++ s.far_heard; used = λ k. r.used k + s.used k }

-- the commands run one by one
abbrev pub session : {C S : Type 0} → Seat → (C → S → Course S) → (C → S → Course S) → List C → S → S → Halves → Halves → Outcome S
session f near far [] a b hf ho = record { near = a; far = b; near_heard = []; far_heard = []; near_left = hf; far_left = ho; used = λ _. 0 }
session f near far (c ∷ cs) a b hf ho =
    let r = run f (near c a) (far c b) hf ho in
    followed r (session f near far cs r.near r.far r.near_left r.far_left)

-- Whatever the lookups give, the courses of each command go together, so long as the states agree, and then they agree again.
abbrev pub Agrees : {C S : Type 0} → (S → S → Type 0) → (C → S → Course S) → (C → S → Course S) → Type 0
Agrees {C} {S} J near far = (c : C) (a b : S) → J a b → Matched J (near c a) (far c b)

-- run one by one, the commands come to what their one course does
abbrev pub OneByOne : Type 0 → Type 0 → Type 0
OneByOne C S = (J : S → S → Bool) (f : Seat) (near far : C → S → Course S) (cs : List C) (a b : S) (hf ho : Halves) →
    Agrees (λ a b. IsTrue (J a b)) near far → IsTrue (J a b) → run f (in_a_row near cs a) (in_a_row far cs b) hf ho ≡ session f near far cs a b hf ho

-- the two seats see one and the same session
abbrev pub OneSession : Type 0 → Type 0 → Type 0
OneSession C S = (J : S → S → Bool) (near far : C → S → Course S) (cs : List C) (a b : S) (h0 h1 : Halves) →
    Agrees (λ a b. IsTrue (J a b)) near far → IsTrue (J a b) → session One far near cs b a h1 h0 ≡ flipped (session Zero near far cs a b h0 h1)
