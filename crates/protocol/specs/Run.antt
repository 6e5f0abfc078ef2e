-- Two parties' courses run against each other over their halves: what each hears, comes to and has left.
use Rattle.std.specs.Prelude.{ℕ, suc, ◌+◌, Bool, true, false, List, [], ◌∷◌, length}
use Rattle.refusal.specs.declared.kind.Kind.{Kind}
use Rattle.refusal.specs.Kinds.{entries, on}
use Rattle.lookup.specs.Lookup.{request, words, sender_share, receiver_share}
use Rattle.lookup.specs.Halves.{sender_from, receiver_from}
use Rattle.sources.specs.Halves.{Half, Halves, operation}
use Rattle.refusal.specs.declared.seat.Seat.{Seat}
use Rattle.protocol.specs.Seats.{sends, next, rest}
use Rattle.protocol.specs.Course.{Ask, Course, done, look, say, hear}

-- what a lookup leaves: the shares of the near and of the far party, and what each heard
pub record Turn : Type 0 where
  pub near : ℕ
  pub far : ℕ
  pub near_heard : List ℕ
  pub far_heard : List ℕ

-- the near party sends, and brings a
abbrev pub sending : Kind → Ask → Ask → Half → Half → Turn
sending k a b s r =
    let G = operation k in
    let d = request (entries k) (receiver_from r) b.index in
    let ws = words G (entries k) a.table (sender_from s) d in
    record { near = sender_share G (sender_from s); far = receiver_share G (receiver_from r) b.index ws; near_heard = d ∷ []; far_heard = ws }

-- the same, seen by the other party
abbrev pub turned : Turn → Turn
turned t = record { near = t.far; far = t.near; near_heard = t.far_heard; far_heard = t.near_heard }

-- the test says whether the near party sends
abbrev pub turn_by : Bool → Kind → Ask → Ask → Half → Half → Turn
turn_by true k a b x y = sending k a b x y
turn_by false k a b x y = turned (sending k b a y x)

-- a lookup, as the party at the seat f sees it
abbrev pub turn : Seat → Kind → Ask → Ask → Half → Half → Turn
turn f k a b x y = turn_by (sends f k) k a b x y

-- What the far party does, as the near party meets it; where the two do not go together, its part is made of noughts.
abbrev pub no_ask : Ask
no_ask = record { table = λ _. 0; index = 0 }

module _ {R : Type 0} where
  abbrev pub ask_of : Course R → Ask
  ask_of (look k a c) = a
  ask_of _ = no_ask

  abbrev pub word_of : Course R → ℕ
  word_of (say w c) = w
  word_of _ = 0

  abbrev pub next_of : Course R → ℕ → Course R
  next_of (done r) u = done r
  next_of (look k a c) u = c u
  next_of (say w c) u = c
  next_of (hear n c) u = c u

  abbrev pub result_of : Course R → R
  result_of (done r) = r
  result_of (look k a c) = result_of (c 0)
  result_of (say w c) = result_of c
  result_of (hear n c) = result_of (c 0)

-- what a run leaves: of each party the result, the messages that it heard and the halves left; and how many of each kind were used
pub record Outcome (R : Type 0) : Type 0 where
  pub near : R
  pub far : R
  pub near_heard : List (List ℕ)
  pub far_heard : List (List ℕ)
  pub near_left : Halves
  pub far_left : Halves
  pub used : Kind → ℕ

module _ {R : Type 0} where
  -- how many messages there were
  abbrev pub messages : Outcome R → ℕ
  messages o = length o.near_heard + length o.far_heard

  abbrev pub after_look : Kind → Turn → Outcome R → Outcome R
  after_look k t o = record o { near_heard = t.near_heard ∷ o.near_heard; far_heard = t.far_heard ∷ o.far_heard; used = λ j. on k j suc (o.used j) }

  abbrev pub after_say : ℕ → Outcome R → Outcome R
  after_say w o = record o { far_heard = (w ∷ []) ∷ o.far_heard }

  abbrev pub after_hear : ℕ → Outcome R → Outcome R
  after_hear w o = record o { near_heard = (w ∷ []) ∷ o.near_heard }

  -- the course p of the party at the seat f against q of the other, over the halves of the two
  abbrev pub run : Seat → Course R → Course R → Halves → Halves → Outcome R
  run f (done r) q near far = record { near = r; far = result_of q; near_heard = []; far_heard = []; near_left = near; far_left = far; used = λ _. 0 }
  run f (look k a c) q near far =
      let t = turn f k a (ask_of q) (next k near) (next k far) in
      after_look k t (run f (c t.near) (next_of q t.far) (rest k near) (rest k far))
  run f (say w c) q near far = after_say w (run f c (next_of q w) near far)
  run f (hear n c) q near far = after_hear (word_of q) (run f (c (word_of q)) (next_of q (word_of q)) near far)

  -- the same run, seen by the other party
  abbrev pub flipped : Outcome R → Outcome R
  flipped o = record { near = o.far; far = o.near; near_heard = o.far_heard; far_heard = o.near_heard; near_left = o.far_left; far_left = o.near_left; used = o.used }
