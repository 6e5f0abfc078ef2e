-- What is proved of one lookup, in every group.
use Rattle.std.specs.Prelude.{◌≡◌, ℕ, ◌+◌, ◌%◌, ◌<◌}
use Rattle.lookup.specs.Once.{ExactlyOne}
use Rattle.lookup.specs.Groups.{Operation}
use Rattle.lookup.specs.Lookup.{Sender, Receiver, SenderSound, ReceiverSound, Fit, TableIn, minus, request, words, sender_share, receiver_share}

-- a - b is the place from which b steps, counted round, lead to a
abbrev pub PlacesGoRound : Type 0
PlacesGoRound = (n a b : ℕ) → a < n → b < n → (minus n a b < n) × ((minus n a b + b) % n ≡ a)

-- The two shares join to the entry that was sought.
abbrev pub SharesJoin : Operation → Type 0
SharesJoin G = (n : ℕ) (T : ℕ → ℕ) (s : Sender) (r : Receiver) (y : ℕ) →
    TableIn G T → SenderSound G n s → ReceiverSound G n r → Fit s r → y < n →
    G.join (receiver_share G r y (words G n T s (request n r y))) (sender_share G s) ≡ T y

-- For any other table T', exactly one sender's half fits the receiver's and gives it the same words.
abbrev pub TableHidden : Operation → Type 0
TableHidden G = (n : ℕ) (T T' : ℕ → ℕ) (s : Sender) (r : Receiver) (y : ℕ) →
    TableIn G T → TableIn G T' → SenderSound G n s → ReceiverSound G n r → Fit s r → y < n →
    ExactlyOne (λ (s' : Sender). SenderSound G n s' × Fit s' r × (words G n T' s' (request n r y) ≡ words G n T s (request n r y)))

-- For any other index y', exactly one receiver's half fits the sender's and gives it the same word.
abbrev pub IndexHidden : Operation → Type 0
IndexHidden G = (n : ℕ) (s : Sender) (r : Receiver) (y y' : ℕ) →
    SenderSound G n s → ReceiverSound G n r → Fit s r → y < n → y' < n →
    ExactlyOne (λ (r' : Receiver). ReceiverSound G n r' × Fit s r' × (request n r' y' ≡ request n r y))
