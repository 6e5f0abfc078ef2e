-- One lookup: a sender with a table, a receiver with an index, and a half of a correlation for each.
use Rattle.std.specs.Prelude.{◌≡◌, ℕ, ◌-◌, ◌<◌, List, map, length, if◌then◌else◌, nat_le, slice_index}
use Rattle.std.specs.List.{range_with_len}
use Rattle.lookup.specs.Groups.{Operation}

pub record Sender : Type 0 where
  pub masks : List ℕ
  pub blind : ℕ

pub record Receiver : Type 0 where
  pub choice : ℕ
  pub mask : ℕ

-- (a - b) mod n, for places a and b below n
abbrev pub minus : ℕ → ℕ → ℕ → ℕ
minus n a b = if nat_le b a then a - b else n - (b - a)

-- a table by its entries; past the end they are 0
abbrev pub entry_of : List ℕ → ℕ → ℕ
entry_of table k = slice_index table k

-- what the receiver sends, to look up the index y among n entries
abbrev pub request : ℕ → Receiver → ℕ → ℕ
request n r y = minus n y r.choice

-- word k of what the sender sends at the request d: the entry with the blind and with mask (k - d) mod n
abbrev pub word : Operation → ℕ → (ℕ → ℕ) → Sender → ℕ → ℕ → ℕ
word G n T s d k = G.join (G.join (T k) s.blind) (slice_index s.masks (minus n k d))

abbrev pub words : Operation → ℕ → (ℕ → ℕ) → Sender → ℕ → List ℕ
words G n T s d = map (word G n T s d) (range_with_len 0 n)

abbrev pub sender_share : Operation → Sender → ℕ
sender_share G s = G.inverse s.blind

-- the word sought, with the mask taken off
abbrev pub receiver_share : Operation → Receiver → ℕ → List ℕ → ℕ
receiver_share G r y ws = G.join (slice_index ws y) (G.inverse r.mask)

-- every field is in range
pub record SenderSound (G : Operation) (n : ℕ) (s : Sender) : Type 0 where
  pub long : length s.masks ≡ n
  pub masks_in : (k : ℕ) → k < n → slice_index s.masks k < G.size
  pub blind_in : s.blind < G.size

pub record ReceiverSound (G : Operation) (n : ℕ) (r : Receiver) : Type 0 where
  pub choice_in : r.choice < n
  pub mask_in : r.mask < G.size

-- the receiver's mask is the sender's, at the receiver's choice
abbrev pub Fit : Sender → Receiver → Type 0
Fit s r = r.mask ≡ slice_index s.masks r.choice

-- a table whose entries are in the group
abbrev pub TableIn : Operation → (ℕ → ℕ) → Type 0
TableIn G T = (k : ℕ) → T k < G.size
