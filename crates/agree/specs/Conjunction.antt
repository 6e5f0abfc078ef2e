-- The "and" of two shared bits, and the one lookup that gives it.
use Rattle.std.specs.Prelude.{◌≡◌, ℕ, ◌+◌, ◌*◌, ◌%◌, List, [], ◌∷◌, bit_and, bit_xor}
use Rattle.refusal.specs.declared.kind.Kind.TheVariants.{Bit}
use Rattle.lookup.specs.Groups.{xor}
use Rattle.lookup.specs.Lookup.{Fit, entry_of, request, words}
use Rattle.lookup.specs.Halves.{sender_from, receiver_from}
use Rattle.sources.specs.Halves.{Half, Halves, SenderInRange, ReceiverInRange, Lawful}
use Rattle.agree.specs.declared.conjunction.Shares.{Shares}
use Rattle.agree.specs.declared.conjunction.Exchange.{Exchange}

-- the bit that two shares make
abbrev pub shared : ℕ → ℕ → ℕ
shared x y = bit_xor (x % 2) (y % 2)

-- the table of seat 0's shares a, and the index of seat 1's shares b
abbrev pub table : Shares → List ℕ
table a =
    bit_and (a.x % 2) (a.y % 2) ∷ bit_and (a.x % 2) (bit_xor (a.y % 2) 1) ∷ bit_and (bit_xor (a.x % 2) 1) (a.y % 2)
    ∷ bit_and (bit_xor (a.x % 2) 1) (bit_xor (a.y % 2) 1) ∷ []

abbrev pub index : Shares → ℕ
index b = 2 * (b.x % 2) + b.y % 2

-- the shares of the result make the "and" of the two bits
abbrev pub Conjoins : Shares → Shares → Exchange → Type 0
Conjoins a b e = bit_xor e.first e.second ≡ bit_and (shared a.x b.x) (shared a.y b.y)

-- what passed is what the lookup says, and where the halves are in range and fit, the result is the "and"
pub record Exchanged (sent sought : Half) (a b : Shares) (e : Exchange) : Type 0 where
  pub asked : e.request ≡ request 16 (receiver_from sought) (index b)
  pub answered : SenderInRange Bit sent → e.words ≡ words xor 16 (entry_of (table a)) (sender_from sent) e.request
  pub conjoins : SenderInRange Bit sent → ReceiverInRange Bit sought → Fit (sender_from sent) (receiver_from sought) → Conjoins a b e

-- over a lawful deal the result is the "and", and what is left is a lawful deal
pub record Agreed (seat seat' : ℕ) (s s' r r' : Halves) (a b : Shares) (e : Exchange) : Type 0 where
  pub conjoins : seat ≡ 0 → seat' ≡ 1 → Lawful s r → Conjoins a b e
  pub lawful : Lawful s r → Lawful s' r'

-- a refusal takes nothing
pub record Kept (s s' r r' : Halves) : Type 0 where
  pub sender : s' ≡ s
  pub receiver : r' ≡ r
