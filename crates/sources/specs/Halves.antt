-- Halves of correlations as sources hold them: rows of words, by kind; which are in range, and which fit.
use Rattle.std.specs.Prelude.{◌≡◌, ℕ, ◌+◌, Bool, List, length, MatchBool, if◌then◌else◌, ◌==◌}
use Rattle.std.specs.List.{AllZip}
use Rattle.refusal.specs.declared.kind.Kind.{Kind}
use Rattle.refusal.specs.declared.kind.Kind.TheVariants.{Bit, Ring0, Ring1}
use Rattle.refusal.specs.Kinds.{entries, sender}
use Rattle.lookup.specs.Groups.{Operation, xor, add}
use Rattle.lookup.specs.Lookup.{SenderSound, ReceiverSound, Fit}
use Rattle.lookup.specs.Halves.{sender_from, receiver_from}

-- the words of a half: the masks and then the blind, or the choice and then the mask
abbrev pub Half : Type 0
Half = List ℕ

-- of each kind, the halves not yet drawn
abbrev pub Halves : Type 0
Halves = Kind → List Half

-- the group that the masks of a kind join in
abbrev pub operation : Kind → Operation
operation Bit = xor
operation Ring0 = add
operation Ring1 = add

-- whether a seat has the sender's halves of a kind
abbrev pub sends : ℕ → Kind → Bool
sends seat k = seat == sender k

-- how many words a half has
abbrev pub width : ℕ → Kind → ℕ
width seat k = if sends seat k then entries k + 1 else 2

pub record SenderInRange (k : Kind) (h : Half) : Type 0 where
  pub long : length h ≡ entries k + 1
  pub sound : SenderSound (operation k) (entries k) (sender_from h)

pub record ReceiverInRange (k : Kind) (h : Half) : Type 0 where
  pub long : length h ≡ 2
  pub sound : ReceiverSound (operation k) (entries k) (receiver_from h)

-- every field of a seat's half is in range
abbrev pub InRange : ℕ → Kind → Half → Type 0
InRange seat k h = MatchBool (sends seat k) (SenderInRange k h) (ReceiverInRange k h)

-- the halves of seats 0 and 1 fit
abbrev pub Fits : Kind → Half → Half → Type 0
Fits k a b = MatchBool (sends 0 k) (Fit (sender_from a) (receiver_from b)) (Fit (sender_from b) (receiver_from a))

-- A deal is lawful if, kind by kind, both seats have equally many halves and each fits its fellow.
abbrev pub Lawful : Halves → Halves → Type 0
Lawful a b = (k : Kind) → AllZip (Fits k) (a k) (b k)
