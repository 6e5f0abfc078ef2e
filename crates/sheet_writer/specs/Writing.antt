-- What writing a sheet does to the source and to the bytes.
use Rattle.std.specs.Prelude.{◌≡◌, ℕ, ◌+◌, ◌*◌, ◌/◌, ◌<◌, ◌≤◌, List, [], ◌++◌, length, take, drop, Some, ◌≢◌}
use Rattle.refusal.specs.declared.kind.Kind.{Kind}
use Rattle.refusal.specs.declared.kind.Kind.TheVariants.{Bit, Ring0, Ring1}
use Rattle.refusal.specs.declared.per_kind.PerKind.{PerKind}
use Rattle.refusal.specs.declared.refusal.Refusal.{Refusal}
use Rattle.refusal.specs.PerKinds.{at}
use Rattle.refusal.specs.Refusals.{code, plain}
use Rattle.sources.specs.Halves.{Halves}
use Rattle.sheets.specs.Bits.{bits}
use Rattle.sheets.specs.Layout.{half_size, field_size, list_bits, decode}

-- how many bits a sheet with these counts has
abbrev pub bits_needed : ℕ → PerKind ℕ → ℕ
bits_needed seat counts = 40 + at counts Bit * half_size seat Bit + at counts Ring0 * half_size seat Ring0 + at counts Ring1 * half_size seat Ring1

-- the two parts of a sheet's bits
abbrev pub header_bits : ℕ → PerKind ℕ → List ℕ
header_bits seat counts = ((bits 1 seat ++ bits 13 counts.bit) ++ bits 13 counts.ring0) ++ bits 13 counts.ring1

abbrev pub body_bits : ℕ → Halves → List ℕ
body_bits seat g = (list_bits (field_size seat Bit) (g Bit) ++ list_bits (field_size seat Ring0) (g Ring0)) ++ list_bits (field_size seat Ring1) (g Ring1)

-- the counts of the lists, which a sheet can hold
pub record Counted (g : Halves) (counts : PerKind ℕ) : Type 0 where
  pub are : (k : Kind) → at counts k ≡ length (g k)
  pub few : (k : Kind) → length (g k) < 8192

-- some list is longer than a sheet can count
pub record TooMany (g : Halves) (e : Refusal) : Type 0 where
  pub kind : Kind
  pub more : 8191 < length (g kind)
  pub says : code e ≡ plain 8

-- the list of a kind is empty now, and the others stay
pub record Drained (k : Kind) (g g' : Halves) : Type 0 where
  pub empty : g' k ≡ []
  pub others : (j : Kind) → (j ≢ k) → g' j ≡ g j

-- how many bytes the sheet of a seat and its halves has
abbrev pub sheet_length : ℕ → Halves → ℕ
sheet_length seat g = (bits_needed seat (record { bit = length (g Bit); ring0 = length (g Ring0); ring1 = length (g Ring1) }) + 7) / 8

-- The writer answers n: the first n bytes are a sheet that says the seat and all the halves, and what lies past them stays.
pub record Wrote (seat : ℕ) (g g' : Halves) (xs ys : List ℕ) (n : ℕ) : Type 0 where
  pub reads_back : decode (take n ys) ≡ Some (record { seat = seat; left = g })
  pub long : n ≡ sheet_length seat g
  pub room : n ≤ length xs
  pub few : (k : Kind) → length (g k) < 8192
  pub past : drop n ys ≡ drop n xs
  pub empty : (k : Kind) → g' k ≡ []

-- It refuses with e, first a list that is too long, then too few bytes; and nothing changes.
pub record Kept (seat : ℕ) (g g' : Halves) (xs ys : List ℕ) (e : Refusal) : Type 0 where
  pub too_many : (k : Kind) → 8191 < length (g k) → code e ≡ plain 8
  pub too_short : ((k : Kind) → length (g k) < 8192) → (length xs < sheet_length seat g) × (code e ≡ plain 13)
  pub same : g' ≡ g
  pub bytes_same : ys ≡ xs
