-- What is proved of the layout: reading a sheet gives back what was written.
use Rattle.std.specs.Prelude.{◌≡◌, ℕ, ◌<◌, List, ◌++◌, length, replicate, Some}
use Rattle.std.specs.List.{AllByRecursion}
use Rattle.refusal.specs.declared.kind.Kind.{Kind}
use Rattle.sources.specs.Halves.{Halves, InRange}
use Rattle.sheets.specs.Bits.{bits_of}
use Rattle.sheets.specs.Layout.{encode, decode}

-- halves that a sheet can hold: in range, and at most 8,191 of each kind
pub record Sheetable (seat : ℕ) (g : Halves) : Type 0 where
  pub low : seat < 2
  pub ranges : (k : Kind) → AllByRecursion (InRange seat k) (g k)
  pub few : (k : Kind) → length (g k) < 8192

-- the bytes are the sheet: its bits, and fewer than 8 zero bits that fill the last byte
pub record IsSheet (seat : ℕ) (g : Halves) (bytes : List ℕ) : Type 0 where
  pub filling : ℕ
  pub few : filling < 8
  pub laid : bits_of bytes ≡ encode seat g ++ replicate filling 0

abbrev pub DecodeUndoesEncode : Type 0
DecodeUndoesEncode = (seat : ℕ) (g : Halves) (bytes : List ℕ) → Sheetable seat g → IsSheet seat g bytes → decode bytes ≡ Some (record { seat = seat; left = g })
