-- What stands written at a pen, and what its strokes add.
use Rattle.std.specs.Prelude.{◌≡◌, ℕ, ◌+◌, ◌*◌, ◌<◌, List, ◌++◌, length, take, drop, replicate}
use Rattle.sheet_writer.specs.declared.pen.Pen.{Pen}
use Rattle.sheets.specs.Bits.{bits, bits_of}

-- the bits written so far, how many they are, and for how many the bytes have room
abbrev pub written : Pen → List ℕ
written p = bits_of (take p.at p.bytes.now) ++ bits p.filled p.current

abbrev pub place : Pen → ℕ
place p = 8 * p.at + p.filled

abbrev pub capacity : Pen → ℕ
capacity p = 8 * length p.bytes.now

-- a pen at the start of the bytes xs
pub record Fresh (p : Pen) (xs : List ℕ) : Type 0 where
  pub at_start : p.at ≡ 0
  pub none_filled : p.filled ≡ 0
  pub bytes_same : p.bytes.now ≡ xs

-- from p to q the bits bs were written, into the same bytes; what lies past them stays
pub record Pushed (p q : Pen) (bs : List ℕ) : Type 0 where
  pub adds : written q ≡ written p ++ bs
  pub on : place q ≡ place p + length bs
  pub past : drop q.at q.bytes.now ≡ drop q.at p.bytes.now
  pub same_length : length q.bytes.now ≡ length p.bytes.now
  pub same_reference : q.bytes.ghost_name ≡ p.bytes.ghost_name

-- from p to q, in the same bytes, n whole ones hold what was written and fewer than 8 zero bits; what lies past them stays
pub record Finished (p q : Pen) (n : ℕ) : Type 0 where
  pub filling : ℕ
  pub few : filling < 8
  pub holds : bits_of (take n q.bytes.now) ≡ written p ++ replicate filling 0
  pub long : 8 * n ≡ place p + filling
  pub past : drop n q.bytes.now ≡ drop n p.bytes.now
  pub same_length : length q.bytes.now ≡ length p.bytes.now
  pub same_reference : q.bytes.ghost_name ≡ p.bytes.ghost_name
