use Rattle.std.specs.Prelude.{◌≡◌, ◌+◌, ◌-◌, ◌*◌, ◌≤◌, ◌++◌, length}
use Rattle.sources.specs.Halves.{width}
use Rattle.sheets.specs.Bits.{bits_of}
use Rattle.sheets.specs.Layout.{field_size, row_at}
use Rattle.sheets.proofs.layout.read_half.Given as goal

-- the fields so far and those to come are the row
abbrev pub invariant-loop-i : goal.invariant-loop-i
invariant-loop-i l =
    (l.half.items ++ row_at (bits_of l.sheet) (field_size l.seat l.kind) l.at l.i (width l.seat l.kind - l.i)
    ≡ row_at (bits_of l.sheet) (field_size l.seat l.kind) l.p 0 (width l.seat l.kind))
    × (l.at ≤ l.p + 32 * l.i) × (length l.half.items ≡ l.i)
