use Rattle.std.proofs.Common.{◌≡◌, ◌^◌, ◌<◌}
use Rattle.sheets.specs.Bits.{bits_of, read}
use Rattle.sheets.proofs.layout.read.Given as goal

abbrev pub invariant-loop-i : goal.invariant-loop-i
invariant-loop-i l = (l.v ≡ read (bits_of l.sheet) l.p l.i) × (l.v < 2 ^ 32)
