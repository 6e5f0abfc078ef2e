-- All but the last bits of the value are written.
use Rattle.std.proofs.Common.{◌-◌, ◌/◌, ◌^◌, ◌≤◌}
use Rattle.sheets.specs.Bits.{bits}
use Rattle.sheet_writer.specs.Pens.{Pushed}
use Rattle.sheet_writer.proofs.pen.Pen.push.Given as goal

abbrev pub invariant-loop-left : goal.invariant-loop-left
invariant-loop-left l = (l.left ≤ l.n) × Pushed l.initial.self l.self (bits (l.n - l.left) (l.value / 2 ^ l.left))

abbrev pub decreases-loop-left : goal.decreases-loop-left
decreases-loop-left l = l.left
