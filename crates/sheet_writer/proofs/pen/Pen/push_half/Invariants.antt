-- The first fields of the half are written.
use Rattle.std.proofs.Common.{take}
use Rattle.refusal.specs.Seats.{number}
use Rattle.sheets.specs.Layout.{field_size, row_bits}
use Rattle.sheet_writer.specs.Pens.{Pushed}
use Rattle.sheet_writer.proofs.pen.Pen.push_half.Given as goal

abbrev pub invariant-loop-i : goal.invariant-loop-i
invariant-loop-i l = Pushed l.initial.self l.self (row_bits (field_size (number l.seat) l.kind) 0 (take l.i l.half))
