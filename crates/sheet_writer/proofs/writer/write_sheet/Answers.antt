-- The header, the halves and the filling are the whole sheet.
use Rattle.std.proofs.Common.{◌+◌, ◌/◌, ◌<◌, ◌≤◌, length, rules, subst, arith}
use Rattle.refusal.proofs.Reading.{seat_low}
use Rattle.sheet_writer.specs.Pens.{Pushed}
use Rattle.sheet_writer.specs.Writing.{bits_needed, header_bits}
use Rattle.sheet_writer.proofs.Writing.{wrote}
use Rattle.sheet_writer.proofs.writer.write_sheet.Goals as goal

pub returns-clause-sheet : goal.returns-clause-sheet
returns-clause-sheet g c =
    let counts = c.in_ok-counts.counts in
    let halves = c.write_halves.ensures in
    -- the seat that the source gives is its owner
    let own = subst (λ seat. (seat < 2) × ((bits_needed seat counts + 7) / 8 ≤ length c.args.bytes.now) × Pushed c.new-pen.result c.write_header.new.pen (header_bits seat counts))
    c.seat-seat.ensures (seat_low c.seat-seat.result, (let e = c.bits_needed.ensures in omega arith), c.write_header.ensures) in
    wrote own.0 (g.S.Source.ranges c.args.source.now) c.in_ok-counts.ensures own.1 c.new-pen.ensures.fresh own.2 halves.pushed halves.moved c.finish.ensures (search rules) halves.empty
