-- A half field by field.
use Rattle.std.proofs.Common.{◌++◌, get_or, take, sym, ap, ◌∙◌, arith}
use Rattle.refusal.specs.Seats.{number}
use Rattle.sheets.specs.Bits.{bits}
use Rattle.sheets.specs.Layout.{field_size, row_bits}
use Rattle.sheet_writer.proofs.Strokes.{pushed_then, pushed_as, row_more, row_room}
use Rattle.sheet_writer.proofs.pen.Pen.push_half.Goals as goal

pub push-requires-clause-room : goal.push-requires-clause-room
push-requires-clause-room c =
    let room = row_room (field_size (number c.args.seat) c.args.kind) c.loop-i.i c.args.half.now (omega arith) in
    let e = c.field_size.ensures.is ∙ ap (λ s. field_size s c.args.kind c.loop-i.i) c.from.ensures in
    omega arith

pub loop-i-preserved : goal.loop-i-preserved
loop-i-preserved c =
    let i = c.loop-i.i in
    let size = field_size (number c.args.seat) c.args.kind in
    let half = c.args.half.now in
    let front = row_bits size 0 (take i half) in
    pushed_as (ap (λ n. front ++ bits n (get_or half i 0)) (c.field_size.ensures.is ∙ ap (λ s. field_size s c.args.kind i) c.from.ensures) ∙ sym (row_more size i half (omega arith)))
    (pushed_then c.loop-i.invariant c.push.ensures)
