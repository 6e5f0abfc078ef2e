use Rattle.std.specs.Prelude.{◌+◌, ◌-◌, ◌<◌, ◌++◌}
use Rattle.std.proofs.Common.{ap, ◌∙◌, arith}
use Rattle.sources.specs.Halves.{width}
use Rattle.sheets.specs.Bits.{bits_of, read}
use Rattle.sheets.specs.Layout.{field_size, row_at}
use Rattle.sheets.proofs.Sizes.{row_step}
use Rattle.sheets.proofs.layout.read_half.Goals as goal

pub loop-i-preserved : goal.loop-i-preserved
loop-i-preserved c =
    let seat = c.from-seat.result in
    let n = width seat c.args.kind in
    let size = field_size seat c.args.kind in
    let bs = bits_of c.args.sheet.now in
    let i = c.loop-i.i in
    let below : i < n = omega (arith, c.width-i-end.ensures.is) in
    let most = c.field_size-size.ensures.most in (
      ap (λ xs. xs ++ row_at bs size (c.loop-i.at + c.field_size-size.result) (i + 1) (n - (i + 1))) c.push.ensures.items
          ∙ row_step bs size c.loop-i.half.items c.loop-i.at (c.loop-i.at + c.field_size-size.result) i n c.read.result below
          (c.read.ensures.is ∙ ap (read bs c.loop-i.at) c.field_size-size.ensures.is) (ap (λ m. c.loop-i.at + m) c.field_size-size.ensures.is)
          ∙ c.loop-i.invariant.0,
      omega arith,
      c.push.ensures.len ∙ ap (λ m. m + 1) c.loop-i.invariant.2,
    )
