use Rattle.std.proofs.Common.{◌≡◌, ◌+◌, ◌*◌, arith}
use Rattle.sheets.specs.Bits.{bits_of, read}
use Rattle.sheets.specs.Places.{read_more, read_low_32}
use Rattle.sheets.proofs.layout.read.Goals as goal

pub loop-i-preserved : goal.loop-i-preserved
loop-i-preserved c =
    let s = c.args.sheet.now in
    let p = c.args.p in
    let i = c.loop-i.i in
    let e = read_more (bits_of s) p i in
    let h = read_low_32 s p (i + 1) (omega arith) in
    let w : 2 * c.loop-i.v + c.from.result ≡ read (bits_of s) p (i + 1) = cc in
    (w, omega arith)
