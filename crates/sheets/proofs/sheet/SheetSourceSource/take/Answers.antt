use Rattle.std.specs.Prelude.{◌<◌}
use Rattle.std.proofs.Common.{arith}
use Rattle.sheets.specs.Bits.{bits_of}
use Rattle.sheets.specs.Sheets.{sheet_owner, sheet_have}
use Rattle.sheets.proofs.Sizes.{half_some}
use Rattle.sheets.proofs.Moving.{length_halves, sheet_took}
use Rattle.refusal.specs.PerKinds.{at}
use Rattle.sheets.proofs.sheet.SheetSourceSource.take.Goals as goal

pub returns-clause-takes : goal.returns-clause-takes
returns-clause-takes c =
    let s = c.args.self.now in
    let seat = sheet_owner s in
    let k = c.args.kind in
    let some : 0 < sheet_have s k = omega (arith, c.in_ok-check.ensures, length_halves (bits_of s.sheet.now) seat k (sheet_have s k) (at s.marks k)) in
    rw (c.read_half-half.ensures, c.move_on.ensures, c.get.ensures) (sheet_took (bits_of s.sheet.now) seat k s.marks s.ends (half_some seat k) some)
