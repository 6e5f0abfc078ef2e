-- The last byte is filled with zero bits.
use Rattle.sheet_writer.proofs.Strokes.{finished}
use Rattle.sheet_writer.proofs.pen.Pen.finish.Goals as goal

pub returns : goal.returns
returns c = finished c.push.ensures
