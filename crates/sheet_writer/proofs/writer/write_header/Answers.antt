-- Four numbers one after the other.
use Rattle.std.proofs.Common.{subst, ◌∙◌}
use Rattle.sheet_writer.specs.Pens.{Pushed}
use Rattle.sheet_writer.specs.Writing.{header_bits}
use Rattle.sheet_writer.proofs.Strokes.{pushed_then}
use Rattle.sheet_writer.proofs.writer.write_header.Goals as goal

pub returns : goal.returns
returns c =
    subst (λ seat. Pushed c.args.pen.now c.push-4.new.self (header_bits seat c.args.counts)) (c.from-2.ensures ∙ c.from.ensures)
    (pushed_then (pushed_then (pushed_then c.push.ensures c.push-2.ensures) c.push-3.ensures) c.push-4.ensures)
