-- The first half has as many bits as each half of its kind.
use Rattle.std.proofs.Common.{rules}
use Rattle.sheet_writer.proofs.Writing.{first_half}
use Rattle.sheet_writer.proofs.writer.drain_one.Goals as goal

pub returns-clause-moved : goal.returns-clause-moved
returns-clause-moved g c =
    let S = g.S.Source in
    let s = c.args.source.now in
    let long = first_half (S.owner s) c.args.kind (S.left s c.args.kind) (S.ranges s c.args.kind) c.requires.some in
    search rules
