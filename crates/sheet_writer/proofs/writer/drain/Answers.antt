-- One half more of the list is written, and the rest is left.
use Rattle.std.proofs.Common.{◌++◌, get_or, [], take, drop, ap, ap₂, ◌∙◌, arith}
use Rattle.std.proofs.lemmas.List.{drop-drop}
use Rattle.sheets.specs.Layout.{half_size, field_size, row_bits, list_bits}
use Rattle.sheet_writer.proofs.Strokes.{pushed_then, pushed_as}
use Rattle.sheet_writer.proofs.Writing.{list_step}
use Rattle.sheet_writer.proofs.writer.drain.Goals as goal

pub loop-preserved : goal.loop-preserved
loop-preserved g c =
    let S = g.S.Source in
    let k = c.args.kind in
    let all = S.left c.args.source.now k in
    let size = field_size (S.owner c.args.source.now) k in
    let i = c.loop.counter in
    let so_far = c.loop.invariant in
    let one = c.drain_one.ensures in
    let same_size = ap (λ seat. half_size seat k) so_far.owner in
    record {
      pushed = pushed_as
          (ap₂ (λ seat l. list_bits size (take i all) ++ row_bits (field_size seat k) 0 (get_or l 0 [])) so_far.owner so_far.rest ∙ list_step size all i (omega arith))
          (pushed_then so_far.pushed one.pushed);
      moved = omega arith;
      rest = one.rest ∙ ap (drop 1) so_far.rest ∙ drop-drop 1 i all;
      others = λ j ne. one.others j ne ∙ so_far.others j ne;
      owner = one.owner ∙ so_far.owner;
    }
