-- Three lists one after the other: draining one leaves the others, and whose they are.
use Rattle.std.proofs.Common.{ap₂, ◌∙◌}
use Rattle.refusal.specs.declared.kind.Kind.TheVariants.{Ring0, Ring1}
use Rattle.refusal.proofs.Reading.{ring0_bit, ring1_bit, ring1_ring0}
use Rattle.sheets.specs.Layout.{field_size, list_bits}
use Rattle.sheet_writer.proofs.Strokes.{pushed_then, pushed_as}
use Rattle.sheet_writer.proofs.writer.write_halves.Goals as goal

pub returns-clause-pushed : goal.returns-clause-pushed
returns-clause-pushed g c =
    let first = c.drain.ensures in
    let second = c.drain-2.ensures in
    let third = c.drain-3.ensures in
    let ring0 = ap₂ (λ seat l. list_bits (field_size seat Ring0) l) first.owner (first.drained.others Ring0 ring0_bit) in
    let ring1 = ap₂ (λ seat l. list_bits (field_size seat Ring1) l) (second.owner ∙ first.owner) (second.drained.others Ring1 ring1_ring0 ∙ first.drained.others Ring1 ring1_bit) in
    pushed_then (pushed_then first.pushed (pushed_as ring0 second.pushed)) (pushed_as ring1 third.pushed)
