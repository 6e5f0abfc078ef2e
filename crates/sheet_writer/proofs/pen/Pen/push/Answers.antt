-- A number part by part, the most significant first.
use Rattle.std.proofs.Common.{◌≡◌, ◌+◌, ◌-◌, ◌/◌, ◌%◌, ◌^◌, ◌<◌, ◌≤◌, ◌++◌, sym, ap₂, ◌∙◌, arith}
use Rattle.std.proofs.lemmas.Nat.{one_shl}
use Rattle.sheets.specs.Bits.{bits}
use Rattle.sheets.proofs.Reading.{length_bits}
use Rattle.sheet_writer.proofs.Strokes.{bits_first, pushed_then, pushed_as}
use Rattle.sheet_writer.proofs.pen.Pen.push.Goals as goal

pub push_part-requires-clause-room : goal.push_part-requires-clause-room
push_part-requires-clause-room c =
    let l = c.loop-left.left in
    let i = c.loop-left.invariant in
    let long = length_bits (c.args.n - l) (c.args.value / 2 ^ l) in
    let size : c.min-size.result ≤ l = omega arith in
    omega (arith, i.0, i.1.on, i.1.same_length)

pub loop-left-preserved : goal.loop-left-preserved
loop-left-preserved c =
    let n = c.args.n in
    let v = c.args.value in
    let size = c.min-size.result in
    let l = c.loop-left.left - size in
    let i = c.loop-left.invariant in
    let on : c.loop-left.left ≡ l + size = omega arith in
    let few : size < 32 = omega arith in
    let inside : l + size ≤ n = omega (arith, i.0) in (
      omega (arith, i.0),
      pushed_as (ap₂ (λ m q. bits (n - m) (v / 2 ^ m) ++ bits size (v / 2 ^ l % q)) on (one_shl size 32 few) ∙ sym (bits_first v n l size inside))
          (pushed_then i.1 c.push_part.ensures),
    )
