use Rattle.std.specs.Prelude.{◌≡◌, ◌+◌, [], ◌∷◌, ◌++◌, length}
use Rattle.std.proofs.Common.{sym, ap, ap₂, ◌∙◌, arith, lit<}
use Rattle.std.proofs.lemmas.List.FromFn.{length-map-range_with_len, map-range_with_len_more}
use Rattle.dealer.specs.Running.{step, run, top_bits, mask}
use Rattle.dealer.proofs.Steps.{run_more}
use Rattle.dealer.proofs.running.sender_half.Goals as goal

pub push-requires : goal.push-requires
push-requires c =
    let long = ap length c.loop.invariant.1 ∙ length-map-range_with_len (mask c.args.kind c.args.x) 0 c.loop.counter in
    let few = c.masks_and_blind-end.ensures.few in
    (lit< tt, omega arith)

pub loop-preserved : goal.loop-preserved
loop-preserved c =
    let i = c.loop.counter in
    let k = c.args.kind in
    let x = c.args.x in
    let ran : c.next-y.result ≡ run (i + 1) x = c.next-y.ensures ∙ ap step c.loop.invariant.0 ∙ sym (run_more i x) in
    let masked : c.top.result ≡ mask k x i = c.top.ensures ∙ ap₂ top_bits c.mask_size.ensures ran in (
      ran,
      c.push.ensures.items ∙ ap₂ (λ h w. h ++ (w ∷ [])) c.loop.invariant.1 masked ∙ sym (map-range_with_len_more (mask k x) 0 i i (omega arith)),
    )
