use Rattle.std.proofs.Common.{sym}
use Rattle.refusal.specs.declared.kind.Kind.TheVariants.{Bit}
use Rattle.agree.specs.Conjunction.{Exchanged}
use Rattle.agree.proofs.Conjoining.{agreed}
use Rattle.agree.proofs.conjunction.conjoin.Goals as goal

pub returns : goal.returns
returns g c =
    let S = g.S.Source in
    let R = g.R.Source in
    let s = c.args.sender.now in
    let r = c.args.receiver.now in
    let a = c.args.a in
    let b = c.args.b in
    let sent = c.in_ok-sent.sent.items in
    let sought = c.in_ok-sought.sought.items in
    let took = c.in_ok-sent.ensures.takes in
    let took' = c.in_ok-sought.ensures.takes in
    let whole : Exchanged sent sought a b c.look_up.result = rw (sym c.as_slice.ensures.value, sym c.as_slice-2.ensures.value) c.look_up.ensures in
    agreed (S.left s) (S.left c.take-2.new.self) (R.left r) (R.left c.take.new.self) sent sought took.first took'.first took.others took'.others
    (S.owner s) (R.owner r) a b c.look_up.result (S.ranges s Bit) (R.ranges r Bit) whole
