-- The halves so far stand written, and the others are left.
use Rattle.std.proofs.Common.{◌≡◌, ◌+◌, ◌*◌, take, drop}
use Rattle.refusal.specs.declared.kind.Kind.{Kind}
use Rattle.sheets.specs.Layout.{half_size, field_size, list_bits}
use Rattle.sheet_writer.specs.Pens.{place, Pushed}
use Rattle.sheet_writer.proofs.writer.drain.Given as goal

abbrev pub invariant-loop : goal.invariant-loop
invariant-loop g l =
    let S = g.S.Source in
    let seat = S.owner l.initial.source in
    let all = S.left l.initial.source in
    record {
      pushed : Pushed l.initial.pen l.pen (list_bits (field_size seat l.kind) (take l.counter (all l.kind)));
      moved : place l.pen ≡ place l.initial.pen + l.counter * half_size seat l.kind;
      rest : S.left l.source l.kind ≡ drop l.counter (all l.kind);
      others : (j : Kind) → (j ≡ l.kind → ⊥) → S.left l.source j ≡ all j;
      owner : S.owner l.source ≡ seat;
    }
