-- A number of few bits more: it goes into the byte that is held, and a full byte is written.
use Rattle.std.proofs.Common.{◌≡◌, ℕ, ◌+◌, ◌*◌, ◌%◌, ◌^◌, ◌<◌, ◌≤◌, slice_set, refl, ap, subst, arith}
use Rattle.std.proofs.lemmas.Nat.{shl_whole}
use Rattle.sheet_writer.specs.declared.pen.Pen.{Pen}
use Rattle.sheet_writer.proofs.Strokes.{low_join, pushed_held, pushed_whole}
use Rattle.sheet_writer.proofs.pen.Pen.push_part.Goals as goal

-- the byte that is held loses no bit to the shift
shifted : (p : Pen) (size : ℕ) → p.filled + size ≤ 8 → p.current * 2 ^ size % 2 ^ 32 ≡ p.current * 2 ^ size
shifted p size fits = shl_whole p.current p.filled size 32 p.low (omega arith)

pub overflow_cast-self : goal.overflow_cast-self
overflow_cast-self c =
    let p = c.args.self.now in
    let small : p.current * 2 ^ c.args.size + c.args.part < 2 ^ 8 =
    subst (λ n. p.current * 2 ^ c.args.size + c.args.part < 2 ^ n) c.if-self-size-eq8.true (low_join p.filled c.args.size p.current c.args.part p.low c.requires.low) in
    let whole = shifted p c.args.size c.requires.fits in
    omega arith

pub returns-then-self-size-eq8 : goal.returns-then-self-size-eq8
returns-then-self-size-eq8 c =
    let p = c.args.self.now in
    pushed_whole p _ c.args.size c.args.part c.requires.low (omega arith) c.if-self-size-eq8.true
    (ap (λ x. slice_set p.bytes.now p.at (x + c.args.part)) (shifted p c.args.size c.requires.fits)) refl refl refl

pub returns-else-self-size-eq8 : goal.returns-else-self-size-eq8
returns-else-self-size-eq8 c =
    let p = c.args.self.now in
    pushed_held p _ c.args.size c.args.part c.requires.low refl refl refl (ap (λ x. x + c.args.part) (shifted p c.args.size c.requires.fits)) refl
