-- The receipts that the ideal functionality answers add up to the prices of what it accepted.
use Rattle.std.proofs.Common.{◌≡◌, ℕ, ◌+◌, List, [], ◌∷◌, refl, ap, ◌∙◌, sum_by, arith, Ok, Err}
use Rattle.std.proofs.lemmas.List.Sums.{sum_by-cons}
use Rattle.refusal.specs.declared.seat.Seat.{Seat}
use Rattle.refusal.specs.declared.seat.Seat.TheVariants.{Zero, One}
use Rattle.protocol.specs.Certificate.{steps}
use Rattle.engine.specs.declared.command.Command.{Command}
use Rattle.engine.specs.declared.command.Numbers.{Numbers}
use Rattle.engine.specs.declared.command.Receipt.{Receipt}
use Rattle.engine.specs.State.{Answer, receipt, receipt_count}
use Rattle.engine.specs.Judge.{Verdict, judge}
use Rattle.engine.specs.Ideal.{Ideal, Meaning, opens, meaning, reveals, carried_out, ruled, step, charged, bill_by}

-- what receipts count for, in any way of counting them
module _ (n : Receipt → ℕ) where
  abbrev total : List Answer → ℕ
  total log = sum_by (receipt_count n) log

  -- a value that is opened is no receipt
  reveals_total : (g f : Seat) (v : ℕ) (log : Seat → List Answer) → total (reveals g v log f) ≡ total (log f)
  reveals_total Zero Zero v log = refl
  reveals_total One One v log = refl
  reveals_total _ _ v log = refl

  out_total : (f : Seat) (q : Receipt) (w : Ideal) (m : Meaning) → total ((carried_out q w m).log f) ≡ n q + total (w.log f)
  out_total f q w (opens g v) = sum_by-cons (receipt_count n) (receipt q) (reveals g v w.log f) ∙ ap (λ m. n q + m) (reveals_total g f v w.log)
  out_total f q w _ = sum_by-cons (receipt_count n) (receipt q) (w.log f)

  ruled_total : (f : Seat) (c : Command Numbers) (w : Ideal) (v : Verdict) → total ((ruled c w v).log f) ≡ charged n v + total (w.log f)
  ruled_total f c w (Err r) = omega arith
  ruled_total f c w (Ok q) = out_total f q w (meaning c w)

  pub bill_is : (f : Seat) (cs : List (Command Numbers)) (w : Ideal) → total ((steps step cs w).log f) ≡ bill_by n cs w + total (w.log f)
  bill_is f [] w = omega arith
  bill_is f (c ∷ cs) w = omega (arith, bill_is f cs (step c w), ruled_total f c w (judge c w.public))
