-- Tallies of lists that are put together.
use Rattle.std.proofs.Common.{◌≡◌, ℕ, zero, suc, ◌+◌, List, [], ◌∷◌, ◌++◌, replicate, sym, refl, ap, ◌∙◌, ap₂, arith}
use Rattle.refusal.specs.declared.kind.Kind.{Kind}
use Rattle.refusal.specs.declared.kind.Kind.TheVariants.{Bit, Ring0, Ring1}
use Rattle.refusal.specs.Kinds.{on}
use Rattle.protocol.specs.Course.{tally}
use Rattle.protocol.proofs.Supplies.{on_plus}
use Rattle.gadgets.specs.Prices.{prices, Tallies}

pub tally_append : (ks js : List Kind) (k : Kind) → tally (ks ++ js) k ≡ tally ks k + tally js k
tally_append [] js k = omega arith
tally_append (j ∷ ks) js k = ap (on j k suc) (tally_append ks js k) ∙ sym (on_plus j k (tally ks k) (tally js k))

pub tallies_append : (ks js : List Kind) {b x y b' x' y' : ℕ} → Tallies ks (prices b x y) → Tallies js (prices b' x' y') → Tallies (ks ++ js) (prices (b + b') (x + x') (y + y'))
tallies_append ks js {b} {x} {y} {b'} {x'} {y'} t u k = tally_append ks js k ∙ ap₂ ◌+◌ (t k) (u k) ∙ sums k
  where
    sums : (k : Kind) → prices b x y k + prices b' x' y' k ≡ prices (b + b') (x + x') (y + y') k
    sums Bit = refl
    sums Ring0 = refl
    sums Ring1 = refl

pub tallies_none : Tallies [] (prices 0 0 0)
tallies_none Bit = refl
tallies_none _ = refl

pub tallies_ring : Tallies (Ring0 ∷ []) (prices 0 1 0)
tallies_ring Ring0 = refl
tallies_ring Bit = refl
tallies_ring Ring1 = refl

pub tallies_bits : (n : ℕ) → Tallies (replicate n Bit) (prices n 0 0)
tallies_bits zero k = tallies_none k
tallies_bits (suc n) Bit = ap suc (tallies_bits n Bit)
tallies_bits (suc n) k = tallies_bits n k
