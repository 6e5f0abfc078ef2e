-- A shared bit becomes a shared number.
use Rattle.std.proofs.Common.{◌≡◌, ℕ, ◌%◌, ◌^◌, ◌<◌, Bool, nat_lt, ◌∙◌, arith}
use Rattle.std.proofs.lemmas.Bool.{cond_both, ltb-true}
use Rattle.refusal.specs.declared.kind.Kind.TheVariants.{Ring0}
use Rattle.arithmetic.specs.Bits.{xor, bit}
use Rattle.protocol.specs.Course.{AskIn, ends, looks}
use Rattle.gadgets.specs.Conversion.{conversion_table, ConversionComputes, ConversionFollows}
use Rattle.gadgets.proofs.Bits.{truths, xor_below, rest_below}
use Rattle.gadgets.proofs.Numbers.{from_ring}

asks : (b : ℕ) → AskIn Ring0 (record { table = conversion_table b; index = b % 2 })
asks b = record {
  table_in = λ k. cond_both (nat_lt k 2) _ _ (λ z. z < 2 ^ 32) (λ e. omega (arith, xor_below (b % 2) k (rest_below b) (ltb-true k 2 e))) (λ _. omega arith);
  index_in = omega arith;
}

entry_is : (a b : ℕ) (p q v : Bool) → a ≡ bit p → b ≡ bit q → xor p q ≡ v → conversion_table a (b % 2) ≡ bit v
entry_is a b p q v ep eq ev = rw (ep, eq, ← ev) (at p q)
  where
    at : (p q : Bool) → conversion_table (bit p) (bit q % 2) ≡ bit (xor p q)
    at p q = grind arith

pub conversion_computes : ConversionComputes
conversion_computes a b v s =
    let t = truths s in
    looks (asks a) (asks b)
    (λ x y sh. ends (from_ring x y (bit v) sh.near_in sh.far_in (sh.joins ∙ entry_is a b t.own_0 t.own_1 v t.is_0 t.is_1 t.opens)))

pub conversion_follows : ConversionFollows
conversion_follows b = looks (asks b) (λ s. ends (omega arith))
