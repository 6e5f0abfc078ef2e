-- The flip, from the top bits and the shared sign.
use Rattle.std.proofs.Common.{◌≡◌, ℕ, ◌+◌, ◌/◌, ◌%◌, ◌^◌, ◌<◌, Bool, nat_lt, ◌∙◌, arith, bit_xor}
use Rattle.std.proofs.lemmas.Bool.{cond_both}
use Rattle.refusal.specs.declared.kind.Kind.TheVariants.{Ring0}
use Rattle.arithmetic.specs.Bits.{xor, bit}
use Rattle.arithmetic.specs.Sign.{top, shared_value, not_negative, flip_of, flip as flip_value}
use Rattle.arithmetic.specs.Division.{remainder}
use Rattle.protocol.specs.Course.{AskIn, ends, looks}
use Rattle.gadgets.specs.Sign.{top_of}
use Rattle.gadgets.specs.Flip.{flip_entry, flip_table, flip_index, FlipComputes, FlipFollows}
use Rattle.gadgets.proofs.Bits.{truths}
use Rattle.gadgets.proofs.Numbers.{from_ring}
use Rattle.gadgets.proofs.Sign.{top_is}

entry_below : (n g : ℕ) → flip_entry n g < 2 ^ 32
entry_below n g = grind arith

asks : (t g : ℕ) → AskIn Ring0 (record { table = flip_table t g; index = flip_index t g })
asks t g = record {
  table_in = λ k. cond_both (nat_lt k 4) _ _ (λ z. z < 2 ^ 32) (λ e. entry_below (t % 2 + k / 2) (bit_xor (g % 2) (k % 2))) (λ _. omega arith);
  index_in = omega arith;
}

entry_is : (x y g h : ℕ) (s t p q v : Bool) → x ≡ bit s → y ≡ bit t → g ≡ bit p → h ≡ bit q → xor p q ≡ v
    → flip_table x g (flip_index y h) ≡ remainder (flip_value s t v) (2 ^ 32)
entry_is x y g h s t p q v es et ep eq ev = rw (es, et, ep, eq, ← ev) (at s t p q)
  where
    at : (s t p q : Bool) → flip_table (bit s) (bit p) (flip_index (bit t) (bit q)) ≡ remainder (flip_value s t (xor p q)) (2 ^ 32)
    at s t p q = grind arith

pub flip_computes : FlipComputes
flip_computes w a b g h p ha hb s =
    let t = truths s in
    looks (asks (top_of w a) g) (asks (top_of w b) h)
    (λ x y sh. ends (from_ring x y (remainder (flip_of w a b) (2 ^ 32)) sh.near_in sh.far_in
    (sh.joins ∙ entry_is (top_of w a) (top_of w b) g h (top w a) (top w b) t.own_0 t.own_1 (not_negative w (shared_value w a b)) (top_is w a p ha) (top_is w b p hb) t.is_0 t.is_1 t.opens)))

pub flip_follows : FlipFollows
flip_follows t g = looks (asks t g) (λ s. ends (omega arith))
