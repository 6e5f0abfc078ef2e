-- The and of two shared bits by one lookup.
use Rattle.std.proofs.Common.{◌≡◌, ℕ, zero, suc, ◌*◌, ◌/◌, ◌%◌, ◌<◌, Bool, false, ◌&&◌, nat_lt, refl, ap, ◌∙◌, arith, bit_xor}
use Rattle.std.proofs.lemmas.Bool.{cond_both, ltb-true}
use Rattle.refusal.specs.declared.kind.Kind.TheVariants.{Bit}
use Rattle.arithmetic.specs.Bits.{xor, bit}
use Rattle.protocol.specs.Course.{AskIn, ends, looks}
use Rattle.gadgets.specs.Shares.{SharedBit}
use Rattle.gadgets.specs.And.{and_table, and_index, AndComputes, AndFollows, AndTallies}
use Rattle.gadgets.proofs.Bits.{truths, from_truths, xor_below, rest_below}
use Rattle.gadgets.proofs.Pairs.{code, both, code_equal, from_lookup}

times_below : (p q : ℕ) → p < 2 → q < 2 → p * q < 4
times_below zero q hp hq = omega arith
times_below (suc zero) q hp hq = omega arith
times_below _ q hp hq = absurd (omega arith)

asks : (x y : ℕ) → AskIn Bit (record { table = and_table x y; index = and_index x y })
asks x y = record {
  table_in = λ k. cond_both (nat_lt k 4) _ _ (λ z. z < 4) (λ e. let l : k < 4 = ltb-true k 4 e in times_below _ _ (xor_below (x % 2) (k / 2) (rest_below x) (omega arith)) (xor_below (y % 2) (k % 2) (rest_below y) (rest_below k))) (λ _. omega arith);
  index_in = omega arith;
}

-- as a pair of which only the lower bit counts
entry_is : (x x' y y' : ℕ) (p q r s u v : Bool) → x ≡ bit p → x' ≡ bit q → y ≡ bit r → y' ≡ bit s → xor p q ≡ u → xor r s ≡ v
    → and_table x y (and_index x' y') ≡ code (both false (u && v))
entry_is x x' y y' p q r s u v ep eq er es eu ev = rw (ep, eq, er, es, ← eu, ← ev) (at p q r s)
  where
    at : (p q r s : Bool) → and_table (bit p) (bit r) (and_index (bit q) (bit s)) ≡ code (both false (xor p q && xor r s))
    at p q r s = grind arith

shared : (a b : ℕ) (v : Bool) → a < 4 → b < 4 → bit_xor b a ≡ code (both false v) → SharedBit (a % 2) (b % 2) v
shared a b v ha hb e =
    let o = from_lookup a b (both false v) ha hb e in
    let f : a % 2 ≡ bit o.own_0.equal = ap (λ n. n % 2) o.is_0 ∙ code_equal o.own_0 in
    let g : b % 2 ≡ bit o.own_1.equal = ap (λ n. n % 2) o.is_1 ∙ code_equal o.own_1 in
    rw (f, g) (from_truths o.own_0.equal o.own_1.equal v (ap (λ p. p.equal) o.opens))

pub and_computes : AndComputes
and_computes x x' y y' u v sx sy =
    let tx = truths sx in
    let ty = truths sy in
    looks (asks x y) (asks x' y')
    (λ a b sh. ends (shared a b (u && v) sh.near_in sh.far_in
    (sh.joins ∙ entry_is x x' y y' tx.own_0 tx.own_1 ty.own_0 ty.own_1 u v tx.is_0 tx.is_1 ty.is_0 ty.is_1 tx.opens ty.opens)))

pub and_follows : AndFollows
and_follows x y = looks (asks x y) (λ s. ends (rest_below s))

pub and_tallies : AndTallies
and_tallies Bit = refl
and_tallies _ = refl
