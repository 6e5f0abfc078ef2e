-- Pairs as numbers below 4, shares of a pair, and the join of two shared pairs by one lookup.
use Rattle.std.proofs.Common.{◌≡◌, ℕ, zero, suc, ◌+◌, ◌*◌, ◌/◌, ◌%◌, ◌<◌, Bool, true, false, if◌then◌else◌, ◌&&◌, ◌==◌, nat_lt, sym, refl, ap, ◌∙◌, ap₂, arith, bit_xor}
use Rattle.std.proofs.lemmas.Bool.{cond_both}
use Rattle.std.proofs.lemmas.Bool.Decides.{nat_tests}
use Rattle.arithmetic.specs.Bits.{xor, bit}
use Rattle.arithmetic.specs.Comparison.{Pair, join, pair}
use Rattle.gadgets.specs.Comparison.{digit_table, join_table, join_index, joined_pair}
use Rattle.gadgets.proofs.Bits.{bit_of_xor, xor_below}

abbrev pub code : Pair → ℕ
code p = 2 * bit p.less + bit p.equal

abbrev pub both : Bool → Bool → Pair
both l e = record { less = l; equal = e }

-- the pair that two shares of it open to
abbrev pub opened : Pair → Pair → Pair
opened p q = both (xor p.less q.less) (xor p.equal q.equal)

pair_of : (a : ℕ) → a < 4 → (p : Pair) × (a ≡ code p)
pair_of zero h = (both false false, refl)
pair_of (suc zero) h = (both false true, refl)
pair_of (suc (suc zero)) h = (both true false, refl)
pair_of (suc (suc (suc zero))) h = (both true true, refl)
pair_of (suc (suc (suc (suc a)))) h = absurd (omega arith)

code_less : (p : Pair) → code p / 2 % 2 ≡ bit p.less
code_less p = grind arith

pub code_equal : (p : Pair) → code p % 2 ≡ bit p.equal
code_equal p = grind arith

code_only : (p q : Pair) → code p ≡ code q → p ≡ q
code_only p q e = grind arith

code_xor : (p q : Pair) → bit_xor (code p) (code q) ≡ code (opened p q)
code_xor p q = grind arith

-- a of seat 0 and b of seat 1 share the pair p
pub record SharedPair (a b : ℕ) (p : Pair) : Type 0 where
  pub own_0 : Pair
  pub own_1 : Pair
  pub is_0 : a ≡ code own_0
  pub is_1 : b ≡ code own_1
  pub opens : opened own_0 own_1 ≡ p

-- what a lookup of bits gives: seat 1's share with seat 0's is the code of p
pub from_lookup : (a b : ℕ) (p : Pair) → a < 4 → b < 4 → bit_xor b a ≡ code p → SharedPair a b p
from_lookup a b p ha hb e =
    let x = pair_of a ha in
    let y = pair_of b hb in
    let f : code (opened y.0 x.0) ≡ code p = sym (code_xor y.0 x.0) ∙ sym (ap₂ bit_xor y.1 x.1) ∙ e in
    record { own_0 = x.0; own_1 = y.0; is_0 = x.1; is_1 = y.1; opens = turned x.0 y.0 ∙ code_only (opened y.0 x.0) p f }
  where
    turned : (p q : Pair) → opened p q ≡ opened q p
    turned p q = grind arith

pub digit_below : (x k : ℕ) → digit_table x k < 4
digit_below x k = grind arith

pub digit_code : (x y : ℕ) → digit_table x y ≡ code (pair x y)
digit_code x y = grind (arith, nat_tests)

pub join_below : (high low k : ℕ) → join_table high low k < 4
join_below high low k =
    cond_both (nat_lt k 8 && bit_xor (high % 2) (k / 4) == 1) _ _ (λ z. z < 4) (λ e. omega (arith, xor_below (low / 2 % 2) (k / 2 % 2) (omega arith) (omega arith), xor_below (low % 2) (k % 2) (omega arith) (omega arith))) (λ _. omega arith)

pub index_below : (high low : ℕ) → join_index high low < 16
index_below high low = omega arith

-- the two products of a join
abbrev products : Pair → Pair → Pair
products high low = both (high.equal && low.less) (high.equal && low.equal)

join_entry : (x y u v : Pair) → join_table (code x) (code u) (join_index (code y) (code v)) ≡ code (products (opened x y) (opened u v))
join_entry x y u v =
    rw (code_equal x, code_equal y, code_less u, code_less v, code_equal u, code_equal v) (at x.equal y.equal u.less v.less u.equal v.equal)
  where
    index_bits : (s l t : Bool) → (nat_lt (4 * bit s + 2 * bit l + bit t) 8 ≡ true) × ((4 * bit s + 2 * bit l + bit t) / 4 ≡ bit s) × ((4 * bit s + 2 * bit l + bit t) / 2 % 2 ≡ bit l) × ((4 * bit s + 2 * bit l + bit t) % 2 ≡ bit t)
    index_bits s l t = grind arith

    three : (a b c : Bool) → (if true && bit a == 1 then 2 * bit b + bit c else 0) ≡ code (both (a && b) (a && c))
    three a b c = grind arith

    at : (h i l j m k : Bool) → (if nat_lt (4 * bit i + 2 * bit j + bit k) 8 && bit_xor (bit h) ((4 * bit i + 2 * bit j + bit k) / 4) == 1 then 2 * bit_xor (bit l) ((4 * bit i + 2 * bit j + bit k) / 2 % 2) + bit_xor (bit m) ((4 * bit i + 2 * bit j + bit k) % 2) else 0)
        ≡ code (both (xor h i && xor l j) (xor h i && xor m k))
    at h i l j m k =
        let b = index_bits i j k in
        rw (b.0, b.1, b.2, b.3, bit_of_xor h i, bit_of_xor l j, bit_of_xor m k) (three (xor h i) (xor l j) (xor m k))

joined_code : (z x : Pair) → joined_pair (code x) (code z) ≡ code (both (xor z.less x.less) z.equal)
joined_code z x = grind arith

joined_opens : (x y u v z t : Pair) → opened z t ≡ products (opened x y) (opened u v)
    → opened (both (xor z.less x.less) z.equal) (both (xor t.less y.less) t.equal) ≡ join (opened x y) (opened u v)
joined_opens x y u v z t e = grind arith

joined_from : {h h' a b : ℕ} (x y u v : Pair) → h ≡ code x → h' ≡ code y → SharedPair a b (products (opened x y) (opened u v))
    → SharedPair (joined_pair h a) (joined_pair h' b) (join (opened x y) (opened u v))
joined_from x y u v e e' s = record {
  own_0 = both (xor s.own_0.less x.less) s.own_0.equal;
  own_1 = both (xor s.own_1.less y.less) s.own_1.equal;
  is_0 = ap₂ joined_pair e s.is_0 ∙ joined_code s.own_0 x;
  is_1 = ap₂ joined_pair e' s.is_1 ∙ joined_code s.own_1 y;
  opens = joined_opens x y u v s.own_0 s.own_1 s.opens;
}

-- the join of two shared pairs, from the shares that the lookup gives
pub joined_shared : {h h' l l' : ℕ} {p q : Pair} (a b : ℕ) → SharedPair h h' p → SharedPair l l' q → a < 4 → b < 4 → bit_xor b a ≡ join_table h l (join_index h' l')
    → SharedPair (joined_pair h a) (joined_pair h' b) (join p q)
joined_shared {h} {h'} {l} {l'} a b f g ha hb e =
    let entry : join_table h l (join_index h' l') ≡ code (products (opened f.own_0 f.own_1) (opened g.own_0 g.own_1))
    = rw (f.is_0, f.is_1, g.is_0, g.is_1) (join_entry f.own_0 f.own_1 g.own_0 g.own_1) in
    rw (← f.opens, ← g.opens)
    (joined_from f.own_0 f.own_1 g.own_0 g.own_1 f.is_0 f.is_1
    (from_lookup a b (products (opened f.own_0 f.own_1) (opened g.own_0 g.own_1)) ha hb (e ∙ entry)))

-- the upper bits of two shares share `less`
pub upper_shared : {a b : ℕ} {p : Pair} → SharedPair a b p → (x : Bool) × (y : Bool) × (a / 2 % 2 ≡ bit x) × (b / 2 % 2 ≡ bit y) × (xor x y ≡ p.less)
upper_shared s = (s.own_0.less, s.own_1.less, ap (λ n. n / 2 % 2) s.is_0 ∙ code_less s.own_0, ap (λ n. n / 2 % 2) s.is_1 ∙ code_less s.own_1, ap (λ q. q.less) s.opens)
