-- The comparison's two courses compute whether one number is below the other, and cost two lookups for each digit less one.
use Rattle.std.proofs.Common.{◌≡◌, ℕ, zero, suc, ◌+◌, ◌-◌, ◌/◌, ◌%◌, ◌^◌, ◌<◌, ◌≤◌, ◌⊎◌, List, [], ◌∷◌, ◌++◌, length, replicate, sym, refl, ap, ◌∙◌, subst, ap₂, inl, inr, append_assoc, append-nil, pow-suc, arith, length-append}
use Rattle.refusal.specs.declared.kind.Kind.TheVariants.{Bit}
use Rattle.arithmetic.specs.Comparison.{Pair, join, pair}
use Rattle.arithmetic.proofs.Comparison.{whole, join_neighbours, split_pair, digits_suffice}
use Rattle.refusal.specs.declared.seat.Seat.TheVariants.{Zero}
use Rattle.protocol.specs.Course.{AskIn, Computes, Follows, ends, looks}
use Rattle.protocol.proofs.Binding.{follows_same}
use Rattle.gadgets.specs.Shares.{SharedBit}
use Rattle.gadgets.specs.Comparison.{digit_table, join_table, join_index, joined_pair, onward, joins, gather, compare, comparison_price, ComparisonComputes, ComparisonFollows, ComparisonTallies}
use Rattle.gadgets.proofs.Bits.{from_truths}
use Rattle.gadgets.proofs.Pairs.{SharedPair, from_lookup, digit_below, digit_code, join_below, index_below, joined_shared, upper_shared}
use Rattle.gadgets.proofs.Prices.{tallies_bits}

-- two lists of shares, and the pairs that they open to
data Shared : List ℕ → List ℕ → List Pair → Type 0 where
  none : Shared [] [] []
  more : {a b : ℕ} {p : Pair} {xs ys : List ℕ} {ps : List Pair} → SharedPair a b p → Shared xs ys ps → Shared (a ∷ xs) (b ∷ ys) (p ∷ ps)

pushed : {a b : ℕ} {p : Pair} {xs ys : List ℕ} {ps : List Pair} → SharedPair a b p → Shared xs ys ps → Shared (xs ++ (a ∷ [])) (ys ++ (b ∷ [])) (ps ++ (p ∷ []))
pushed s none = more s none
pushed s (more t r) = more t (pushed s r)

same_length : {xs ys : List ℕ} {ps : List Pair} → Shared xs ys ps → length xs ≡ length ys
same_length none = refl
same_length (more s r) = ap suc (same_length r)

-- so many joins are left, and either a level begins or two pairs are left of it
record Settled (k : ℕ) (us ms : List ℕ) : Type 0 where
  count : k + 1 ≡ length us + length ms
  level : (length us ≡ 0) ⊎ (2 ≤ length ms)

begins : (k : ℕ) (ms : List ℕ) → k + 1 ≡ length ms → Settled k [] ms
begins k ms e = record { count = omega arith; level = inl refl }

join_asks : (high low : ℕ) → AskIn Bit (record { table = join_table high low; index = join_index high low })
join_asks high low = record { table_in = join_below high low; index_in = index_below high low }

digit_asks : (x : ℕ) → AskIn Bit (record { table = digit_table (x % 16); index = x % 16 })
digit_asks x = record { table_in = digit_below (x % 16); index_in = omega arith }

-- the shares share `less` of the pair w
abbrev Gives : Pair → ℕ → ℕ → Type 0
Gives w a b = SharedBit a b w.less

gives : {a b : ℕ} {p : Pair} → SharedPair a b p → Gives p (a / 2 % 2) (b / 2 % 2)
gives {p = p} s = let t = upper_shared s in rw (t.2, t.3) (from_truths t.0 t.1 p.less t.4)

abbrev Right : ℕ → Pair → Type 0
Right k w = (us vs : List ℕ) (zu : List Pair) (ms ns : List ℕ) (zm : List Pair) → Shared us vs zu → Shared ms ns zm → Settled k us ms → whole (zu ++ zm) ≡ w → Computes Zero (Gives w) (joins k us ms) (joins k vs ns)

onward_right : (k : ℕ) (w : Pair) → Right k w → {us vs : List ℕ} {zu : List Pair} {ms ns : List ℕ} {zm : List Pair} → Shared us vs zu → Shared ms ns zm → k + 1 ≡ length us + length ms → whole (zu ++ zm) ≡ w
    → Computes Zero (Gives w) (onward (joins k) us ms) (onward (joins k) vs ns)
onward_right k w go {us} {vs} {zu} su none c e = go [] [] [] us vs zu none su (begins k us (omega arith)) (ap whole (sym (append-nil zu)) ∙ e)
onward_right k w go {us} {vs} {zu} su (more {a} {b} {p} s none) c e =
    go [] [] [] (us ++ (a ∷ [])) (vs ++ (b ∷ [])) (zu ++ (p ∷ [])) none (pushed s su) (begins k (us ++ (a ∷ [])) (omega (arith, length-append us (a ∷ [])))) e
onward_right k w go su (more s (more t r)) c e = go _ _ _ _ _ _ su (more s (more t r)) (record { count = c; level = inr (omega arith) }) e

joins_right : (k : ℕ) {us vs : List ℕ} {zu : List Pair} {ms ns : List ℕ} {zm : List Pair} (w : Pair) → Shared us vs zu → Shared ms ns zm → Settled k us ms → whole (zu ++ zm) ≡ w
    → Computes Zero (Gives w) (joins k us ms) (joins k vs ns)
joins_right zero w none (more {a} {b} {p} t none) s e = ends (rw (← e) (gives t))
joins_right (suc k) {us} {vs} {zu} w su (more {a = low} {b = low'} {p = p} t (more {a = high} {b = high'} {p = q} {ps = ps} t' r)) s e =
    looks (join_asks high low) (join_asks high' low')
    (λ a b sh.
    onward_right k w (λ us₁ vs₁ zu₁ ms₁ ns₁ zm₁ a₁ b₁ c₁ d₁. joins_right k w a₁ b₁ c₁ d₁)
    (pushed (joined_shared a b t' t sh.near_in sh.far_in sh.joins) su) r
    (omega (arith, s.count, length-append us (joined_pair high a ∷ [])))
    (ap whole (append_assoc zu (join q p ∷ []) ps) ∙ join_neighbours zu p q ps ∙ e))
joins_right _ w _ _ s e = absurd (omega (arith, s.count, s.level))

gather_right : (n : ℕ) {xs ys : List ℕ} {ps : List Pair} (x y : ℕ) (w : Pair) → Shared xs ys ps → x < 16 ^ n → y < 16 ^ n → 0 < n + length xs → whole (ps ++ (pair x y ∷ [])) ≡ w
    → Computes Zero (Gives w) (gather n x xs) (gather n y ys)
gather_right zero {xs} {ys} {ps} x y w sh cx cy some e =
    let ex : x ≡ 0 = omega arith in
    let ey : y ≡ 0 = omega arith in
    let one : pair x y ≡ whole [] = ap₂ pair ex ey in
    let base : Computes Zero (Gives w) (joins (length xs - 1) [] xs) (joins (length xs - 1) [] ys) = joins_right (length xs - 1) w none sh (begins (length xs - 1) xs (omega arith)) (sym (whole_none ps) ∙ ap (λ d. whole (ps ++ (d ∷ []))) (sym one) ∙ e) in
    subst (λ l. Computes Zero (Gives w) (joins (length xs - 1) [] xs) (joins (l - 1) [] ys)) (same_length sh) base
  where
    whole_none : (ps : List Pair) → whole (ps ++ (whole [] ∷ [])) ≡ whole ps
    whole_none [] = refl
    whole_none (p ∷ ps) = ap (λ w. join w p) (whole_none ps)
gather_right (suc n) {xs} {ys} {ps} x y w sh cx cy some e =
    let m = pow-suc 16 n in
    looks (digit_asks x) (digit_asks y)
    (λ a b s.
    let h = pair (x / 16) (y / 16) in
    let l = pair (x % 16) (y % 16) in
    gather_right n (x / 16) (y / 16) w (pushed (from_lookup a b l s.near_in s.far_in (s.joins ∙ digit_code (x % 16) (y % 16))) sh) (omega arith) (omega arith) (omega (arith, length-append xs (a ∷ [])))
    (ap whole (append_assoc ps (l ∷ []) (h ∷ []))
    ∙ sym (join_neighbours ps l h [])
    ∙ ap (λ z. whole (ps ++ (z ∷ []))) (split_pair x y)
    ∙ e))

pub comparison_computes : ComparisonComputes
unfolding compare
comparison_computes v x y hv px py =
    gather_right ((v + 3) / 4) x y (pair x y) none (digits_suffice v x px) (digits_suffice v y py) (omega arith) refl

-- whatever the lookups give
abbrev Runs : ℕ → Type 0
Runs k = (us ms : List ℕ) → Settled k us ms → Follows (λ r. r < 2) (replicate k Bit) (joins k us ms)

onward_follows : (k : ℕ) → Runs k → (us ms : List ℕ) → k + 1 ≡ length us + length ms → Follows (λ r. r < 2) (replicate k Bit) (onward (joins k) us ms)
onward_follows k go us [] c = go [] us (begins k us (omega arith))
onward_follows k go us (a ∷ []) c = go [] (us ++ (a ∷ [])) (begins k (us ++ (a ∷ [])) (omega (arith, length-append us (a ∷ []))))
onward_follows k go us (a ∷ (b ∷ ms)) c = go us (a ∷ (b ∷ ms)) (record { count = c; level = inr (omega arith) })

joins_follows : (k : ℕ) (us ms : List ℕ) → Settled k us ms → Follows (λ r. r < 2) (replicate k Bit) (joins k us ms)
joins_follows zero us ms s = ends (omega arith)
joins_follows (suc k) us (low ∷ (high ∷ ms)) s =
    looks (join_asks high low)
    (λ u. onward_follows k (joins_follows k) (us ++ (joined_pair high u ∷ [])) ms (omega (arith, s.count, length-append us (joined_pair high u ∷ []))))
joins_follows (suc k) us _ s = absurd (omega (arith, s.count, s.level))

gather_follows : (n x : ℕ) (ps : List ℕ) → Follows (λ r. r < 2) (replicate (n + (n + length ps - 1)) Bit) (gather n x ps)
gather_follows zero x [] = ends (omega arith)
gather_follows zero x (p ∷ ps) =
    let k = length (p ∷ ps) - 1 in
    follows_same (ap (λ k. replicate k Bit) (omega arith)) (joins_follows k [] (p ∷ ps) (begins k (p ∷ ps) (omega arith)))
gather_follows (suc n) x ps =
    let e : suc (n + (n + length ps)) ≡ suc n + (suc n + length ps - 1) = omega arith in
    follows_same (ap (λ k. replicate k Bit) e)
    (looks (digit_asks x)
    (λ s. follows_same (ap (λ k. replicate k Bit) (omega (arith, length-append ps (s ∷ [])))) (gather_follows n (x / 16) (ps ++ (s ∷ [])))))

pub comparison_follows : ComparisonFollows
unfolding compare
comparison_follows v x = follows_same (ap (λ k. replicate k Bit) (omega arith)) (gather_follows ((v + 3) / 4) x [])

pub comparison_tallies : ComparisonTallies
comparison_tallies v = tallies_bits (comparison_price v)
