-- A list of pairs means one pair, which no level changes; and that of a number's digits compares the number.
use Rattle.std.proofs.Common.{◌≡◌, ℕ, zero, suc, ◌+◌, ◌*◌, ◌/◌, ◌%◌, ◌^◌, ◌<◌, ◌≤◌, true, false, List, [], ◌∷◌, ◌++◌, length, refl, ap, ◌∙◌, pow-suc, arith, pow_mono, pow-add}
use Rattle.std.proofs.Math.Nat.{pow-zero}
use Rattle.std.proofs.lemmas.Bool.Decides.{nat_tests}
use Rattle.arithmetic.specs.Comparison.{Pair, join, level, levels, digits, pair, pairs}
use Rattle.arithmetic.specs.Theorems.{DigitsCompare, DigitsSuffice}

-- all pairs joined, the lowest first
abbrev pub whole : List Pair → Pair
whole [] = record { less = false; equal = true }
whole (p ∷ ps) = join (whole ps) p

join_assoc : (a b c : Pair) → join a (join b c) ≡ join (join a b) c
join_assoc a b c = grind arith

-- two neighbours may be joined, wherever they stand
pub join_neighbours : (ps : List Pair) (low high : Pair) (qs : List Pair) → whole (ps ++ (join high low ∷ qs)) ≡ whole (ps ++ (low ∷ (high ∷ qs)))
join_neighbours [] low high qs = join_assoc (whole qs) high low
join_neighbours (p ∷ ps) low high qs = ap (λ w. join w p) (join_neighbours ps low high qs)

level_whole : (ps : List Pair) → whole (level ps) ≡ whole ps
level_whole [] = refl
level_whole (p ∷ []) = refl
level_whole (p ∷ (q ∷ ps)) = ap (λ w. join w (join q p)) (level_whole ps) ∙ join_assoc (whole ps) q p

levels_whole : (n : ℕ) (ps : List Pair) → whole (levels n ps) ≡ whole ps
levels_whole zero ps = refl
levels_whole (suc n) ps = levels_whole n (level ps) ∙ level_whole ps

level_length : (ps : List Pair) → length (level ps) ≡ (length ps + 1) / 2
level_length [] = refl
level_length (p ∷ []) = refl
level_length (p ∷ (q ∷ ps)) = omega (arith, level_length ps)

levels_length : (n : ℕ) (ps : List Pair) → 0 < length ps → length ps ≤ suc n → length (levels n ps) ≡ 1
levels_length zero ps h k = omega arith
levels_length (suc n) ps h k =
    let e = level_length ps in
    levels_length n (level ps) (omega arith) (omega arith)

one_left : (ps : List Pair) (w : Pair) → length ps ≡ 1 → whole ps ≡ w → ps ≡ w ∷ []
one_left [] w l e = absurd (omega arith)
one_left (p ∷ []) w l e = ap (λ q. q ∷ []) e
one_left (p ∷ (q ∷ ps)) w l e = absurd (omega arith)

-- a number by its lowest digit and the rest
pub split_pair : (x y : ℕ) → join (pair (x / 16) (y / 16)) (pair (x % 16) (y % 16)) ≡ pair x y
split_pair x y = grind (arith, nat_tests)

digits_whole : (n x y : ℕ) → x < 16 ^ n → y < 16 ^ n → whole (pairs (digits n x) (digits n y)) ≡ pair x y
digits_whole zero x y h k = grind (arith, pow-zero 16)
digits_whole (suc n) x y h k =
    let e = pow-suc 16 n in
    ap (λ w. join w (pair (x % 16) (y % 16))) (digits_whole n (x / 16) (y / 16) (omega arith) (omega arith)) ∙ split_pair x y

pairs_length : (n x y : ℕ) → length (pairs (digits n x) (digits n y)) ≡ n
pairs_length zero x y = refl
pairs_length (suc n) x y = ap suc (pairs_length n (x / 16) (y / 16))

pub digits_compare : DigitsCompare
digits_compare n x y h k l =
    let ps = pairs (digits n x) (digits n y) in
    let len : length ps ≡ n = pairs_length n x y in
    one_left (levels n ps) (pair x y) (levels_length n ps (omega arith) (omega arith)) (levels_whole n ps ∙ digits_whole n x y k l)

sixteens : (k : ℕ) → 2 ^ (4 * k) ≡ 16 ^ k
sixteens zero = refl
sixteens (suc k) =
    let e : 4 * suc k ≡ 4 * k + 4 = omega arith in
    rw (e, pow-add 2 (4 * k) 4, sixteens k, pow-suc 16 k)

pub digits_suffice : DigitsSuffice
digits_suffice v x h =
    let m : 2 ^ v ≤ 2 ^ (4 * ((v + 3) / 4)) = pow_mono (omega arith) in
    omega (arith, sixteens ((v + 3) / 4))
