-- Floors and remainders of integers; sums and products modulo a number; a number of w bits read back.
use Rattle.std.proofs.Common.{◌≡◌, ℕ, suc, ◌+◌, ◌-◌, ◌*◌, ◌/◌, ◌%◌, ◌^◌, ◌<◌, Bool, true, false, if◌then◌else◌, ℤ, pos, negsuc, ◌+ℤ◌, ◌-ℤ◌, ◌*ℤ◌, neg_ℤ, ◌≤ℤ◌, ◌<ℤ◌, sym, ap, ◌∙◌, mod-lt, mod-eq_of_lt, div-add-mod', div-le_self, arith}
use borrow.Author.Differences.{sum_is_lem, product_is}
use Rattle.std.proofs.lemmas.Int.{ints}
use Rattle.std.proofs.lemmas.Nat.{div-mul-add, mod-mul-add}
use Rattle.arithmetic.specs.Sign.{half, not_negative, signed}
use Rattle.arithmetic.specs.Division.{floor, remainder}
use Rattle.arithmetic.specs.Theorems.{FloorExact, FloorUnique, FloorFits}
use Rattle.arithmetic.proofs.Sign.{twice}

pub floor_exact : FloorExact
floor_exact (pos a) d h = omega (arith, ints, div-add-mod' a d, mod-lt a h)
floor_exact (negsuc a) d h = omega (arith, ints, div-add-mod' a d, mod-lt a h)

pub floor_unique : FloorUnique
floor_unique z (pos a) d r l e = (ap (λ x. floor x d) e ∙ ap pos (div-mul-add a d r l), ap (λ x. remainder x d) e ∙ mod-mul-add a d r l)
floor_unique z (negsuc a) d r l e =
    let f : z ≡ negsuc (a * d + (d - suc r)) = omega (arith, ints) in
    let m = mod-mul-add a d (d - suc r) (omega arith) in
    (ap (λ x. floor x d) f ∙ ap negsuc (div-mul-add a d (d - suc r) (omega arith)), ap (λ x. remainder x d) f ∙ (omega arith))

-- products with a natural number are linear
pub mul_sum : (a b : ℤ) (d : ℕ) → (a +ℤ b) *ℤ pos d ≡ a *ℤ pos d +ℤ b *ℤ pos d
mul_sum a b d = omega (arith, ints, ap (λ x. x * d) (sum_is_lem a b))

pub mul_neg : (a : ℤ) (d : ℕ) → neg_ℤ a *ℤ pos d ≡ neg_ℤ (a *ℤ pos d)
mul_neg a d = grind (arith, ints)

pub mul_mul : (a : ℤ) (m d : ℕ) → (a *ℤ pos m) *ℤ pos d ≡ a *ℤ pos (m * d)
mul_mul a m d = omega (arith, ints, ap (λ x. x * d) (product_is a (pos m)).0, ap (λ x. x * d) (product_is a (pos m)).1)

-- a sum modulo n, from its parts modulo n
pub remainder_sum : (x y : ℤ) (n : ℕ) → 0 < n → (remainder x n + remainder y n) % n ≡ remainder (x +ℤ y) n
remainder_sum x y n h =
    let fx = floor_exact x n h in
    let fy = floor_exact y n h in
    let m = remainder x n + remainder y n in
    let dm = div-add-mod' m n in
    sym (floor_unique (x +ℤ y) ((floor x n +ℤ floor y n) +ℤ pos (m / n)) n (m % n) (mod-lt m h) (rw (mul_sum, mul_sum) (omega (arith, ints)))).1

-- a number in range is read back from its remainder modulo 2^w
pub read_back : (w : ℕ) (z : ℤ) → 0 < w → neg_ℤ (pos (half w)) ≤ℤ z → z <ℤ pos (half w) → signed w (remainder z (2 ^ w)) ≡ z
read_back w (pos a) p lo hi =
    let t = twice w p in
    let l : a < 2 ^ w = omega (arith, ints) in
    let m = mod-eq_of_lt l in
    grind (arith, ints)
read_back w (negsuc a) p lo hi =
    let t = twice w p in
    let l : a < 2 ^ w = omega (arith, ints) in
    let m = mod-eq_of_lt l in
    grind (arith, ints)

floor_within : (z : ℤ) (m d : ℕ) → neg_ℤ (pos m) ≤ℤ z → z <ℤ pos m → (neg_ℤ (pos m) ≤ℤ floor z d) × (floor z d <ℤ pos m)
floor_within (pos a) m d lo hi = omega (arith, ints, div-le_self a d)
floor_within (negsuc a) m d lo hi = omega (arith, ints, div-le_self a d)

signed_within : (w v : ℕ) → 0 < w → v < 2 ^ w → (neg_ℤ (pos (half w)) ≤ℤ signed w v) × (signed w v <ℤ pos (half w))
signed_within w v p h = let t = twice w p in grind (arith, ints)

pub floor_fits : FloorFits
floor_fits w v d p h =
    let s = signed_within w v p h in
    let f = floor_within (signed w v) (half w) d s.0 s.1 in
    read_back w (floor (signed w v) d) p f.0 f.1

-- nothing is lost where a number of w bits is read as signed, or divided by 1
pub signed_back : (w v : ℕ) → v < 2 ^ w → remainder (signed w v) (2 ^ w) ≡ v
signed_back w v h = go (not_negative w v)
  where
    go : (b : Bool) → remainder (if b then pos v else pos v -ℤ pos (2 ^ w)) (2 ^ w) ≡ v
    go true = mod-eq_of_lt h
    go false = (floor_unique (pos v -ℤ pos (2 ^ w)) (negsuc 0) (2 ^ w) v h (omega (arith, ints))).1

pub floor_one : (z : ℤ) → floor z 1 ≡ z
floor_one z = (floor_unique z z 1 0 (omega arith) (omega (arith, ints))).0
