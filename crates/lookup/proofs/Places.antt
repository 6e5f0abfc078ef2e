-- Sums and differences of places, counted round n of them.
use Rattle.std.proofs.Common.{◌≡◌, ℕ, ◌+◌, ◌-◌, ◌%◌, ◌<◌, ◌≤◌, cond, ltb, ◌⊎◌, ◌∙◌, inl, inr, mod-eq_of_lt, arith}
use native.Mathlib.Nat.{mod-eq-sub-mod}
use native.Mathlib.Decide.{dec_lt}
use Rattle.std.proofs.lemmas.Bool.Decides.{nat_tests}
use Rattle.lookup.specs.Lookup.{minus}
use Rattle.lookup.specs.Theorems.{PlacesGoRound}

-- (a + b) mod n, for places a and b below n
abbrev pub plus : ℕ → ℕ → ℕ → ℕ
plus n a b = cond (ltb (a + b) n) (a + b) (a + b - n)

pub minus_below : (n a b : ℕ) → a < n → minus n a b < n
minus_below n a b h = grind (arith, nat_tests)

pub plus_below : (n a b : ℕ) → a < n → b < n → plus n a b < n
plus_below n a b ha hb = grind (arith, nat_tests)

pub minus_minus : (n a b : ℕ) → a < n → b < n → minus n a (minus n a b) ≡ b
minus_minus n a b ha hb = grind (arith, nat_tests)

pub plus_minus : (n a b : ℕ) → a < n → b < n → plus n (minus n a b) b ≡ a
plus_minus n a b ha hb = grind (arith, nat_tests)

pub minus_plus : (n a b : ℕ) → a < n → b < n → minus n (plus n a b) b ≡ a
minus_plus n a b ha hb = grind (arith, nat_tests)

pub plus_request : (n y c : ℕ) → y < n → c < n → plus n c (minus n y c) ≡ y
plus_request n y c hy hc = grind (arith, nat_tests)

-- what is left over n of a number below twice n
rest_cases : (n a : ℕ) → a < n + n → ((a < n) × (a % n ≡ a)) ⊎ ((n ≤ a) × (a % n ≡ a - n))
rest_cases n a h = go (dec_lt a n)
  where
    go : Dec (a < n) → ((a < n) × (a % n ≡ a)) ⊎ ((n ≤ a) × (a % n ≡ a - n))
    go (yes l) = inl (l, mod-eq_of_lt l)
    go (no l) = let k : n ≤ a = omega arith in let s : a - n < n = omega arith in inr (k, mod-eq-sub-mod k ∙ mod-eq_of_lt s)

plus_is_modular : (n a b : ℕ) → a < n → b < n → (a + b) % n ≡ plus n a b
plus_is_modular n a b ha hb = let cases = rest_cases n (a + b) (omega arith) in grind (arith, nat_tests)

pub places_go_round : PlacesGoRound
places_go_round n a b ha hb =
    let below = minus_below n a b ha in
    (below, plus_is_modular n (minus n a b) b below hb ∙ plus_minus n a b ha hb)
