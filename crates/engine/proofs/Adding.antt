-- What is done to each party's share alone: handing in, sums, differences, multiples.
use Rattle.std.proofs.Common.{◌≡◌, ℕ, ◌+◌, ◌-◌, ◌*◌, ◌%◌, ◌^◌, ◌<◌, sym, ap, ◌∙◌, ap₂, inl, inr, mod-lt, add-mul, arith, pow_pos}
use Rattle.std.proofs.Math.Nat.{add-mod, mod-mod, add-mod_left}
use Rattle.std.proofs.lemmas.Nat.{mul-mod_first}
use Rattle.arithmetic.proofs.Sign.{below_two}
use Rattle.gadgets.specs.Shares.{SharedNumber}

mix : (a b c d : ℕ) → (a + b) + (c + d) ≡ (a + c) + (b + d)
mix a b c d = omega arith

pub lodged : (w m n : ℕ) → SharedNumber w (m % 2 ^ w) (n % 2 ^ w) ((m + n) % 2 ^ w)
lodged w m n = record { below_0 = mod-lt m (pow_pos w); below_1 = mod-lt n (pow_pos w); adds = sym (add-mod m n (2 ^ w)) }

pub added : (w x0 x1 y0 y1 v u : ℕ) → SharedNumber w x0 x1 v → SharedNumber w y0 y1 u → SharedNumber w ((x0 + y0) % 2 ^ w) ((x1 + y1) % 2 ^ w) ((v + u) % 2 ^ w)
added w x0 x1 y0 y1 v u s t = record {
  below_0 = mod-lt (x0 + y0) (pow_pos w);
  below_1 = mod-lt (x1 + y1) (pow_pos w);
  adds = sym (add-mod (x0 + y0) (x1 + y1) (2 ^ w)) ∙ ap (λ n. n % 2 ^ w) (mix x0 y0 x1 y1) ∙ add-mod (x0 + x1) (y0 + y1) (2 ^ w) ∙ ap₂ (λ m n. (m + n) % 2 ^ w) s.adds t.adds;
}

-- the two complements share the complement
complements : (n y0 y1 u : ℕ) → y0 < n → y1 < n → (y0 + y1) % n ≡ u → ((n - y0) + (n - y1)) % n ≡ (n - u) % n
complements n y0 y1 u h0 h1 e =
    elim (below_two n (y0 + y1) (omega arith)) [
      | inl c ↦ let g : (n - y0) + (n - y1) ≡ n + (n - u) = omega arith in ap (λ z. z % n) g ∙ add-mod_left n (n - u)
      | inr c ↦ let g : (n - y0) + (n - y1) ≡ n - u = omega arith in ap (λ z. z % n) g
    ]

pub subtracted : (w x0 x1 y0 y1 v u : ℕ) → SharedNumber w x0 x1 v → SharedNumber w y0 y1 u →
    SharedNumber w ((x0 + (2 ^ w - y0)) % 2 ^ w) ((x1 + (2 ^ w - y1)) % 2 ^ w) ((v + (2 ^ w - u)) % 2 ^ w)
subtracted w x0 x1 y0 y1 v u s t = record {
  below_0 = mod-lt (x0 + (2 ^ w - y0)) (pow_pos w);
  below_1 = mod-lt (x1 + (2 ^ w - y1)) (pow_pos w);
  adds = sym (add-mod (x0 + (2 ^ w - y0)) (x1 + (2 ^ w - y1)) (2 ^ w)) ∙ ap (λ n. n % 2 ^ w) (mix x0 (2 ^ w - y0) x1 (2 ^ w - y1)) ∙ add-mod (x0 + x1) ((2 ^ w - y0) + (2 ^ w - y1)) (2 ^ w)
      ∙ ap₂ (λ m n. (m + n) % 2 ^ w) (sym (mod-mod (x0 + x1) (2 ^ w)) ∙ ap (λ z. z % 2 ^ w) s.adds) (complements (2 ^ w) y0 y1 u t.below_0 t.below_1 t.adds)
      ∙ sym (add-mod v (2 ^ w - u) (2 ^ w));
}

pub scaled : (w x0 x1 v k : ℕ) → SharedNumber w x0 x1 v → SharedNumber w (x0 * k % 2 ^ w) (x1 * k % 2 ^ w) (v * k % 2 ^ w)
scaled w x0 x1 v k s = record {
  below_0 = mod-lt (x0 * k) (pow_pos w);
  below_1 = mod-lt (x1 * k) (pow_pos w);
  adds = sym (add-mod (x0 * k) (x1 * k) (2 ^ w)) ∙ ap (λ z. z % 2 ^ w) (sym (add-mul x0 x1 k)) ∙ sym (mul-mod_first (x0 + x1) k (2 ^ w)) ∙ ap (λ z. z * k % 2 ^ w) s.adds;
}
