-- The bits of bytes by their places.
use Rattle.std.specs.Prelude.{◌≡◌, ℕ, zero, suc, ◌+◌, ◌-◌, ◌*◌, ◌/◌, ◌%◌, ◌^◌, ◌<◌, ◌≤◌, List, [], ◌∷◌, ◌++◌, length, slice_index, refl}
use Rattle.std.proofs.Common.{sym, ap, subst, ◌∙◌, mod-lt, add-one, arith, lit<, pow_mono}
use Rattle.std.proofs.Math.Decide.{dec_lt}
use Rattle.std.proofs.lemmas.Nat.{pow-add}
use Rattle.std.proofs.lemmas.List.{get_or_append_left, get_or-append-add, get_or_past}
use Rattle.sheets.specs.Bits.{bits, bits_of, read}

-- one bit of a byte
byte_bit : (b i : ℕ) → i < 8 → slice_index (bits 8 b) i ≡ b / 2 ^ (7 - i) % 2
byte_bit b zero h = refl
byte_bit b (suc zero) h = refl
byte_bit b (suc (suc zero)) h = refl
byte_bit b (suc (suc (suc zero))) h = refl
byte_bit b (suc (suc (suc (suc zero)))) h = refl
byte_bit b (suc (suc (suc (suc (suc zero))))) h = refl
byte_bit b (suc (suc (suc (suc (suc (suc zero)))))) h = refl
byte_bit b (suc (suc (suc (suc (suc (suc (suc zero))))))) h = refl
byte_bit b (suc (suc (suc (suc (suc (suc (suc (suc i)))))))) h = absurd (omega arith)

-- the bit with number r of the byte with number q
bit_place : (bs : List ℕ) (q r : ℕ) → r < 8 → q < length bs → slice_index (bits_of bs) (8 * q + r) ≡ slice_index bs q / 2 ^ (7 - r) % 2
bit_place [] q r h l = absurd (omega arith)
bit_place (b ∷ bs) zero r h l =
    let e : 8 * 0 + r ≡ r = omega arith in
    ap (λ i. slice_index (bits 8 b ++ bits_of bs) i) e ∙ get_or_append_left (bits 8 b) (bits_of bs) 0 r h ∙ byte_bit b r h
bit_place (b ∷ bs) (suc q) r h l =
    let e : 8 * suc q + r ≡ 8 + (8 * q + r) = omega arith in
    ap (λ i. slice_index (bits 8 b ++ bits_of bs) i) e ∙ get_or-append-add (bits 8 b) (bits_of bs) (8 * q + r) 0 ∙ bit_place bs q r h (omega arith)

pub bits_of_long : (bs : List ℕ) → length (bits_of bs) ≡ 8 * length bs
bits_of_long [] = refl
bits_of_long (b ∷ bs) = let e = bits_of_long bs in omega arith

-- the bit at a place, as the code reads it
pub bit_at : (bs : List ℕ) (i : ℕ) → i / 8 < length bs → slice_index (bits_of bs) i ≡ slice_index bs (i / 8) / 2 ^ (7 - i % 8) % 2
bit_at bs i l =
    let e : i ≡ 8 * (i / 8) + i % 8 = omega arith in
    ap (λ j. slice_index (bits_of bs) j) e ∙ bit_place bs (i / 8) (i % 8) (mod-lt i (lit< tt)) l

pub bit_past : (bs : List ℕ) (i : ℕ) → length bs ≤ i / 8 → slice_index (bits_of bs) i ≡ 0
bit_past bs i l = let long = bits_of_long bs in get_or_past (bits_of bs) i 0 (omega arith)

-- a bit past the end is 0, and each bit is below 2
pub bit_low : (bs : List ℕ) (i : ℕ) → slice_index (bits_of bs) i < 2
bit_low bs i = elim (dec_lt (i / 8) (length bs)) [
  | yes l ↦ subst (λ b. b < 2) (sym (bit_at bs i l)) (mod-lt (slice_index bs (i / 8) / 2 ^ (7 - i % 8)) (lit< tt))
  | no l ↦ subst (λ b. b < 2) (sym (bit_past bs i (let z : length bs ≤ i / 8 = omega arith in z))) (lit< tt)
]

pub read_more : (bs : List ℕ) (p n : ℕ) → read bs p (n + 1) ≡ 2 * read bs p n + slice_index bs (p + n)
read_more bs p n = rw add-one

pub read_low : (bs : List ℕ) (p n : ℕ) → read (bits_of bs) p n < 2 ^ n
read_low bs p zero = lit< tt
read_low bs p (suc n) =
    let h = read_low bs p n in
    let b = bit_low bs (p + n) in
    let e : 2 ^ suc n ≡ 2 ^ n * 2 = ap (λ m. 2 ^ m) (sym (add-one n)) ∙ pow-add 2 n 1 in
    omega arith

pub read_low_32 : (bs : List ℕ) (p n : ℕ) → n ≤ 32 → read (bits_of bs) p n < 2 ^ 32
read_low_32 bs p n h = let a = read_low bs p n in let b = pow_mono {i = n} {j = 32} h in omega arith
