-- Lists of bits: where one list lies in another, and what is read there.
use Rattle.std.proofs.Common.{◌≡◌, ℕ, zero, suc, ◌+◌, ◌*◌, ◌/◌, ◌%◌, ◌^◌, ◌<◌, ◌≤◌, List, ◌∷◌, ◌++◌, length, get_or, replicate, sym, refl, ap, ◌∙◌, ap₂, mod-eq_of_lt, mul_assoc, pow-suc, arith}
use Rattle.std.proofs.lemmas.List.{length-append, length-replicate, get_or_append_left, get_or-append-add, get_or-replicate}
use Rattle.std.proofs.lemmas.Nat.{mod-pow-add}
use Rattle.sheets.specs.Bits.{bits, read}

-- xs lies in bs from the place p on
abbrev pub Lies : List ℕ → ℕ → List ℕ → Type 0
Lies bs p xs = (i : ℕ) → i < length xs → get_or bs (p + i) 0 ≡ get_or xs i 0

pub lies_all : (bs xs : List ℕ) → bs ≡ xs → Lies bs 0 xs
lies_all bs xs e i h = let z : 0 + i ≡ i = omega arith in ap₂ (λ ys k. get_or ys k 0) e z

pub lies_left : (bs : List ℕ) (p : ℕ) (xs ys : List ℕ) → Lies bs p (xs ++ ys) → Lies bs p xs
lies_left bs p xs ys l i h = l i (omega (arith, length-append xs ys)) ∙ get_or_append_left xs ys 0 i h

pub lies_right : (bs : List ℕ) (p q : ℕ) (xs ys : List ℕ) → p + length xs ≡ q → Lies bs p (xs ++ ys) → Lies bs q ys
lies_right bs p q xs ys e l i h =
    let at : q + i ≡ p + (length xs + i) = omega arith in
    ap (λ k. get_or bs k 0) at ∙ l (length xs + i) (omega (arith, length-append xs ys)) ∙ get_or-append-add xs ys i 0

-- the first element, and the others
pub lies_head : (bs : List ℕ) (p x : ℕ) (xs : List ℕ) → Lies bs p (x ∷ xs) → get_or bs p 0 ≡ x
lies_head bs p x xs l = let at : p ≡ p + 0 = omega arith in ap (λ k. get_or bs k 0) at ∙ l 0 (omega arith)

pub lies_tail : (bs : List ℕ) (p x : ℕ) (xs : List ℕ) → Lies bs p (x ∷ xs) → Lies bs (p + 1) xs
lies_tail bs p x xs l i h = let at : p + 1 + i ≡ p + suc i = omega arith in ap (λ k. get_or bs k 0) at ∙ l (suc i) (omega arith)

-- lengths
pub length_bits : (n x : ℕ) → length (bits n x) ≡ n
length_bits zero x = refl
length_bits (suc n) x = ap suc (length_bits n x)

-- reading by the first bit in place of the last
doubled : (a r s d t n : ℕ) → r ≡ a * 2 ^ n + s → d ≡ t → 2 * r + d ≡ a * 2 ^ suc n + (2 * s + t)
doubled a r s d t n e f =
    let m : a * 2 ^ suc n ≡ a * 2 ^ n * 2 = ap (λ z. a * z) (pow-suc 2 n) ∙ sym (mul_assoc a (2 ^ n) 2) in
    omega arith

pub read_first : (bs : List ℕ) (p n : ℕ) → read bs p (suc n) ≡ get_or bs p 0 * 2 ^ n + read bs (p + 1) n
read_first bs p zero = let at : p + 0 ≡ p = omega arith in let e : get_or bs (p + 0) 0 ≡ get_or bs p 0 = ap (λ k. get_or bs k 0) at in omega arith
read_first bs p (suc n) =
    let at : p + suc n ≡ p + 1 + n = omega arith in
    doubled (get_or bs p 0) (read bs p (suc n)) (read bs (p + 1) n) (get_or bs (p + suc n) 0) (get_or bs (p + 1 + n) 0) n (read_first bs p n) (ap (λ k. get_or bs k 0) at)

-- what is read where the bits of x lie
pub read_bits : (bs : List ℕ) (p n x : ℕ) → Lies bs p (bits n x) → read bs p n ≡ x % 2 ^ n
read_bits bs p zero x l = omega arith
read_bits bs p (suc n) x l =
    let e : 1 + n ≡ suc n = omega arith in
    read_first bs p n
    ∙ ap₂ (λ a r. a * 2 ^ n + r) (lies_head bs p (x / 2 ^ n % 2) (bits n x) l) (read_bits bs (p + 1) n x (lies_tail bs p (x / 2 ^ n % 2) (bits n x) l))
    ∙ sym (mod-pow-add x 1 n) ∙ ap (λ k. x % 2 ^ k) e

pub read_number : (bs : List ℕ) (p n x : ℕ) → x < 2 ^ n → Lies bs p (bits n x) → read bs p n ≡ x
read_number bs p n x h l = read_bits bs p n x l ∙ mod-eq_of_lt h

-- zero bits read as 0
pub read_zeros : (bs : List ℕ) (p n m : ℕ) → n ≤ m → Lies bs p (replicate m 0) → read bs p n ≡ 0
read_zeros bs p zero m h l = refl
read_zeros bs p (suc n) m h l =
    let e : get_or bs (p + n) 0 ≡ 0 = l n (omega (arith, length-replicate {A = ℕ} m 0)) ∙ get_or-replicate m n 0 0 (omega arith) in
    omega (arith, read_zeros bs p n m (omega arith) l)
