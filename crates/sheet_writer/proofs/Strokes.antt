-- What strokes of a pen write: a few bits, one stroke after another, a number, a row of fields, and the filling.
use Rattle.std.proofs.Common.{◌≡◌, ℕ, zero, suc, ◌+◌, ◌-◌, ◌*◌, ◌/◌, ◌%◌, ◌^◌, ◌<◌, ◌≤◌, List, [], ◌∷◌, ◌++◌, length, get_or, take, drop, set, replicate, sym, refl, ap, ◌∙◌, subst, ap₂, append_assoc, append-nil, mul_assoc, mul_comm, pow-suc, add-one, arith, take-append-drop, length-set}
use native.Mathlib.Nat.{pow-succ', div-div-eq-div-mul, zero-div}
use Rattle.std.proofs.lemmas.Nat.{pow_pos, pow-add, shr-shr, div-add-mod', mul-add-lt, mod_below}
use Rattle.std.proofs.lemmas.List.{length-append, length-take-le, take_more, take_more_set, drop-drop, drop-set-lt}
use Rattle.sheet_writer.specs.declared.pen.Pen.{Pen}
use Rattle.sheets.specs.Bits.{bits, bits_of}
use Rattle.sheets.specs.Layout.{row_bits}
use Rattle.sheet_writer.specs.Pens.{written, Pushed, Finished}
use Rattle.sheets.proofs.Reading.{length_bits}

-- the last bit of a number, and those before it
bits_last : (n y : ℕ) → bits (suc n) y ≡ bits n (y / 2) ++ (y % 2 ∷ [])
bits_last zero y = let e : y / 1 % 2 ≡ y % 2 = omega arith in ap (λ b. b ∷ []) e
bits_last (suc n) y =
    let e : y / 2 ^ suc n ≡ y / 2 / 2 ^ n = ap (λ m. y / m) (pow-succ' 2 n) ∙ sym (div-div-eq-div-mul y 2 (2 ^ n)) in
    ap₂ (λ (b : ℕ) (bs : List ℕ). b ∷ bs) (ap (λ q. q % 2) e) (bits_last n y)

bits_more : (n x b : ℕ) → b < 2 → bits (n + 1) (2 * x + b) ≡ bits n x ++ (b ∷ [])
bits_more n x b h =
    let half : (2 * x + b) / 2 ≡ x = omega arith in
    let rest : (2 * x + b) % 2 ≡ b = omega arith in
    ap (λ m. bits m (2 * x + b)) (add-one n) ∙ bits_last n (2 * x + b) ∙ ap₂ (λ q r. bits n q ++ (r ∷ [])) half rest

-- a number of s bits behind another number
bits_join : (n s x y : ℕ) → y < 2 ^ s → bits (n + s) (x * 2 ^ s + y) ≡ bits n x ++ bits s y
bits_join n zero x y h =
    let e : x * 1 + y ≡ x = omega arith in
    let z : n + 0 ≡ n = omega arith in
    ap₂ bits z e ∙ sym (append-nil (bits n x))
bits_join n (suc s) x y h =
    let m : n + suc s ≡ n + s + 1 = omega arith in
    let p : 2 ^ suc s ≡ 2 ^ s * 2 = pow-suc 2 s in
    let q : x * 2 ^ suc s ≡ x * 2 ^ s * 2 = ap (λ z. x * z) p ∙ sym (mul_assoc x (2 ^ s) 2) in
    let e : x * 2 ^ suc s + y ≡ 2 * (x * 2 ^ s + y / 2) + y % 2 = omega arith in
    ap₂ bits m e ∙ bits_more (n + s) (x * 2 ^ s + y / 2) (y % 2) (omega arith)
    ∙ ap (λ bs. bs ++ (y % 2 ∷ [])) (bits_join n s x (y / 2) (omega arith))
    ∙ append_assoc (bits n x) (bits s (y / 2)) (y % 2 ∷ [])
    ∙ ap (λ bs. bits n x ++ bs) (sym (bits_last s y))

-- the first bits of a number of n bits, where l are left: those before, and s more
pub bits_first : (v n l s : ℕ) → l + s ≤ n → bits (n - l) (v / 2 ^ l) ≡ bits (n - (l + s)) (v / 2 ^ (l + s)) ++ bits s (v / 2 ^ l % 2 ^ s)
bits_first v n l s h =
    let w = v / 2 ^ l in
    let k : n - l ≡ n - (l + s) + s = omega arith in
    ap₂ bits k (sym (div-add-mod' w (2 ^ s))) ∙ bits_join (n - (l + s)) s (w / 2 ^ s) (w % 2 ^ s) (mod_below w (2 ^ s) (pow_pos s))
    ∙ ap (λ q. bits (n - (l + s)) q ++ bits s (w % 2 ^ s)) (shr-shr v l s)

bits_zero : (n : ℕ) → bits n 0 ≡ replicate n 0
bits_zero zero = refl
bits_zero (suc n) = ap₂ (λ (q : ℕ) (bs : List ℕ). q % 2 ∷ bs) (zero-div (2 ^ n)) (bits_zero n)

bits_of_append : (xs ys : List ℕ) → bits_of (xs ++ ys) ≡ bits_of xs ++ bits_of ys
bits_of_append [] ys = refl
bits_of_append (x ∷ xs) ys = ap (λ bs. bits 8 x ++ bs) (bits_of_append xs ys) ∙ sym (append_assoc (bits 8 x) (bits_of xs) (bits_of ys))

-- so many bits more fit so many bits more
pub low_join : (n s x y : ℕ) → x < 2 ^ n → y < 2 ^ s → x * 2 ^ s + y < 2 ^ (n + s)
low_join n s x y h l = let e : 2 ^ (n + s) ≡ 2 ^ n * 2 ^ s = pow-add 2 n s in subst (λ z. x * 2 ^ s + y < z) (mul_comm (2 ^ s) (2 ^ n) ∙ sym e) (mul-add-lt x (2 ^ s) y (2 ^ n) h l)

-- a number of few bits is written: into the byte that is held, or as its end
pub pushed_held : (p q : Pen) (s b : ℕ) → b < 2 ^ s → q.bytes.now ≡ p.bytes.now → q.at ≡ p.at → q.filled ≡ p.filled + s → q.current ≡ p.current * 2 ^ s + b → q.bytes.ghost_name ≡ p.bytes.ghost_name → Pushed p q (bits s b)
pushed_held p q s b h e a f c r =
    let long = length_bits s b in
    record {
      adds =
          ap₂ (λ (xs ys : List ℕ). xs ++ ys) (ap₂ (λ n xs. bits_of (take n xs)) a e) (ap₂ bits f c ∙ bits_join p.filled s p.current b h)
          ∙ sym (append_assoc (bits_of (take p.at p.bytes.now)) (bits p.filled p.current) (bits s b));
      on = omega arith;
      past = ap (drop q.at) e;
      same_length = ap length e;
      same_reference = r;
    }

pub pushed_whole : (p q : Pen) (s b : ℕ) → b < 2 ^ s → p.at < length p.bytes.now → p.filled + s ≡ 8 → q.bytes.now ≡ set p.bytes.now p.at (p.current * 2 ^ s + b) → q.at ≡ p.at + 1 → q.filled ≡ 0
    → q.bytes.ghost_name ≡ p.bytes.ghost_name → Pushed p q (bits s b)
pushed_whole p q s b h l t e a f r =
    let xs = p.bytes.now in
    let x = p.current * 2 ^ s + b in
    let front = bits_of (take p.at xs) in
    let long = length_bits s b in
    let whole : bits 8 x ++ [] ≡ bits p.filled p.current ++ bits s b =
    append-nil (bits 8 x) ∙ ap (λ n. bits n x) (sym t) ∙ bits_join p.filled s p.current b h in
    record {
      adds =
          ap₂ (λ (ys zs : List ℕ). ys ++ zs) (ap₂ (λ n ys. bits_of (take n ys)) a e) (ap (λ m. bits m q.current) f)
          ∙ append-nil (bits_of (take (p.at + 1) (set xs p.at x)))
          ∙ ap bits_of (take_more_set xs p.at x l)
          ∙ bits_of_append (take p.at xs) (x ∷ [])
          ∙ ap (λ bs. front ++ bs) whole
          ∙ sym (append_assoc front (bits p.filled p.current) (bits s b));
      on = omega arith;
      past = ap (drop q.at) e ∙ drop-set-lt q.at xs p.at x (omega arith);
      same_length = ap length e ∙ length-set xs p.at x;
      same_reference = r;
    }

-- what lists share from n on, they share from m on
pub drop_on : (m n : ℕ) (xs ys : List ℕ) → n ≤ m → drop n ys ≡ drop n xs → drop m ys ≡ drop m xs
drop_on m n xs ys h e =
    let k : m ≡ n + (m - n) = omega arith in
    ap (λ z. drop z ys) k ∙ sym (drop-drop (m - n) n ys) ∙ ap (drop (m - n)) e ∙ drop-drop (m - n) n xs ∙ ap (λ z. drop z xs) (sym k)

-- a stroke after another
pub pushed_then : {p q r : Pen} {us vs : List ℕ} → Pushed p q us → Pushed q r vs → Pushed p r (us ++ vs)
pushed_then {p} {q} {r} {us} {vs} s t =
    let long = length-append us vs in
    let on : q.at ≤ r.at = omega arith in
    record {
      adds = t.adds ∙ ap (λ bs. bs ++ vs) s.adds ∙ append_assoc (written p) us vs;
      on = omega arith;
      past = t.past ∙ drop_on r.at q.at p.bytes.now q.bytes.now on s.past;
      same_length = t.same_length ∙ s.same_length;
      same_reference = t.same_reference ∙ s.same_reference;
    }

-- the same stroke with its bits said otherwise
pub pushed_as : {p q : Pen} {us vs : List ℕ} → us ≡ vs → Pushed p q us → Pushed p q vs
pushed_as {p} {q} e s = subst (Pushed p q) e s

-- a row of fields, one field more, for which there is room
row_bits_append : (f : ℕ → ℕ) (i : ℕ) (xs ys : List ℕ) → row_bits f i (xs ++ ys) ≡ row_bits f i xs ++ row_bits f (i + length xs) ys
row_bits_append f i [] ys = let e : i ≡ i + 0 = omega arith in ap (λ n. row_bits f n ys) e
row_bits_append f i (x ∷ xs) ys =
    let e : i + 1 + length xs ≡ i + suc (length xs) = omega arith in
    ap (λ bs. bits (f i) x ++ bs) (row_bits_append f (i + 1) xs ys ∙ ap (λ n. row_bits f (i + 1) xs ++ row_bits f n ys) e)
    ∙ sym (append_assoc (bits (f i) x) (row_bits f (i + 1) xs) (row_bits f (i + suc (length xs)) ys))

pub row_more : (f : ℕ → ℕ) (i : ℕ) (xs : List ℕ) → i < length xs → row_bits f 0 (take (i + 1) xs) ≡ row_bits f 0 (take i xs) ++ bits (f i) (get_or xs i 0)
row_more f i xs h =
    let x = get_or xs i 0 in
    let long = length-take-le i xs (omega arith) in
    let e : 0 + length (take i xs) ≡ i = omega arith in
    ap (row_bits f 0) (take_more xs i 0 h) ∙ row_bits_append f 0 (take i xs) (x ∷ [])
    ∙ ap (λ n. row_bits f 0 (take i xs) ++ (bits (f n) x ++ [])) e ∙ ap (λ bs. row_bits f 0 (take i xs) ++ bs) (append-nil (bits (f i) x))

row_front : (f : ℕ → ℕ) (n : ℕ) (xs : List ℕ) → length (row_bits f 0 (take n xs)) ≤ length (row_bits f 0 xs)
row_front f n xs =
    let e = ap (λ ys. length (row_bits f 0 ys)) (sym (take-append-drop n xs)) ∙ ap length (row_bits_append f 0 (take n xs) (drop n xs)) in
    omega (arith, length-append (row_bits f 0 (take n xs)) (row_bits f (0 + length (take n xs)) (drop n xs)))

pub row_room : (f : ℕ → ℕ) (i : ℕ) (xs : List ℕ) → i < length xs → length (row_bits f 0 (take i xs)) + f i ≤ length (row_bits f 0 xs)
row_room f i xs h =
    let e = ap length (row_more f i xs h) in
    omega (arith, row_front f (i + 1) xs, length-append (row_bits f 0 (take i xs)) (bits (f i) (get_or xs i 0)), length_bits (f i) (get_or xs i 0))

-- zero bits up to a whole byte
pub finished : {p q : Pen} → Pushed p q (bits ((8 - p.filled) % 8) 0) → Finished p q q.at
finished {p} {q} s =
    let n = (8 - p.filled) % 8 in
    let long = length_bits n 0 in
    let ys = q.bytes.now in
    let none : q.filled ≡ 0 = omega arith in
    record {
      filling = n;
      few = omega arith;
      holds =
          sym (append-nil (bits_of (take q.at ys))) ∙ ap (λ m. bits_of (take q.at ys) ++ bits m q.current) (sym none)
          ∙ s.adds ∙ ap (λ bs. written p ++ bs) (bits_zero n);
      long = omega arith;
      past = s.past;
      same_length = s.same_length;
      same_reference = s.same_reference;
    }
