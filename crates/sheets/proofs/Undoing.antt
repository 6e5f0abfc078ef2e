-- Reading a sheet gives back what was written: rows of fields, lists of halves, the header, and the whole.
use Rattle.std.proofs.Common.{◌≡◌, ℕ, zero, suc, ◌+◌, ◌-◌, ◌*◌, ◌/◌, ◌^◌, ◌<◌, ◌≤◌, Bool, true, false, if◌then◌else◌, ◌&&◌, ◌==◌, List, [], ◌∷◌, ◌++◌, length, get_or, replicate, Some, None, MatchBool, sym, refl, ap, ◌∙◌, subst, ap₂, inl, inr, append_assoc, arith}
use Rattle.std.specs.List.{AllByRecursion}
use Rattle.std.proofs.lemmas.List.{length-append, length-replicate, get_or-take}
use Rattle.std.proofs.lemmas.Bool.{eq-eqb, cases_lt}
use Rattle.refusal.specs.declared.kind.Kind.{Kind}
use Rattle.refusal.specs.declared.kind.Kind.TheVariants.{Bit, Ring0, Ring1}
use Rattle.refusal.specs.Kinds.{entries, mask_size, choice_size}
use Rattle.sources.specs.Halves.{Half, Halves, InRange, SenderInRange, ReceiverInRange, operation, sends, width}
use Rattle.sheets.specs.Bits.{bits, bits_of, read}
use Rattle.sheets.specs.Layout.{field_size, half_size, row_bits, list_bits, encode, row_at, halves_at, seat_of, count_of, span_of, begin_of, end_of, whole, decode}
use Rattle.sheets.specs.Places.{bits_of_long}
use Rattle.sheets.specs.Ranges.{mask_limit, choice_limit}
use Rattle.sheets.specs.Theorems.{Sheetable, IsSheet, DecodeUndoesEncode}
use Rattle.sheets.proofs.Reading.{Lies, lies_all, lies_left, lies_right, length_bits, read_number, read_zeros}

-- every field of a row has room, the first of which is field i
abbrev pub RowIn : (ℕ → ℕ) → ℕ → List ℕ → Type 0
RowIn size i xs = (j : ℕ) → j < length xs → get_or xs j 0 < 2 ^ size (i + j)

pub row_in_head : (size : ℕ → ℕ) (i x : ℕ) (xs : List ℕ) → RowIn size i (x ∷ xs) → x < 2 ^ size i
row_in_head size i x xs r = let e : i + 0 ≡ i = omega arith in subst (λ k. x < 2 ^ size k) e (r 0 (omega arith))

pub row_in_tail : (size : ℕ → ℕ) (i x : ℕ) (xs : List ℕ) → RowIn size i (x ∷ xs) → RowIn size (i + 1) xs
row_in_tail size i x xs r j h = let e : i + suc j ≡ i + 1 + j = omega arith in subst (λ k. get_or xs j 0 < 2 ^ size k) e (r (suc j) (omega arith))

-- a row is read back where it lies
pub row_read : (bs : List ℕ) (size : ℕ → ℕ) (p i : ℕ) (xs : List ℕ) → RowIn size i xs → Lies bs p (row_bits size i xs) → row_at bs size p i (length xs) ≡ xs
row_read bs size p i [] r l = refl
row_read bs size p i (x ∷ xs) r l =
    let e : p + length (bits (size i) x) ≡ p + size i = ap (λ n. p + n) (length_bits (size i) x) in
    ap₂ (λ (y : ℕ) (ys : List ℕ). y ∷ ys)
    (read_number bs p (size i) x (row_in_head size i x xs r) (lies_left bs p (bits (size i) x) (row_bits size (i + 1) xs) l))
    (row_read bs size (p + size i) (i + 1) xs (row_in_tail size i x xs r) (lies_right bs p (p + size i) (bits (size i) x) (row_bits size (i + 1) xs) e l))

-- a row whose fields all have m bits
pub length_row : (m i : ℕ) (xs : List ℕ) → length (row_bits (λ _. m) i xs) ≡ length xs * m
length_row m i [] = omega arith
length_row m i (x ∷ xs) =
    let e : suc (length xs) * m ≡ m + length xs * m = omega arith in
    omega (arith, length-append (bits m x) (row_bits (λ _. m) (i + 1) xs), length_bits m x, length_row m (i + 1) xs)

-- the size of fields, by whether the seat sends
abbrev sizes : Bool → Kind → ℕ → ℕ
sizes b k i = if b then mask_size k else if i == 0 then choice_size k else mask_size k

-- what the range of a half says of its row
record RowFits (b : Bool) (k : Kind) (h : Half) : Type 0 where
  wide : length h ≡ (if b then entries k + 1 else 2)
  room : RowIn (sizes b k) 0 h
  long : length (row_bits (sizes b k) 0 h) ≡ (if b then (entries k + 1) * mask_size k else choice_size k + mask_size k)

sender_room : (k : Kind) (h : Half) → SenderInRange k h → (j : ℕ) → j < length h → get_or h j 0 < (operation k).size
sender_room k h r j l =
    let inner : j < entries k → get_or h j 0 < (operation k).size = λ s. subst (λ x. x < (operation k).size) (get_or-take (length h - 1) h j 0 (omega arith)) (r.sound.masks_in j s) in
    let outer : entries k ≤ j → get_or h j 0 < (operation k).size = λ s. let e : length h - 1 ≡ j = omega arith in subst (λ n. get_or h n 0 < (operation k).size) e r.sound.blind_in in
    elim (cases_lt j (entries k)) [ inl s ↦ inner s | inr s ↦ outer s ]

receiver_room : (k : Kind) (h : Half) → ReceiverInRange k h → RowIn (sizes false k) 0 h
receiver_room k h r zero l = subst (λ x. get_or h 0 0 < x) (sym (choice_limit k)) r.sound.choice_in
receiver_room k h r (suc zero) l = subst (λ x. get_or h 1 0 < x) (sym (mask_limit k)) r.sound.mask_in
receiver_room k h r (suc (suc j)) l = absurd (let z : ⊥ = omega arith in z)

receiver_long : (k : Kind) (h : Half) → length h ≡ 2 → length (row_bits (sizes false k) 0 h) ≡ choice_size k + mask_size k
receiver_long k [] e = absurd (let z : ⊥ = omega arith in z)
receiver_long k (x ∷ []) e = absurd (let z : ⊥ = omega arith in z)
receiver_long k (x ∷ y ∷ []) e =
    omega (arith, length-append (bits (choice_size k) x) (bits (mask_size k) y ++ []), length-append (bits (mask_size k) y) [], length_bits (choice_size k) x, length_bits (mask_size k) y)
receiver_long k (x ∷ y ∷ v ∷ vs) e = absurd (let z : ⊥ = omega arith in z)

row_fits : (b : Bool) (k : Kind) (h : Half) → MatchBool b (SenderInRange k h) (ReceiverInRange k h) → RowFits b k h
row_fits true k h r = record {
  wide = r.long;
  room = λ j l. subst (λ x. get_or h j 0 < x) (sym (mask_limit k)) (sender_room k h r j l);
  long = length_row (mask_size k) 0 h ∙ ap (λ n. n * mask_size k) r.long;
}
row_fits false k h r = record { wide = r.long; room = receiver_room k h r; long = receiver_long k h r.long }

module _ (seat : ℕ) (k : Kind) where
  -- halves in range have their width, their room and their length
  pub half_wide : (h : Half) → InRange seat k h → length h ≡ width seat k
  half_wide h r = (row_fits (sends seat k) k h r).wide

  pub half_room : (h : Half) → InRange seat k h → RowIn (field_size seat k) 0 h
  half_room h r = (row_fits (sends seat k) k h r).room

  pub length_half : (h : Half) → InRange seat k h → length (row_bits (field_size seat k) 0 h) ≡ half_size seat k
  length_half h r = (row_fits (sends seat k) k h r).long

  pub length_list : (hs : List Half) → AllByRecursion (InRange seat k) hs → length (list_bits (field_size seat k) hs) ≡ length hs * half_size seat k
  length_list [] r = omega arith
  length_list (h ∷ hs) r =
      let e : suc (length hs) * half_size seat k ≡ half_size seat k + length hs * half_size seat k = omega arith in
      length-append (row_bits (field_size seat k) 0 h) (list_bits (field_size seat k) hs) ∙ ap₂ (λ a b. a + b) (length_half h r.0) (length_list hs r.1) ∙ sym e

  -- a half and a list of halves are read back where they lie
  pub half_read : (bs : List ℕ) (p : ℕ) (h : Half) → InRange seat k h → Lies bs p (row_bits (field_size seat k) 0 h) → row_at bs (field_size seat k) p 0 (width seat k) ≡ h
  half_read bs p h r l = ap (row_at bs (field_size seat k) p 0) (sym (half_wide h r)) ∙ row_read bs (field_size seat k) p 0 h (half_room h r) l

  pub list_read : (bs : List ℕ) (p : ℕ) (hs : List Half) → AllByRecursion (InRange seat k) hs → Lies bs p (list_bits (field_size seat k) hs) → halves_at bs seat k (length hs) p ≡ hs
  list_read bs p [] r l = refl
  list_read bs p (h ∷ hs) r l =
      let e : p + length (row_bits (field_size seat k) 0 h) ≡ p + half_size seat k = ap (λ n. p + n) (length_half h r.0) in
      ap₂ (λ (y : Half) (ys : List Half). y ∷ ys)
      (half_read bs p h r.0 (lies_left bs p (row_bits (field_size seat k) 0 h) (list_bits (field_size seat k) hs) l))
      (list_read bs (p + half_size seat k) hs r.1 (lies_right bs p (p + half_size seat k) (row_bits (field_size seat k) 0 h) (list_bits (field_size seat k) hs) e l))

-- where the parts of a sheet lie, of lengths 1, 13, 13, 13, m, n and o, and what fills it
record Placed (bs s a b c x y z w : List ℕ) (m n o : ℕ) : Type 0 where
  at_s : Lies bs 0 s
  at_a : Lies bs 1 a
  at_b : Lies bs 14 b
  at_c : Lies bs 27 c
  at_x : Lies bs 40 x
  at_y : Lies bs (40 + m) y
  at_z : Lies bs (40 + m + n) z
  at_w : Lies bs (40 + m + n + o) w
  whole_length : length bs ≡ 40 + m + n + o + length w

regrouped : (s a b c x y z w : List ℕ) → s ++ a ++ b ++ c ++ x ++ y ++ z ++ w ≡ s ++ (a ++ (b ++ (c ++ (x ++ (y ++ (z ++ w))))))
regrouped s a b c x y z w = simp append_assoc

placed_by : (bs s a b c x y z w : List ℕ) (m n o : ℕ)
    → length s ≡ 1 → length a ≡ 13 → length b ≡ 13 → length c ≡ 13 → length x ≡ m → length y ≡ n → length z ≡ o
    → bs ≡ s ++ a ++ b ++ c ++ x ++ y ++ z ++ w → Placed bs s a b c x y z w m n o
placed_by bs s a b c x y z w m n o ls la lb lc lx ly lz e =
    let f : bs ≡ s ++ (a ++ (b ++ (c ++ (x ++ (y ++ (z ++ w)))))) = e ∙ regrouped s a b c x y z w in
    let r0 : Lies bs 0 (s ++ (a ++ (b ++ (c ++ (x ++ (y ++ (z ++ w))))))) = lies_all bs _ f in
    let r1 : Lies bs 1 (a ++ (b ++ (c ++ (x ++ (y ++ (z ++ w)))))) = lies_right bs 0 1 s _ (omega arith) r0 in
    let r2 : Lies bs 14 (b ++ (c ++ (x ++ (y ++ (z ++ w))))) = lies_right bs 1 14 a _ (omega arith) r1 in
    let r3 : Lies bs 27 (c ++ (x ++ (y ++ (z ++ w)))) = lies_right bs 14 27 b _ (omega arith) r2 in
    let r4 : Lies bs 40 (x ++ (y ++ (z ++ w))) = lies_right bs 27 40 c _ (omega arith) r3 in
    let r5 : Lies bs (40 + m) (y ++ (z ++ w)) = lies_right bs 40 (40 + m) x _ (omega arith) r4 in
    let r6 : Lies bs (40 + m + n) (z ++ w) = lies_right bs (40 + m) (40 + m + n) y _ (omega arith) r5 in
    let l : length bs ≡ length s + (length a + (length b + (length c + (length x + (length y + (length z + length w)))))) = ap length f ∙ simp length-append in
    record {
      at_s = lies_left bs 0 s _ r0;
      at_a = lies_left bs 1 a _ r1;
      at_b = lies_left bs 14 b _ r2;
      at_c = lies_left bs 27 c _ r3;
      at_x = lies_left bs 40 x _ r4;
      at_y = lies_left bs (40 + m) y _ r5;
      at_z = lies_left bs (40 + m + n) z _ r6;
      at_w = lies_right bs (40 + m + n) (40 + m + n + o) z w (omega arith) r6;
      whole_length = omega arith;
    }

module _ (seat : ℕ) (g : Halves) (bytes : List ℕ) (fit : Sheetable seat g) (is : IsSheet seat g bytes) where
  abbrev bs : List ℕ
  bs = bits_of bytes

  -- how many bits the halves of a kind have, and where they begin and end
  abbrev span : Kind → ℕ
  span k = length (g k) * half_size seat k

  abbrev begin : Kind → ℕ
  begin Bit = 40
  begin Ring0 = 40 + span Bit
  begin Ring1 = 40 + span Bit + span Ring0

  abbrev end : ℕ
  end = 40 + span Bit + span Ring0 + span Ring1

  abbrev laid_out : Kind → List ℕ
  laid_out k = list_bits (field_size seat k) (g k)

  placed : Placed bs (bits 1 seat) (bits 13 (length (g Bit))) (bits 13 (length (g Ring0))) (bits 13 (length (g Ring1)))
      (laid_out Bit) (laid_out Ring0) (laid_out Ring1) (replicate is.filling 0) (span Bit) (span Ring0) (span Ring1)
  unfolding encode
  placed = placed_by bs (bits 1 seat) (bits 13 (length (g Bit))) (bits 13 (length (g Ring0))) (bits 13 (length (g Ring1)))
      (laid_out Bit) (laid_out Ring0) (laid_out Ring1) (replicate is.filling 0) (span Bit) (span Ring0) (span Ring1)
      (length_bits 1 seat) (length_bits 13 (length (g Bit))) (length_bits 13 (length (g Ring0))) (length_bits 13 (length (g Ring1)))
      (length_list seat Bit (g Bit) (fit.ranges Bit)) (length_list seat Ring0 (g Ring0) (fit.ranges Ring0)) (length_list seat Ring1 (g Ring1) (fit.ranges Ring1))
      is.laid

  pub seat_is : seat_of bs ≡ seat
  seat_is = read_number bs 0 1 seat fit.low placed.at_s

  pub count_is : (k : Kind) → count_of bs k ≡ length (g k)
  count_is Bit = read_number bs 1 13 (length (g Bit)) (fit.few Bit) placed.at_a
  count_is Ring0 = read_number bs 14 13 (length (g Ring0)) (fit.few Ring0) placed.at_b
  count_is Ring1 = read_number bs 27 13 (length (g Ring1)) (fit.few Ring1) placed.at_c

  pub span_is : (k : Kind) → span_of bs k ≡ span k
  span_is k = ap₂ (λ n s. n * half_size s k) (count_is k) seat_is

  pub begin_is : (k : Kind) → begin_of bs k ≡ begin k
  begin_is Bit = refl
  begin_is Ring0 = ap (λ n. 40 + n) (span_is Bit)
  begin_is Ring1 = ap₂ (λ m n. 40 + m + n) (span_is Bit) (span_is Ring0)

  pub end_is : end_of bs ≡ end
  end_is = ap₂ (λ m n. m + n) (begin_is Ring1) (span_is Ring1)

  lies_laid : (k : Kind) → Lies bs (begin k) (laid_out k)
  lies_laid Bit = placed.at_x
  lies_laid Ring0 = placed.at_y
  lies_laid Ring1 = placed.at_z

  pub left_is : (k : Kind) → halves_at bs (seat_of bs) k (count_of bs k) (begin_of bs k) ≡ g k
  left_is k = (λ i. halves_at bs (seat_is i) k (count_is k i) (begin_is k i)) ∙ list_read seat k bs (begin k) (g k) (fit.ranges k) (lies_laid k)

  -- the bytes are as many as the counts ask for, and the filling is zero
  pub length_is : 8 * length bytes ≡ end + is.filling
  length_is = sym (bits_of_long bytes) ∙ placed.whole_length ∙ ap (λ n. end + n) (length-replicate {A = ℕ} is.filling 0)

  bytes_are : (e e' n f : ℕ) → e' ≡ e → f < 8 → 8 * n ≡ e + f → (n ≡ (e' + 7) / 8) × (8 * n - e' ≡ f)
  bytes_are e e' n f p l q = omega arith

  pub whole_is : whole bytes ≡ true
  whole_is =
      let h = bytes_are end (end_of bs) (length bytes) is.filling end_is is.few length_is in
      let z : read bs (end_of bs) (8 * length bytes - end_of bs) ≡ 0 = ap₂ (read bs) end_is h.1 ∙ read_zeros bs end is.filling is.filling (omega arith) placed.at_w in
      ap₂ ◌&&◌ (eq-eqb (length bytes) ((end_of bs + 7) / 8) h.0) (eq-eqb (read bs (end_of bs) (8 * length bytes - end_of bs)) 0 z)

  decoded : decode bytes ≡ Some (record { seat = seat; left = g })
  unfolding decode
  decoded =
      ap (λ b. if b then Some (record { seat = seat_of bs; left = λ k. halves_at bs (seat_of bs) k (count_of bs k) (begin_of bs k) }) else None) whole_is
      ∙ (λ i. Some (record { seat = seat_is i; left = λ k. left_is k i }))

pub decode_undoes_encode : DecodeUndoesEncode
decode_undoes_encode = decoded
