-- Every field that is read from a sheet is in range: what a sheet shows as a source.
use Rattle.std.specs.Prelude.{◌≡◌, ℕ, zero, suc, ◌+◌, ◌-◌, ◌^◌, ◌<◌, Bool, true, false, if◌then◌else◌, List, length, MatchBool, ◌==◌, slice_index, refl}
use Rattle.std.proofs.Common.{sym, ap, subst, ◌∙◌, arith}
use Rattle.std.specs.List.{AllByRecursion}
use Rattle.std.proofs.lemmas.List.{length-take-le, get_or-take}
use Rattle.refusal.specs.declared.kind.Kind.{Kind}
use Rattle.refusal.specs.declared.kind.Kind.TheVariants.{Bit, Ring0, Ring1}
use Rattle.refusal.specs.Kinds.{entries, mask_size, choice_size}
use Rattle.sources.specs.Halves.{Half, operation, sends, SenderInRange, ReceiverInRange, InRange}
use Rattle.sheets.specs.Bits.{bits_of, read}
use Rattle.sheets.specs.Layout.{half_size, row_at, halves_at}
use Rattle.sheets.specs.Places.{read_low}

pub row_long : (bs : List ℕ) (size : ℕ → ℕ) (p i n : ℕ) → length (row_at bs size p i n) ≡ n
row_long bs size p i zero = refl
row_long bs size p i (suc n) = ap suc (row_long bs size (p + size i) (i + 1) n)

row_below : (bs : List ℕ) (size : ℕ → ℕ) (limit : ℕ) → ((p i : ℕ) → read bs p (size i) < limit) → (p i n j : ℕ) → j < n → slice_index (row_at bs size p i n) j < limit
row_below bs size limit f p i zero j h = absurd (omega arith)
row_below bs size limit f p i (suc n) zero h = f p i
row_below bs size limit f p i (suc n) (suc j) h = row_below bs size limit f (p + size i) (i + 1) n j (omega arith)

-- the sizes of fields are those of the ranges
pub mask_limit : (k : Kind) → 2 ^ mask_size k ≡ (operation k).size
mask_limit Bit = refl
mask_limit Ring0 = refl
mask_limit Ring1 = refl

pub choice_limit : (k : Kind) → 2 ^ choice_size k ≡ entries k
choice_limit Bit = refl
choice_limit Ring0 = refl
choice_limit Ring1 = refl

module _ (sheet : List ℕ) (k : Kind) where
  mask_low : (p : ℕ) → read (bits_of sheet) p (mask_size k) < (operation k).size
  mask_low p = subst (λ m. read (bits_of sheet) p (mask_size k) < m) (mask_limit k) (read_low sheet p (mask_size k))

  choice_low : (p : ℕ) → read (bits_of sheet) p (choice_size k) < entries k
  choice_low p = subst (λ m. read (bits_of sheet) p (choice_size k) < m) (choice_limit k) (read_low sheet p (choice_size k))

  -- a row by the role of its seat
  abbrev row : Bool → ℕ → Half
  row b p = row_at (bits_of sheet) (λ i. if b then mask_size k else if i == 0 then choice_size k else mask_size k) p 0 (if b then entries k + 1 else 2)

  sender_row : (p : ℕ) → SenderInRange k (row true p)
  sender_row p =
      let long = row_long (bits_of sheet) (λ _. mask_size k) p 0 (entries k + 1) in
      let below : (j : ℕ) → j < entries k + 1 → slice_index (row true p) j < (operation k).size = row_below (bits_of sheet) (λ _. mask_size k) (operation k).size (λ q _. mask_low q) p 0 (entries k + 1) in
      let last : length (row true p) - 1 ≡ entries k = omega arith in
      record {
        long = long;
        sound = record {
          long = length-take-le (length (row true p) - 1) (row true p) (omega arith) ∙ last;
          masks_in = λ j h. subst (λ m. m < (operation k).size) (sym (get_or-take (length (row true p) - 1) (row true p) j 0 (omega arith))) (below j (omega arith));
          blind_in = below (length (row true p) - 1) (omega arith);
        };
      }

  receiver_row : (p : ℕ) → ReceiverInRange k (row false p)
  receiver_row p = record { long = refl; sound = record { choice_in = choice_low p; mask_in = mask_low (p + choice_size k) } }

  either_row : (b : Bool) (p : ℕ) → MatchBool b (SenderInRange k (row b p)) (ReceiverInRange k (row b p))
  either_row true p = sender_row p
  either_row false p = receiver_row p

pub halves_in_range : (sheet : List ℕ) (seat : ℕ) (k : Kind) (n p : ℕ) → AllByRecursion (InRange seat k) (halves_at (bits_of sheet) seat k n p)
halves_in_range sheet seat k zero p = tt
halves_in_range sheet seat k (suc n) p = (either_row sheet k (sends seat k) p, halves_in_range sheet seat k n (p + half_size seat k))
