-- The layout of a deal sheet, as a list of bits: written by `encode`, and read by `decode`.
use Rattle.std.specs.Prelude.{ℕ, zero, suc, ◌+◌, ◌-◌, ◌*◌, ◌/◌, Bool, ◌&&◌, List, [], ◌∷◌, ◌++◌, length, Some, None, Option, if◌then◌else◌, ◌==◌}
use Rattle.refusal.specs.declared.kind.Kind.{Kind}
use Rattle.refusal.specs.declared.kind.Kind.TheVariants.{Bit, Ring0, Ring1}
use Rattle.refusal.specs.Kinds.{number, entries, mask_size, choice_size}
use Rattle.sources.specs.Halves.{Half, Halves, sends, width}
use Rattle.sheets.specs.Bits.{bits, bits_of, read}

-- how many bits field i of a half has: a receiver's first is its choice
abbrev pub field_size : ℕ → Kind → ℕ → ℕ
field_size seat k i = if sends seat k then mask_size k else if i == 0 then choice_size k else mask_size k

-- how many bits a half has
abbrev pub half_size : ℕ → Kind → ℕ
half_size seat k = if sends seat k then (entries k + 1) * mask_size k else choice_size k + mask_size k

-- the bits of a row of fields, the first of which is field i, and of a list of halves
abbrev pub row_bits : (ℕ → ℕ) → ℕ → List ℕ → List ℕ
row_bits size i [] = []
row_bits size i (x ∷ xs) = bits (size i) x ++ row_bits size (i + 1) xs

abbrev pub list_bits : (ℕ → ℕ) → List Half → List ℕ
list_bits size [] = []
list_bits size (h ∷ hs) = row_bits size 0 h ++ list_bits size hs

-- what a sheet says: a seat, and halves by kind
pub record Sheet : Type 0 where
  pub seat : ℕ
  pub left : Halves

-- A sheet as bits: the seat, three counts, and all halves kind by kind.
unfoldable pub encode : ℕ → Halves → List ℕ
encode seat g =
    bits 1 seat ++ bits 13 (length (g Bit)) ++ bits 13 (length (g Ring0)) ++ bits 13 (length (g Ring1))
    ++ list_bits (field_size seat Bit) (g Bit) ++ list_bits (field_size seat Ring0) (g Ring0) ++ list_bits (field_size seat Ring1) (g Ring1)

-- n fields read from the place p on, the first of which is field i
abbrev pub row_at : List ℕ → (ℕ → ℕ) → ℕ → ℕ → ℕ → List ℕ
row_at bs size p i zero = []
row_at bs size p i (suc n) = read bs p (size i) ∷ row_at bs size (p + size i) (i + 1) n

-- n halves of a kind read from the place p on
abbrev pub halves_at : List ℕ → ℕ → Kind → ℕ → ℕ → List Half
halves_at bs seat k zero p = []
halves_at bs seat k (suc n) p = row_at bs (field_size seat k) p 0 (width seat k) ∷ halves_at bs seat k n (p + half_size seat k)

-- the header's seat and counts, and where the halves of each kind begin
abbrev pub seat_of : List ℕ → ℕ
seat_of bs = read bs 0 1

abbrev pub count_of : List ℕ → Kind → ℕ
count_of bs k = read bs (1 + 13 * number k) 13

abbrev pub span_of : List ℕ → Kind → ℕ
span_of bs k = count_of bs k * half_size (seat_of bs) k

abbrev pub begin_of : List ℕ → Kind → ℕ
begin_of bs Bit = 40
begin_of bs Ring0 = 40 + span_of bs Bit
begin_of bs Ring1 = 40 + span_of bs Bit + span_of bs Ring0

abbrev pub end_of : List ℕ → ℕ
end_of bs = 40 + span_of bs Bit + span_of bs Ring0 + span_of bs Ring1

-- exactly as many bytes as so many bits ask for, and zero bits behind them
abbrev pub whole_at : List ℕ → ℕ → Bool
whole_at bytes end = length bytes == (end + 7) / 8 && read (bits_of bytes) end (8 * length bytes - end) == 0

abbrev pub whole : List ℕ → Bool
whole bytes = whole_at bytes (end_of (bits_of bytes))

-- What bytes say that are a sheet.
unfoldable pub decode : List ℕ → Option Sheet
decode bytes =
    let bs = bits_of bytes in
    if whole bytes then Some (record { seat = seat_of bs; left = λ k. halves_at bs (seat_of bs) k (count_of bs k) (begin_of bs k) }) else None
