-- What draining a source writes: one half more of a list, and the whole sheet.
use Rattle.std.proofs.Common.{◌≡◌, ℕ, ◌+◌, ◌/◌, ◌<◌, ◌≤◌, List, [], ◌∷◌, ◌++◌, length, get_or, take, drop, replicate, sym, ap, ◌∙◌, ap₂, append_assoc, append-nil, arith}
use Rattle.std.specs.List.{AllByRecursion}
use Rattle.std.proofs.lemmas.List.{take_more, get_or-drop}
use Rattle.refusal.specs.declared.kind.Kind.{Kind}
use Rattle.refusal.specs.declared.kind.Kind.TheVariants.{Bit, Ring0, Ring1}
use Rattle.refusal.specs.declared.per_kind.PerKind.{PerKind}
use Rattle.sources.specs.Halves.{Half, Halves, InRange}
use Rattle.sheet_writer.specs.declared.pen.Pen.{Pen}
use Rattle.sheets.specs.Bits.{bits, bits_of}
use Rattle.sheets.specs.Layout.{half_size, field_size, row_bits, list_bits, encode}
use Rattle.sheet_writer.specs.Pens.{written, place, Fresh, Pushed, Finished}
use Rattle.sheet_writer.specs.Writing.{bits_needed, header_bits, body_bits, Counted, Wrote}
use Rattle.sheets.proofs.Undoing.{length_half, decode_undoes_encode}
use Rattle.sheet_writer.proofs.Strokes.{drop_on, pushed_then}

-- the first half of a list
pub first_half : (seat : ℕ) (k : Kind) (hs : List Half) → AllByRecursion (InRange seat k) hs → 0 < length hs → length (row_bits (field_size seat k) 0 (get_or hs 0 [])) ≡ half_size seat k
first_half seat k [] r h = absurd (omega arith)
first_half seat k (x ∷ hs) r h = length_half seat k x r.0

-- one half more of a list
list_bits_more : (size : ℕ → ℕ) (hs : List Half) (h : Half) → list_bits size (hs ++ (h ∷ [])) ≡ list_bits size hs ++ row_bits size 0 h
list_bits_more size [] h = append-nil (row_bits size 0 h)
list_bits_more size (x ∷ hs) h = ap (λ l. row_bits size 0 x ++ l) (list_bits_more size hs h) ∙ sym (append_assoc (row_bits size 0 x) (list_bits size hs) (row_bits size 0 h))

pub list_step : (size : ℕ → ℕ) (all : List Half) (i : ℕ) → i < length all → list_bits size (take i all) ++ row_bits size 0 (get_or (drop i all) 0 []) ≡ list_bits size (take (i + 1) all)
list_step size all i below =
    let e : i + 0 ≡ i = omega arith in
    ap (λ h. list_bits size (take i all) ++ row_bits size 0 h) (get_or-drop i all 0 [] ∙ ap (λ j. get_or all j []) e)
    ∙ sym (list_bits_more size (take i all) (get_or all i []))
    ∙ ap (list_bits size) (sym (take_more all i [] below))

-- nothing stands written at a fresh pen
pub written_fresh : (p : Pen) (xs : List ℕ) → Fresh p xs → written p ≡ []
written_fresh p xs f = ap₂ (λ a n. bits_of (take a p.bytes.now) ++ bits n p.current) f.at_start f.none_filled

-- the counts are the lengths of the lists
counts_are : (g : Halves) (counts : PerKind ℕ) → Counted g counts → counts ≡ record { bit = length (g Bit); ring0 = length (g Ring0); ring1 = length (g Ring1) }
counts_are g counts is =
    let made : ℕ → ℕ → ℕ → PerKind ℕ = λ x y z. record { bit = x; ring0 = y; ring1 = z } in
    ap₂ (λ x y. made x y counts.ring1) (is.are Bit) (is.are Ring0) ∙ ap (made (length (g Bit)) (length (g Ring0))) (is.are Ring1)

-- the parts of a sheet
pub parts : (seat : ℕ) (g : Halves) (counts : PerKind ℕ) → Counted g counts → header_bits seat counts ++ body_bits seat g ≡ encode seat g
unfolding encode
parts seat g counts is =
    let h = header_bits seat counts in
    let a = list_bits (field_size seat Bit) (g Bit) in
    let b = list_bits (field_size seat Ring0) (g Ring0) in
    let c = list_bits (field_size seat Ring1) (g Ring1) in
    sym (append_assoc h (a ++ b) c) ∙ ap (λ l. l ++ c) (sym (append_assoc h a b))
    ∙ ap (λ n. ((header_bits seat n ++ a) ++ b) ++ c) (counts_are g counts is)

-- the whole sheet, from its header, its halves and its filling
module _ {seat : ℕ} {g g' : Halves} {counts : PerKind ℕ} {xs ys : List ℕ} {n : ℕ} {o p q r : Pen} where
  pub wrote : seat < 2 → ((k : Kind) → AllByRecursion (InRange seat k) (g k)) → Counted g counts → (bits_needed seat counts + 7) / 8 ≤ length xs
      → Fresh o xs → Pushed o p (header_bits seat counts) → Pushed p q (body_bits seat g) → place q ≡ bits_needed seat counts → Finished q r n → ys ≡ r.bytes.now
      → ((k : Kind) → g' k ≡ [])
      → Wrote seat g g' xs ys n
  wrote low ranges is room fresh header body end f held empty =
      let whole = pushed_then header body in
      let laid : bits_of (take n ys) ≡ encode seat g ++ replicate f.filling 0 =
      ap (λ l. bits_of (take n l)) held ∙ f.holds
      ∙ ap (λ l. l ++ replicate f.filling 0) (whole.adds ∙ ap (λ l. l ++ (header_bits seat counts ++ body_bits seat g)) (written_fresh o xs fresh) ∙ parts seat g counts is) in
      let many : n ≡ (bits_needed seat counts + 7) / 8 = let few = f.few in let long = f.long in omega arith in
      let on : q.at ≤ n = let long = f.long in omega arith in
      record {
        reads_back = decode_undoes_encode seat g (take n ys) (record { low = low; ranges = ranges; few = is.few }) (record { filling = f.filling; few = f.few; laid = laid });
        long = many ∙ ap (λ c. (bits_needed seat c + 7) / 8) (counts_are g counts is);
        room = omega arith;
        few = is.few;
        past = ap (drop n) held ∙ f.past ∙ drop_on n q.at o.bytes.now q.bytes.now on whole.past ∙ ap (drop n) fresh.bytes_same;
        empty = empty;
      }
