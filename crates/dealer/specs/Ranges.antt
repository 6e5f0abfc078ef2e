-- Every field that a dealer deals is in range: what it shows as a source.
use Rattle.std.specs.Prelude.{◌≡◌, ℕ, zero, suc, ◌+◌, ◌-◌, ◌*◌, ◌^◌, ◌<◌, true, false, if◌then◌else◌, map, length, take, MatchBool, slice_index, refl}
use Rattle.std.proofs.Common.{sym, ap, subst, ◌∙◌, mod-lt, arith, lit<}
use Rattle.std.specs.List.{range_with_len, AllByRecursion}
use Rattle.std.proofs.lemmas.Nat.{div_below}
use Rattle.std.proofs.lemmas.List.FromFn.{length-map-range_with_len, get_or-map-range_with_len, take-map-range_with_len}
use Rattle.refusal.specs.declared.kind.Kind.{Kind}
use Rattle.refusal.specs.declared.kind.Kind.TheVariants.{Bit, Ring0, Ring1}
use Rattle.refusal.specs.Kinds.{entries, mask_size, choice_size}
use Rattle.lookup.specs.Halves.{sender_from}
use Rattle.sources.specs.Halves.{Half, operation, sends, SenderInRange, ReceiverInRange, InRange}
use Rattle.dealer.specs.Running.{step, run, top_bits, mask, choice, sender_half, receiver_half, half, dealt}

step_lt : (x : ℕ) → step x < 2 ^ 64
unfolding step
step_lt x = mod-lt (6364136223846793005 * x + 1442695040888963407) (lit< tt)

run_lt : (n x : ℕ) → 0 < n → run n x < 2 ^ 64
run_lt zero x h = absurd (omega arith)
run_lt (suc n) x h = step_lt (run n x)

top_mask_lt : (k : Kind) (y : ℕ) → y < 2 ^ 64 → top_bits (mask_size k) y < (operation k).size
top_mask_lt Bit y h = div_below y (2 ^ 62) 4 (lit< tt) h
top_mask_lt Ring0 y h = div_below y (2 ^ 32) (2 ^ 32) (lit< tt) h
top_mask_lt Ring1 y h = div_below y (2 ^ 32) (2 ^ 32) (lit< tt) h

top_choice_lt : (k : Kind) (y : ℕ) → y < 2 ^ 64 → top_bits (choice_size k) y < entries k
top_choice_lt Bit y h = div_below y (2 ^ 60) 16 (lit< tt) h
top_choice_lt Ring0 y h = div_below y (2 ^ 62) 4 (lit< tt) h
top_choice_lt Ring1 y h = div_below y (2 ^ 62) 4 (lit< tt) h

mask_lt : (k : Kind) (x i : ℕ) → mask k x i < (operation k).size
mask_lt k x i = top_mask_lt k (run (i + 1) x) (run_lt (i + 1) x (omega arith))

pub choice_lt : (k : Kind) (x : ℕ) → choice k x < entries k
choice_lt k x = top_choice_lt k (run (entries k + 2) x) (run_lt (entries k + 2) x (omega arith))

-- the masks and the blind of a row that is made from a function of the place
module _ (f : ℕ → ℕ) (n : ℕ) where
  abbrev row : Half
  row = map f (range_with_len 0 (n + 1))

  row_long : length row ≡ n + 1
  row_long = length-map-range_with_len f 0 (n + 1)

  last_is : length row - 1 ≡ n
  last_is = omega (arith, row_long)

  pub row_masks : (sender_from row).masks ≡ map f (range_with_len 0 n)
  row_masks = ap (λ m. take m row) last_is ∙ take-map-range_with_len f 0 (n + 1) n (omega arith)

  pub row_blind : (sender_from row).blind ≡ f n
  row_blind = ap (λ m. slice_index row m) last_is ∙ get_or-map-range_with_len f 0 (n + 1) n n 0 (omega arith) (omega arith)

  pub mask_at : (i : ℕ) → i < n → slice_index (sender_from row).masks i ≡ f i
  mask_at i h = ap (λ l. slice_index l i) row_masks ∙ get_or-map-range_with_len f 0 n i i 0 h (omega arith)

sender_in_range : (k : Kind) (x : ℕ) → SenderInRange k (sender_half k x)
sender_in_range k x = record {
  long = row_long (mask k x) (entries k);
  sound = record {
    long = ap length (row_masks (mask k x) (entries k)) ∙ length-map-range_with_len (mask k x) 0 (entries k);
    masks_in = λ i h. subst (λ m. m < (operation k).size) (sym (mask_at (mask k x) (entries k) i h)) (mask_lt k x i);
    blind_in = subst (λ m. m < (operation k).size) (sym (row_blind (mask k x) (entries k))) (mask_lt k x (entries k));
  };
}

receiver_in_range : (k : Kind) (x : ℕ) → ReceiverInRange k (receiver_half k x)
receiver_in_range k x = record { long = refl; sound = record { choice_in = choice_lt k x; mask_in = mask_lt k x (choice k x) } }

half_in_range : (seat : ℕ) (k : Kind) (x : ℕ) → InRange seat k (half seat k x)
half_in_range seat k x =
    elim (sends seat k) as (λ b. MatchBool b (SenderInRange k (if b then sender_half k x else receiver_half k x)) (ReceiverInRange k (if b then sender_half k x else receiver_half k x))) [
      | true ↦ sender_in_range k x
      | false ↦ receiver_in_range k x
    ]

pub dealt_in_range : (seat : ℕ) (k : Kind) (n x : ℕ) → AllByRecursion (InRange seat k) (dealt seat k n x)
dealt_in_range seat k zero x = tt
dealt_in_range seat k (suc n) x = (half_in_range seat k x, dealt_in_range seat k n (run (entries k + 2) x))
