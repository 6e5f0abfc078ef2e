-- Laws of the running number and of what is dealt from it.
use Rattle.std.proofs.Common.{◌≡◌, ℕ, zero, suc, ◌+◌, ◌-◌, ◌%◌, ◌^◌, ◌<◌, ◌≤◌, true, false, if◌then◌else◌, ◌∷◌, length, sym, refl, ap, ap₂, ◌∙◌, subst, add-one, arith, pow_mono, pow_pos}
use Rattle.std.proofs.lemmas.Nat.{div_below, pow-add}
use Rattle.std.proofs.lemmas.List.FromFn.{length-map-range_with_len}
use Rattle.std.specs.List.{AllZip}
use Rattle.refusal.specs.declared.kind.Kind.{Kind}
use Rattle.refusal.specs.declared.kind.Kind.TheVariants.{Bit, Ring0, Ring1}
use Rattle.refusal.specs.Kinds.{number, entries}
use Rattle.refusal.specs.declared.per_kind.PerKind.{PerKind}
use Rattle.refusal.specs.PerKinds.{at, with_at}
use Rattle.refusal.proofs.Reading.{at_with_same, at_with_other}
use Rattle.lookup.specs.Lookup.{Fit}
use Rattle.lookup.specs.Halves.{sender_from, receiver_from}
use Rattle.sources.specs.Halves.{Fits, sends, width}
use Rattle.sources.specs.Calls.{Took}
use Rattle.dealer.specs.Running.{step, run, top_bits, mask, choice, sender_half, receiver_half, half, dealt}
use Rattle.dealer.specs.Ranges.{choice_lt, mask_at}
use Rattle.dealer.specs.Dealers.{LawfulDeal}

pub run_more : (n x : ℕ) → run (n + 1) x ≡ step (run n x)
run_more n x = rw add-one

-- a field of 32 bits at most fits in 32 bits
pub top_fits : (size x : ℕ) → 0 < size → size ≤ 32 → x < 2 ^ 64 → top_bits size x < 2 ^ 32
top_fits size x some few low =
    let wide : x < 2 ^ (32 + (64 - size)) = let h = pow_mono {i = 64} {j = 32 + (64 - size)} (omega arith) in omega arith in
    div_below x (2 ^ (64 - size)) (2 ^ 32) (pow_pos (64 - size)) (subst (λ m. x < m) (pow-add 2 32 (64 - size)) wide)

pub length_dealt : (seat : ℕ) (k : Kind) (n x : ℕ) → length (dealt seat k n x) ≡ n
length_dealt seat k zero x = refl
length_dealt seat k (suc n) x = ap suc (length_dealt seat k n (run (entries k + 2) x))

-- the two halves of a correlation fit

fits : (k : Kind) (x : ℕ) → Fit (sender_from (sender_half k x)) (receiver_from (receiver_half k x))
fits k x = sym (mask_at (mask k x) (entries k) (choice k x) (choice_lt k x))

halves_fit : (k : Kind) (x : ℕ) → Fits k (half 0 k x) (half 1 k x)
halves_fit Bit x = fits Bit x
halves_fit Ring0 x = fits Ring0 x
halves_fit Ring1 x = fits Ring1 x

pub dealt_fit : (k : Kind) (n x : ℕ) → AllZip (Fits k) (dealt 0 k n x) (dealt 1 k n x)
dealt_fit k zero x = tt
dealt_fit k (suc n) x = (halves_fit k x, dealt_fit k n (run (entries k + 2) x))

pub lawful_deal : LawfulDeal
lawful_deal start counts d e D E k =
    let made = dealt_fit k (at counts k) ((start + number k) % 2 ^ 64) in
    rw (D.left k, E.left k) made

-- one half of a kind taken: what a dealer stands for before and after

half_long : (seat : ℕ) (k : Kind) (x : ℕ) → length (half seat k x) ≡ width seat k
half_long seat k x = elim (sends seat k) as (λ b. length (if b then sender_half k x else receiver_half k x) ≡ (if b then entries k + 1 else 2)) [
  | true ↦ length-map-range_with_len (mask k x) 0 (entries k + 1)
  | false ↦ refl
]

dealt_first : (seat : ℕ) (k : Kind) (n x : ℕ) → 0 < n → dealt seat k n x ≡ half seat k x ∷ dealt seat k (n - 1) (run (entries k + 2) x)
dealt_first seat k zero x h = absurd (omega arith)
dealt_first seat k (suc n) x h =
    let e : suc n - 1 ≡ n = omega arith in
    ap (λ m. half seat k x ∷ dealt seat k m (run (entries k + 2) x)) (sym e)

module _ (seat : ℕ) (k : Kind) (counts running : PerKind ℕ) where
  abbrev counts' : PerKind ℕ
  counts' = with_at k (at counts k - 1) counts

  abbrev running' : PerKind ℕ
  running' = with_at k (run (entries k + 2) (at running k)) running

  pub dealer_took : 0 < at counts k → Took seat (λ j. dealt seat j (at counts j) (at running j)) (λ j. dealt seat j (at counts' j) (at running' j)) k (half seat k (at running k))
  dealer_took some = record {
    long = half_long seat k (at running k);
    first =
        dealt_first seat k (at counts k) (at running k) some
        ∙ ap (λ t. half seat k (at running k) ∷ t) (sym (ap₂ (dealt seat k) (at_with_same k (at counts k - 1) counts) (at_with_same k (run (entries k + 2) (at running k)) running)));
    others = λ j ne. ap₂ (dealt seat j) (at_with_other k j (at counts k - 1) counts ne) (at_with_other k j (run (entries k + 2) (at running k)) running ne);
  }
