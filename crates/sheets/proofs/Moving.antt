-- What is left of a sheet, one half on.
use Rattle.std.proofs.Common.{◌≡◌, ℕ, zero, suc, ◌+◌, ◌-◌, ◌/◌, ◌<◌, ◌≤◌, List, ◌∷◌, length, sym, refl, ap, ◌∙◌, ap₂, arith}
use native.Mathlib.Nat.{add-div_right, div-eq_of_lt}
use native.Mathlib.Decide.{dec_lt}
use Rattle.refusal.specs.declared.kind.Kind.{Kind}
use Rattle.refusal.specs.declared.per_kind.PerKind.{PerKind}
use Rattle.refusal.specs.PerKinds.{at, with_at}
use Rattle.refusal.proofs.Reading.{at_with_same, at_with_other}
use Rattle.sources.specs.Halves.{Halves, width}
use Rattle.sources.specs.Calls.{Took}
use Rattle.sheets.specs.Ranges.{row_long}
use Rattle.sheets.specs.Layout.{field_size, half_size, row_at, halves_at}

pub length_halves : (bs : List ℕ) (seat : ℕ) (k : Kind) (n p : ℕ) → length (halves_at bs seat k n p) ≡ n
length_halves bs seat k zero p = refl
length_halves bs seat k (suc n) p = ap suc (length_halves bs seat k n (p + half_size seat k))

halves_first : (bs : List ℕ) (seat : ℕ) (k : Kind) (n p : ℕ) → 0 < n
    → halves_at bs seat k n p ≡ row_at bs (field_size seat k) p 0 (width seat k) ∷ halves_at bs seat k (n - 1) (p + half_size seat k)
halves_first bs seat k zero p h = absurd (omega arith)
halves_first bs seat k (suc n) p h =
    let e : suc n - 1 ≡ n = omega arith in
    ap (λ m. row_at bs (field_size seat k) p 0 (width seat k) ∷ halves_at bs seat k m (p + half_size seat k)) (sym e)

-- a number that holds a size once at least is no less than it, and once less without it
pub one_fits : (a s : ℕ) → 0 < a / s → s ≤ a
one_fits a s h = elim (dec_lt a s) [
  | yes l ↦ absurd (let e = div-eq_of_lt l in let z : ⊥ = omega arith in z)
  | no l ↦ omega arith
]

one_fewer : (a s : ℕ) → 0 < s → 0 < a / s → (a - s) / s ≡ a / s - 1
one_fewer a s pos h =
    let le = one_fits a s h in
    let e : a ≡ a - s + s = omega arith in
    let q : a / s ≡ (a - s) / s + 1 = ap (λ x. x / s) e ∙ add-div_right (a - s) pos in
    omega arith

-- one half of a kind taken: what a sheet stands for before and after
module _ (bs : List ℕ) (seat : ℕ) (k : Kind) (marks ends : PerKind ℕ) where
  abbrev left_at : PerKind ℕ → Halves
  left_at ms j = halves_at bs seat j ((at ends j - at ms j) / half_size seat j) (at ms j)

  abbrev marks' : PerKind ℕ
  marks' = with_at k (at marks k + half_size seat k) marks

  mark_is : at marks' k ≡ at marks k + half_size seat k
  mark_is = at_with_same k (at marks k + half_size seat k) marks

  pub sheet_took : 0 < half_size seat k → 0 < (at ends k - at marks k) / half_size seat k
      → Took seat (left_at marks) (left_at marks') k (row_at bs (field_size seat k) (at marks k) 0 (width seat k))
  sheet_took pos some = record {
    long = row_long bs (field_size seat k) (at marks k) 0 (width seat k);
    first =
        halves_first bs seat k ((at ends k - at marks k) / half_size seat k) (at marks k) some
        ∙ ap (λ t. row_at bs (field_size seat k) (at marks k) 0 (width seat k) ∷ t) (sym (ap₂ (halves_at bs seat k) have_is mark_is));
    others = λ j ne. ap (λ m. halves_at bs seat j ((at ends j - m) / half_size seat j) m) (at_with_other k j (at marks k + half_size seat k) marks ne);
  }
    where
      have_is : (at ends k - at marks' k) / half_size seat k ≡ (at ends k - at marks k) / half_size seat k - 1
      have_is =
          let e : at ends k - at marks' k ≡ at ends k - at marks k - half_size seat k = let m = mark_is in omega arith in
          ap (λ x. x / half_size seat k) e ∙ one_fewer (at ends k - at marks k) (half_size seat k) pos some
