-- How large halves are, and the rows that are read field by field.
use Rattle.std.proofs.Common.{◌≡◌, ℕ, zero, suc, ◌+◌, ◌-◌, ◌*◌, ◌<◌, Bool, true, false, if◌then◌else◌, List, [], ◌∷◌, ◌++◌, sym, refl, ap, ◌∙◌, ap₂, arith, lit<}
use Rattle.refusal.specs.declared.kind.Kind.{Kind}
use Rattle.refusal.specs.declared.kind.Kind.TheVariants.{Bit, Ring0, Ring1}
use Rattle.refusal.specs.Kinds.{entries, mask_size, choice_size}
use Rattle.sources.specs.Halves.{sends}
use Rattle.sheets.specs.Bits.{read}
use Rattle.sheets.specs.Layout.{half_size, row_at}

-- one field more of a row that is read
pub row_first : (bs : List ℕ) (size : ℕ → ℕ) (p i n : ℕ) → 0 < n → row_at bs size p i n ≡ read bs p (size i) ∷ row_at bs size (p + size i) (i + 1) (n - 1)
row_first bs size p i zero h = absurd (omega arith)
row_first bs size p i (suc n) h = let e : suc n - 1 ≡ n = omega arith in ap (λ m. read bs p (size i) ∷ row_at bs size (p + size i) (i + 1) m) (sym e)

append_one : {X : Type 0} (xs : List X) (y : X) (ys : List X) → (xs ++ (y ∷ [])) ++ ys ≡ xs ++ (y ∷ ys)
append_one [] y ys = refl
append_one (x ∷ xs) y ys = ap (λ l. x ∷ l) (append_one xs y ys)

-- the fields so far and those to come, one field on
pub row_step : (bs : List ℕ) (size : ℕ → ℕ) (ws : List ℕ) (p p' i n w : ℕ) → i < n → w ≡ read bs p (size i) → p' ≡ p + size i
    → (ws ++ (w ∷ [])) ++ row_at bs size p' (i + 1) (n - (i + 1)) ≡ ws ++ row_at bs size p i (n - i)
row_step bs size ws p p' i n w h e q =
    let m : n - (i + 1) ≡ n - i - 1 = omega arith in
    ap (λ ys. (ws ++ (w ∷ [])) ++ ys) (ap₂ (λ a b. row_at bs size a (i + 1) b) q m)
    ∙ append_one ws w (row_at bs size (p + size i) (i + 1) (n - i - 1))
    ∙ ap (λ v. ws ++ (v ∷ row_at bs size (p + size i) (i + 1) (n - i - 1))) e
    ∙ ap (λ ys. ws ++ ys) (sym (row_first bs size p i (n - i) (omega arith)))

half_some_by : (b : Bool) (k : Kind) → 0 < (if b then (entries k + 1) * mask_size k else choice_size k + mask_size k)
half_some_by true Bit = lit< tt
half_some_by true Ring0 = lit< tt
half_some_by true Ring1 = lit< tt
half_some_by false Bit = lit< tt
half_some_by false Ring0 = lit< tt
half_some_by false Ring1 = lit< tt

pub half_some : (seat : ℕ) (k : Kind) → 0 < half_size seat k
half_some seat k = half_some_by (sends seat k) k
