-- When bytes are a sheet, and what they say then.
use Rattle.std.proofs.Common.{◌≡◌, ℕ, ◌+◌, ◌-◌, ◌*◌, ◌/◌, ◌<◌, true, false, if◌then◌else◌, List, Some, None, sym, refl, ap, ◌∙◌, ap₂, mul-div_cancel, arith}
use mathlib.Core.Path.{fun_ext}
use Rattle.refusal.specs.declared.kind.Kind.{Kind}
use Rattle.refusal.specs.declared.kind.Kind.TheVariants.{Bit, Ring0, Ring1}
use Rattle.refusal.specs.declared.per_kind.PerKind.{PerKind}
use Rattle.refusal.specs.PerKinds.{at}
use Rattle.sheets.specs.Bits.{bits_of}
use Rattle.sheets.specs.Layout.{Sheet, half_size, halves_at, seat_of, count_of, span_of, begin_of, end_of, whole, decode}

sum_less : (a b : ℕ) → a + b - a ≡ b
sum_less a b = omega arith

pub span_is : (bs : List ℕ) (k : Kind) (r n seat : ℕ) → r ≡ n * half_size seat k → n ≡ count_of bs k → seat ≡ seat_of bs → r ≡ span_of bs k
span_is bs k r n seat e count i = e ∙ ap₂ (λ m j. m * half_size j k) count i

module _ (bytes : List ℕ) where
  abbrev bs : List ℕ
  bs = bits_of bytes

  abbrev says : Sheet
  says = record { seat = seat_of bs; left = λ k. halves_at bs (seat_of bs) k (count_of bs k) (begin_of bs k) }

  decoded : decode bytes ≡ (if whole bytes then Some says else None)
  unfolding decode
  decoded = refl

  pub no_sheet : whole bytes ≡ false → decode bytes ≡ None
  no_sheet h = decoded ∙ ap (λ b. if b then Some says else None) h

  right : whole bytes ≡ true → decode bytes ≡ Some says
  right h = decoded ∙ ap (λ b. if b then Some says else None) h

  -- a source whose marks and ends are those of the sheet stands for what it says
  pub end_is : (a b c : ℕ) → a ≡ span_of bs Bit → b ≡ span_of bs Ring0 → c ≡ span_of bs Ring1 → 40 + a + b + c ≡ end_of bs
  end_is a b c a_is b_is c_is = ap₂ (λ x y. 40 + x + y + c) a_is b_is ∙ ap (λ z. 40 + span_of bs Bit + span_of bs Ring0 + z) c_is

  module _ (seat a b c : ℕ) (a_is : a ≡ span_of bs Bit) (b_is : b ≡ span_of bs Ring0) (c_is : c ≡ span_of bs Ring1)
      (seat_is : seat ≡ seat_of bs) (pos : (k : Kind) → 0 < half_size (seat_of bs) k) where
    abbrev marks : PerKind ℕ
    marks = record { bit = 40; ring0 = 40 + a; ring1 = 40 + a + b }

    abbrev ends : PerKind ℕ
    ends = record { bit = 40 + a; ring0 = 40 + a + b; ring1 = 40 + a + b + c }

    begin_is : (k : Kind) → at marks k ≡ begin_of bs k
    begin_is Bit = refl
    begin_is Ring0 = ap (λ x. 40 + x) a_is
    begin_is Ring1 = ap₂ (λ x y. 40 + x + y) a_is b_is

    gap_is : (k : Kind) → at ends k - at marks k ≡ span_of bs k
    gap_is Bit = sum_less 40 a ∙ a_is
    gap_is Ring0 = sum_less (40 + a) b ∙ b_is
    gap_is Ring1 = sum_less (40 + a + b) c ∙ c_is

    have_is : (k : Kind) → (at ends k - at marks k) / half_size seat k ≡ count_of bs k
    have_is k = ap₂ (λ x i. x / half_size i k) (gap_is k) seat_is ∙ mul-div_cancel (count_of bs k) (pos k)

    left_is : (k : Kind) → halves_at bs seat k ((at ends k - at marks k) / half_size seat k) (at marks k) ≡ says.left k
    left_is k = ap (λ i. halves_at bs i k ((at ends k - at marks k) / half_size seat k) (at marks k)) seat_is ∙ ap₂ (halves_at bs (seat_of bs) k) (have_is k) (begin_is k)

    pub opened : whole bytes ≡ true
        → decode bytes ≡ Some (record { seat = seat; left = λ k. halves_at bs seat k ((at ends k - at marks k) / half_size seat k) (at marks k) })
    opened h = right h ∙ (let e = fun_ext left_is in ap Some (λ i. record { seat = sym seat_is i; left = sym e i }))
