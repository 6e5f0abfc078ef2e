-- What a quota does, from what the source below it does.
use Rattle.std.specs.Prelude.{◌≡◌, ℕ, zero, suc, ◌-◌, ◌<◌, List, ◌∷◌, take, drop}
use Rattle.std.proofs.Common.{sym, ap, ◌∙◌, subst, ap₂, inl, inr, arith}
use mathlib.Core.Path.{fun_ext}
use Rattle.refusal.specs.declared.kind.Kind.{Kind}
use Rattle.refusal.specs.declared.per_kind.PerKind.{PerKind}
use Rattle.refusal.specs.PerKinds.{at, with_at}
use Rattle.refusal.proofs.Reading.{at_with_same, at_with_other, same_kind}
use Rattle.sources.specs.Halves.{Half, Halves}
use Rattle.sources.specs.Calls.{Took}

abbrev pub limited : PerKind ℕ → Halves → Halves
limited a left k = take (at a k) (left k)

abbrev pub beyond : PerKind ℕ → Halves → Halves
beyond a left k = drop (at a k) (left k)

-- one half off a list is one off a limit of it

take_cons : {X : Type 0} (n : ℕ) (x : X) (xs : List X) → 0 < n → take n (x ∷ xs) ≡ x ∷ take (n - 1) xs
take_cons zero x xs h = absurd (omega arith)
take_cons (suc n) x xs h = let e : suc n - 1 ≡ n = omega arith in ap (λ m. x ∷ take m xs) (sym e)

drop_cons : {X : Type 0} (n : ℕ) (x : X) (xs : List X) → 0 < n → drop n (x ∷ xs) ≡ drop (n - 1) xs
drop_cons zero x xs h = absurd (omega arith)
drop_cons (suc n) x xs h = let e : suc n - 1 ≡ n = omega arith in ap (λ m. drop m xs) (sym e)

-- the source below answers
module _ (a : PerKind ℕ) (seat : ℕ) (left left' : Halves) (k : Kind) (half : Half)
    (some : 0 < at a k) (d : Took seat left left' k half) where
  abbrev lower : PerKind ℕ
  lower = with_at k (at a k - 1) a

  pub below_took : Took seat (limited a left) (limited lower left') k half
  below_took = record {
    long = d.long;
    first =
        ap (take (at a k)) d.first ∙ take_cons (at a k) half (left' k) some
        ∙ ap (λ m. half ∷ take m (left' k)) (sym (at_with_same k (at a k - 1) a));
    others = λ j ne. ap₂ (λ m xs. take m xs) (at_with_other k j (at a k - 1) a ne) (d.others j ne);
  }

  -- what lies past the quota stays
  pub beyond_stays : beyond lower left' ≡ beyond a left
  beyond_stays = fun_ext (λ j. elim (same_kind j k) [
    | inl q ↦ subst (λ i. beyond lower left' i ≡ beyond a left i) (sym q) here
    | inr ne ↦ ap₂ (λ m xs. drop m xs) (at_with_other k j (at a k - 1) a ne) (d.others j ne)
  ])
    where
      here : beyond lower left' k ≡ beyond a left k
      here = ap (λ m. drop m (left' k)) (at_with_same k (at a k - 1) a) ∙ sym (drop_cons (at a k) half (left' k) some) ∙ sym (ap (drop (at a k)) d.first)
