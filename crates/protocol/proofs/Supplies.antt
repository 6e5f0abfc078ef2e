-- Lists by kind: one more, one less, the front; and lists that match place by place.
use Rattle.std.proofs.Common.{◌≡◌, ℕ, zero, suc, ◌+◌, ◌<◌, ◌≤◌, List, [], ◌∷◌, ◌++◌, length, take, drop, slice_index_or, sym, refl, ap, ◌∙◌, arith, length-drop, drop-cons, drop-drop, one-add, get_or-take}
use Rattle.std.specs.List.{AllZip}
use Rattle.std.proofs.lemmas.List.{drop-take, drop-append-le, nil_from_length}
use Rattle.std.proofs.lemmas.Slice.Zip.{AllZip-long}
use Rattle.refusal.specs.declared.kind.Kind.{Kind}
use Rattle.refusal.specs.declared.kind.Kind.TheVariants.{Bit, Ring0, Ring1}
use Rattle.refusal.specs.Kinds.{on}
use Rattle.sources.specs.Halves.{Half, Halves}

-- what holds of a step that is taken where the kinds agree, and of one that is not, holds of `on`
pub by_on : (k j : Kind) (P : ((X : Type 0) → (X → X) → X → X) → Type 0) → (k ≡ j → P (λ X g x. g x)) → P (λ X g x. x) → P (λ X g x. on k j g x)
by_on Bit Bit P p q = p refl
by_on Ring0 Ring0 P p q = p refl
by_on Ring1 Ring1 P p q = p refl
by_on _ _ P p q = q

pub on_self : {X : Type 0} (k : Kind) (g : X → X) (x : X) → on k k g x ≡ g x
on_self Bit g x = refl
on_self _ g x = refl

-- a kind of which one more is used has one
pub some_left : (k : Kind) (n m : ℕ) → on k k suc n ≤ m → 0 < m
some_left k n m h = let e = on_self k suc n in omega arith

pub on_plus : (k j : Kind) (n m : ℕ) → on k j suc n + m ≡ on k j suc (n + m)
on_plus k j n m = by_on k j (λ h. h ℕ suc n + m ≡ h ℕ suc (n + m)) (λ _. omega arith) refl

-- one half more, in front of its kind
abbrev pub push : Kind → Half → Halves → Halves
push k x s j = on k j (λ l. x ∷ l) (s j)

pub next_push : (k : Kind) (x : Half) (s : Halves) → slice_index_or (push k x s k) 0 [] ≡ x
next_push k x s = ap (λ l. slice_index_or l 0 []) (on_self k (λ l. x ∷ l) (s k))

pub rest_push : (k : Kind) (x : Half) (s : Halves) (j : Kind) → on k j (drop 1) (push k x s j) ≡ s j
rest_push k x s j = by_on k j (λ h. h (List Half) (drop 1) (h (List Half) (λ l. x ∷ l) (s j)) ≡ s j) (λ _. refl) refl

pub next_front : {X : Type 0} (k : Kind) (n : ℕ) (l : List X) (d : X) → slice_index_or (take (on k k suc n) l) 0 d ≡ slice_index_or l 0 d
next_front k n l d = ap (λ m. slice_index_or (take m l) 0 d) (on_self k suc n) ∙ get_or-take (suc n) l 0 d (omega arith)

module _ {X : Type 0} (k j : Kind) (n : ℕ) (l : List X) where
  pub rest_front : on k j (drop 1) (take (on k j suc n) l) ≡ take n (on k j (drop 1) l)
  rest_front = by_on k j (λ h. h (List X) (drop 1) (take (h ℕ suc n) l) ≡ take n (h (List X) (drop 1) l)) (λ _. rw one-add at (drop-take 1 n l)) refl

  pub rest_long : on k j suc n ≤ length l → n ≤ length (on k j (drop 1) l)
  rest_long = by_on k j (λ h. h ℕ suc n ≤ length l → n ≤ length (h (List X) (drop 1) l)) (λ _ h. omega (arith, length-drop 1 l)) (λ h. h)

  pub rest_exact : length l ≡ on k j suc n → length (on k j (drop 1) l) ≡ n
  rest_exact = by_on k j (λ h. length l ≡ h ℕ suc n → length (h (List X) (drop 1) l) ≡ n) (λ _ h. omega (arith, length-drop 1 l)) (λ h. h)

  pub rest_back : drop n (on k j (drop 1) l) ≡ drop (on k j suc n) l
  rest_back = by_on k j (λ h. drop n (h (List X) (drop 1) l) ≡ drop (h ℕ suc n) l) (λ _. rw one-add at (drop-drop n 1 l)) refl

  pub rest_append : (m : List X) → on k j suc n ≤ length l → on k j (drop 1) (l ++ m) ≡ on k j (drop 1) l ++ m
  rest_append m = by_on k j (λ h. h ℕ suc n ≤ length l → h (List X) (drop 1) (l ++ m) ≡ h (List X) (drop 1) l ++ m) (λ _ h. drop-append-le 1 l m (omega arith)) (λ h. refl)

-- lists that match
module _ {X : Type 0} (R : X → X → Type 0) where
  pub each_none : (xs : List X) → length xs ≡ 0 → AllZip R xs []
  each_none [] e = tt
  each_none (x ∷ xs) e = absurd (omega arith)

  pub each_empty : (xs ys : List X) → length xs ≡ 0 → AllZip R xs ys → ys ≡ []
  each_empty xs ys e h = nil_from_length ys (AllZip-long R xs ys h ∙ e)

  pub each_take : (n : ℕ) (xs ys : List X) → AllZip R xs ys → AllZip R (take n xs) (take n ys)
  each_take zero xs ys h = tt
  each_take (suc n) [] [] h = tt
  each_take (suc n) (x ∷ xs) (y ∷ ys) h = (h.0, each_take n xs ys h.1)
  each_take (suc n) _ _ h = absurd h

  pub each_drop : (n : ℕ) (xs ys : List X) → AllZip R xs ys → AllZip R (drop n xs) (drop n ys)
  each_drop zero xs ys h = h
  each_drop (suc n) [] [] h = tt
  each_drop (suc n) (x ∷ xs) (y ∷ ys) h = each_drop n xs ys h.1
  each_drop (suc n) _ _ h = absurd h

  pub each_rest : (k j : Kind) (xs ys : List X) → AllZip R xs ys → AllZip R (on k j (drop 1) xs) (on k j (drop 1) ys)
  each_rest k j xs ys = by_on k j (λ h. AllZip R xs ys → AllZip R (h (List X) (drop 1) xs) (h (List X) (drop 1) ys)) (λ _. each_drop 1 xs ys) (λ h. h)

  each_cons : (xs ys : List X) (d y : X) → 0 < length xs → R (slice_index_or xs 0 d) y → AllZip R (drop 1 xs) ys → AllZip R xs (y ∷ ys)
  each_cons [] ys d y l r h = absurd (omega arith)
  each_cons (x ∷ xs) ys d y l r h = (r, h)

  -- one more in front, where the kinds agree
  pub each_push : (k j : Kind) (xs ys : List X) (d y : X) → (k ≡ j → 0 < length xs) → (k ≡ j → R (slice_index_or xs 0 d) y) →
      AllZip R (on k j (drop 1) xs) ys → AllZip R xs (on k j (λ l. y ∷ l) ys)
  each_push k j xs ys d y l r =
      by_on k j (λ h. AllZip R (h (List X) (drop 1) xs) ys → AllZip R xs (h (List X) (λ l. y ∷ l) ys)) (λ e. each_cons xs ys d y (l e) (r e)) (λ h. h)

  -- a list that matches one with a first has a first
  pub each_split : (k j : Kind) (xs ys : List X) (y e : X) → (k ≡ j → 0 < length xs) → (k ≡ j → y ≡ slice_index_or ys 0 e) → AllZip R xs ys →
      ys ≡ on k j (λ l. y ∷ l) (on k j (drop 1) ys)
  each_split k j xs ys y e l r h =
      by_on k j (λ g. ys ≡ g (List X) (λ l. y ∷ l) (g (List X) (drop 1) ys))
      (λ i. let some = l i in drop-cons ys 0 e (omega (arith, AllZip-long R xs ys h)) ∙ ap (λ z. z ∷ drop 1 ys) (sym (r i))) refl
