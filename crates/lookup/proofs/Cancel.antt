-- What the laws of a group give: an element put on and taken off again, on either side.
use Rattle.std.proofs.Common.{◌≡◌, ℕ, ◌<◌, sym, ap, ◌∙◌}
use Rattle.lookup.specs.Groups.{Operation, Laws}

module _ {G : Operation} (L : Laws G) where
  pub undo_right : (x y : ℕ) → x < G.size → y < G.size → G.join (G.join x y) (G.inverse y) ≡ x
  undo_right x y hx hy = L.assoc x y (G.inverse y) hx hy (L.inverse_in y hy) ∙ ap (G.join x) (L.inverse_right y hy) ∙ L.neutral_right x hx

  pub redo_right : (x y : ℕ) → x < G.size → y < G.size → G.join (G.join x (G.inverse y)) y ≡ x
  redo_right x y hx hy = L.assoc x (G.inverse y) y hx (L.inverse_in y hy) hy ∙ ap (G.join x) (L.inverse_left y hy) ∙ L.neutral_right x hx

  pub undo_left : (x y : ℕ) → x < G.size → y < G.size → G.join (G.inverse x) (G.join x y) ≡ y
  undo_left x y hx hy = sym (L.assoc (G.inverse x) x y (L.inverse_in x hx) hx hy) ∙ ap (λ u. G.join u y) (L.inverse_left x hx) ∙ L.neutral_left y hy

  pub redo_left : (x y : ℕ) → x < G.size → y < G.size → G.join x (G.join (G.inverse x) y) ≡ y
  redo_left x y hx hy = sym (L.assoc x (G.inverse x) y hx (L.inverse_in x hx) hy) ∙ ap (λ u. G.join u y) (L.inverse_right x hx) ∙ L.neutral_left y hy
