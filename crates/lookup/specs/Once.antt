-- There is exactly one x with P: one that has it, and whatever has it is that one.
use Rattle.std.specs.Prelude.{◌≡◌}

abbrev pub ExactlyOne : {X : Type 0} → (X → Type 0) → Type 0
ExactlyOne {X} P = (x : X) × P x × ((y : X) → P y → y ≡ x)
