-- The kinds of correlation by number, the sizes of their tables and fields, and who sends.
use Rattle.std.specs.Prelude.{◌≡◌, ℕ, ◌<◌, Result, MatchResult, if◌then◌else◌, ◌==◌}
use Rattle.refusal.specs.declared.kind.Kind.{Kind}
use Rattle.refusal.specs.declared.kind.Kind.TheVariants.{Bit, Ring0, Ring1}
use Rattle.refusal.specs.declared.refusal.Refusal.{Refusal}
use Rattle.refusal.specs.declared.refusal.Refusal.TheVariants.{BadArgument}

abbrev pub number : Kind → ℕ
number Bit = 0
number Ring0 = 1
number Ring1 = 2

-- the kind with a number below 3
abbrev pub kind_of : ℕ → Kind
kind_of n = if n == 0 then Bit else if n == 1 then Ring0 else Ring1

-- the kind that has a number, or the refusal of a number that no kind has
abbrev pub Known : ℕ → Result Kind Refusal → Type 0
Known n r = MatchResult r (λ k. (n < 3) × (k ≡ kind_of n)) (λ e. (2 < n) × (e ≡ BadArgument))

-- how many entries a table has, and so how many masks a sender's half has
abbrev pub entries : Kind → ℕ
entries Bit = 16
entries Ring0 = 4
entries Ring1 = 4

-- how many bits a mask or a blind has, and a choice
abbrev pub mask_size : Kind → ℕ
mask_size Bit = 2
mask_size Ring0 = 32
mask_size Ring1 = 32

abbrev pub choice_size : Kind → ℕ
choice_size Bit = 4
choice_size Ring0 = 2
choice_size Ring1 = 2

-- the seat that sends
abbrev pub sender : Kind → ℕ
sender Bit = 0
sender Ring0 = 0
sender Ring1 = 1

-- at the kind k, f is applied; at the others not
abbrev pub on : {X : Type 0} → Kind → Kind → (X → X) → X → X
on Bit Bit f x = f x
on Bit Ring0 f x = x
on Bit Ring1 f x = x
on Ring0 Bit f x = x
on Ring0 Ring0 f x = f x
on Ring0 Ring1 f x = x
on Ring1 Bit f x = x
on Ring1 Ring0 f x = x
on Ring1 Ring1 f x = f x
