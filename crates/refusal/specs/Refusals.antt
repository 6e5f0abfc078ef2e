-- Each refusal as its number and the values that it carries, which contracts speak of.
use Rattle.std.specs.Prelude.{◌≡◌, ℕ, List, [], ◌∷◌}
use Rattle.refusal.specs.declared.kind.Kind.{Kind}
use Rattle.refusal.specs.declared.refusal.Layer.{Layer}
use Rattle.refusal.specs.declared.refusal.Layer.TheVariants.{Sheet, Dealer, Quota}
use Rattle.refusal.specs.declared.refusal.Shortage.{Shortage}
use Rattle.refusal.specs.declared.refusal.Refusal.{Refusal}
use Rattle.refusal.specs.declared.refusal.Refusal.TheVariants.{SeatsWrong, BusyOrUnlike, ChannelUnfit, NoSuchRegister, BadWidth, EmptyOperand, WidthsDiffer, BadArgument, CorrelationsShort, Short, BudgetShort, WrongTurn, PlaceTooShort, WrongMessage, BadLength, ChannelFull, BudgetSpent, NoneWaiting, BadSheet}
use Rattle.refusal.specs.Kinds.{number as kind_number}

pub record Code : Type 0 where
  pub number : ℕ
  pub values : List ℕ

-- a refusal that carries nothing
abbrev pub plain : ℕ → Code
plain n = record { number = n; values = [] }

abbrev pub layer_number : Layer → ℕ
layer_number Sheet = 0
layer_number Dealer = 1
layer_number Quota = 2

abbrev pub shortage_values : Shortage → List ℕ
shortage_values s = kind_number s.kind ∷ s.lacking ∷ layer_number s.layer ∷ []

abbrev pub code : Refusal → Code
code SeatsWrong = plain 1
code BusyOrUnlike = plain 2
code ChannelUnfit = plain 3
code NoSuchRegister = plain 4
code BadWidth = plain 5
code EmptyOperand = plain 6
code WidthsDiffer = plain 7
code BadArgument = plain 8
code (CorrelationsShort party s) = record { number = 9; values = party ∷ shortage_values s }
code (Short s) = record { number = 10; values = shortage_values s }
code (BudgetShort n) = record { number = 11; values = n ∷ [] }
code WrongTurn = plain 12
code PlaceTooShort = plain 13
code WrongMessage = plain 14
code BadLength = plain 15
code ChannelFull = plain 16
code BudgetSpent = plain 17
code NoneWaiting = plain 18
code BadSheet = plain 19

-- a source is short of a kind by a number, and this layer of it says so
abbrev pub short : Kind → ℕ → Layer → Code
short k n l = code (Short (record { kind = k; lacking = n; layer = l }))

abbrev pub CodesTellApart : Type 0
CodesTellApart = (e f : Refusal) → code e ≡ code f → e ≡ f
