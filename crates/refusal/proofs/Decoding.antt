-- A refusal is read back from its number and values.
use Rattle.std.specs.Prelude.{◌≡◌, ℕ, List, if◌then◌else◌, ◌==◌, slice_index, refl}
use Rattle.std.proofs.Common.{sym, ap, ◌∙◌}
use Rattle.refusal.specs.declared.refusal.Layer.{Layer}
use Rattle.refusal.specs.declared.refusal.Layer.TheVariants.{Sheet, Dealer, Quota}
use Rattle.refusal.specs.declared.refusal.Shortage.{Shortage}
use Rattle.refusal.specs.declared.refusal.Refusal.{Refusal}
use Rattle.refusal.specs.declared.refusal.Refusal.TheVariants.{SeatsWrong, BusyOrUnlike, ChannelUnfit, NoSuchRegister, BadWidth, EmptyOperand, WidthsDiffer, BadArgument, CorrelationsShort, Short, BudgetShort, WrongTurn, PlaceTooShort, WrongMessage, BadLength, ChannelFull, BudgetSpent, NoneWaiting, BadSheet}
use Rattle.refusal.specs.Kinds.{number as kind_number, kind_of}
use Rattle.refusal.specs.Refusals.{Code, code, layer_number, CodesTellApart}
use Rattle.refusal.proofs.Reading.{kind_of_number}

abbrev layer_from : ℕ → Layer
layer_from n = if n == 0 then Sheet else if n == 1 then Dealer else Quota

-- the shortage in the values from the place i on
abbrev shortage_from : List ℕ → ℕ → ℕ → ℕ → Shortage
shortage_from vs i j k = record { kind = kind_of (slice_index vs i); lacking = slice_index vs j; layer = layer_from (slice_index vs k) }

abbrev one_to_eight : ℕ → Refusal
one_to_eight n =
    if n == 1 then SeatsWrong else if n == 2 then BusyOrUnlike else if n == 3 then ChannelUnfit else if n == 4 then NoSuchRegister
    else if n == 5 then BadWidth else if n == 6 then EmptyOperand else if n == 7 then WidthsDiffer else BadArgument

abbrev twelve_up : ℕ → Refusal → Refusal
twelve_up n others =
    if n == 12 then WrongTurn else if n == 13 then PlaceTooShort else if n == 14 then WrongMessage else if n == 15 then BadLength
    else if n == 16 then ChannelFull else if n == 17 then BudgetSpent else if n == 18 then NoneWaiting else if n == 19 then BadSheet else others

abbrev decode : Code → Refusal
decode c =
    let vs = c.values in
    if c.number == 9 then CorrelationsShort (slice_index vs 0) (shortage_from vs 1 2 3)
    else if c.number == 10 then Short (shortage_from vs 0 1 2)
    else if c.number == 11 then BudgetShort (slice_index vs 0)
    else twelve_up c.number (one_to_eight c.number)

layer_back : (l : Layer) → layer_from (layer_number l) ≡ l
layer_back Sheet = refl
layer_back Dealer = refl
layer_back Quota = refl

shortage_back : (s : Shortage) → record { kind = kind_of (kind_number s.kind); lacking = s.lacking; layer = layer_from (layer_number s.layer) } ≡ s
shortage_back s = let a = kind_of_number s.kind in let b = layer_back s.layer in λ i. record { kind = a i; lacking = s.lacking; layer = b i }

decode_code : (e : Refusal) → decode (code e) ≡ e
decode_code SeatsWrong = refl
decode_code BusyOrUnlike = refl
decode_code ChannelUnfit = refl
decode_code NoSuchRegister = refl
decode_code BadWidth = refl
decode_code EmptyOperand = refl
decode_code WidthsDiffer = refl
decode_code BadArgument = refl
decode_code (CorrelationsShort party s) = ap (CorrelationsShort party) (shortage_back s)
decode_code (Short s) = ap Short (shortage_back s)
decode_code (BudgetShort n) = refl
decode_code WrongTurn = refl
decode_code PlaceTooShort = refl
decode_code WrongMessage = refl
decode_code BadLength = refl
decode_code ChannelFull = refl
decode_code BudgetSpent = refl
decode_code NoneWaiting = refl
decode_code BadSheet = refl

pub codes_tell_apart : CodesTellApart
codes_tell_apart e f same = sym (decode_code e) ∙ ap decode same ∙ decode_code f
