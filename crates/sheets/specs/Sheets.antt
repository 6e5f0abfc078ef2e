-- What a sheet source stands for, and what opening a sheet gives.
use Rattle.std.specs.Prelude.{◌≡◌, ℕ, ◌-◌, ◌/◌, List, Some, None}
use Rattle.refusal.specs.declared.kind.Kind.{Kind}
use Rattle.refusal.specs.declared.refusal.Refusal.{Refusal}
use Rattle.refusal.specs.PerKinds.{at}
use Rattle.refusal.specs.Refusals.{code, plain}
use Rattle.refusal.specs.Seats.{number as seat_number}
use Rattle.sources.specs.Halves.{Halves}
use Rattle.sheets.specs.declared.sheet.SheetSource.{SheetSource}
use Rattle.sheets.specs.Bits.{bits_of}
use Rattle.sheets.specs.Layout.{half_size, halves_at, decode}

abbrev pub sheet_owner : SheetSource → ℕ
sheet_owner s = seat_number s.seat

-- how many halves of a kind lie between its mark and its end
abbrev pub sheet_have : SheetSource → Kind → ℕ
sheet_have s k = (at s.ends k - at s.marks k) / half_size (sheet_owner s) k

abbrev pub sheet_left : SheetSource → Halves
sheet_left s k = halves_at (bits_of s.sheet.now) (sheet_owner s) k (sheet_have s k) (at s.marks k)

-- opening bytes gives what they say, and is refused where they are no sheet
abbrev pub Opened : List ℕ → SheetSource → Type 0
Opened bytes s = decode bytes ≡ Some (record { seat = sheet_owner s; left = sheet_left s })

pub record NotASheet (bytes : List ℕ) (e : Refusal) : Type 0 where
  pub none : decode bytes ≡ None
  pub says : code e ≡ plain 19
