-- What the two sheets of a deal hold, and when that is a lawful deal of so many halves.
use Rattle.std.specs.Prelude.{◌≡◌, ℕ, ◌≤◌, false, List, Some}
use Rattle.refusal.specs.declared.per_kind.PerKind.{PerKind}
use Rattle.refusal.specs.declared.refusal.Refusal.{Refusal}
use Rattle.refusal.specs.declared.seat.Seat.TheVariants.{Zero, One}
use Rattle.refusal.specs.Refusals.{code, plain}
use Rattle.refusal.specs.Seats.{number}
use Rattle.sources.specs.Halves.{Halves}
use Rattle.sheets.specs.Layout.{Sheet, decode}
use Rattle.deal.specs.declared.sheets_of.Findings.{Findings}
use Rattle.deal.specs.declared.sheets_of.Tally.{Tally}

-- what is found of a kind where each sheet has so many halves, all of which fit
abbrev pub whole : ℕ → Tally
whole n = record { drawn = n; fit = n; more = false }

-- what is found of the sheets of seats 0 and 1 that hold so many halves of each kind, all of which fit
abbrev pub lawful : PerKind ℕ → Findings
lawful counts = record {
  seats = record { first = Zero; second = One };
  tallies = record { bit = whole counts.bit; ring0 = whole counts.ring0; ring1 = whole counts.ring1 };
}

-- no more pairs fit than were drawn, and no more were drawn than asked for
pub record Counted (asked : ℕ) (t : Tally) : Type 0 where
  pub drawn : t.drawn ≤ asked
  pub fit : t.fit ≤ t.drawn

-- the bytes are sheets of the seats that were found, and the tallies are in bounds
pub record Examined (xs ys : List ℕ) (counts : PerKind ℕ) (f : Findings) : Type 0 where
  pub one : Halves
  pub other : Halves
  pub first : decode xs ≡ Some (record { seat = number f.seats.first; left = one })
  pub second : decode ys ≡ Some (record { seat = number f.seats.second; left = other })
  pub bit : Counted counts.bit f.tallies.bit
  pub ring0 : Counted counts.ring0 f.tallies.ring0
  pub ring1 : Counted counts.ring1 f.tallies.ring1

-- e refuses bytes of which one or the other are no sheet
pub record Unreadable (xs ys : List ℕ) (e : Refusal) : Type 0 where
  pub says : code e ≡ plain 19
  pub none : (one other : Sheet) → decode xs ≡ Some one → decode ys ≡ Some other → ⊥
