use Rattle.std.proofs.Common.{◌≡◌, ◌+◌, sym, refl, ap, ◌∙◌}
use Rattle.refusal.specs.declared.kind.Kind.TheVariants.{Bit, Ring0, Ring1}
use Rattle.refusal.specs.Seats.{number as seat_number}
use Rattle.sheets.specs.Bits.{bits_of}
use Rattle.sheets.specs.Layout.{seat_of, end_of, whole_at}
use Rattle.sheets.proofs.Sizes.{half_some}
use Rattle.sheets.proofs.Opening.{span_is, no_sheet, end_is, opened}
use Rattle.sheets.proofs.sheet.SheetSource.open.Goals as goal

pub returns-then-not-is_whole : goal.returns-then-not-is_whole
returns-then-not-is_whole c =
    let bytes = c.args.sheet.now in
    let bs = bits_of bytes in
    let seat = c.seat_of-seat.ensures in
    let a = span_is bs Bit c.span-first.result c.read.result (seat_number c.seat_of-seat.result) c.span-first.ensures.is c.read.ensures.is seat in
    let b = span_is bs Ring0 c.span.result c.read-2.result (seat_number c.seat_of-seat.result) c.span.ensures.is c.read-2.ensures.is seat in
    let d = span_is bs Ring1 c.span-2.result c.read-3.result (seat_number c.seat_of-seat.result) c.span-2.ensures.is c.read-3.ensures.is seat in
    let third = 40 + c.span-first.result + c.span.result + c.span-2.result in
    let end : third ≡ end_of bs = end_is bytes c.span-first.result c.span.result c.span-2.result a b d in
    record { none = no_sheet bytes (ap (whole_at bytes) (sym end) ∙ sym c.is_whole.ensures ∙ c.if-not-is_whole.true); says = refl }

pub returns : goal.returns
returns c =
    let bytes = c.args.sheet.now in
    let bs = bits_of bytes in
    let seat = c.seat_of-seat.ensures in
    let a = span_is bs Bit c.span-first.result c.read.result (seat_number c.seat_of-seat.result) c.span-first.ensures.is c.read.ensures.is seat in
    let b = span_is bs Ring0 c.span.result c.read-2.result (seat_number c.seat_of-seat.result) c.span.ensures.is c.read-2.ensures.is seat in
    let d = span_is bs Ring1 c.span-2.result c.read-3.result (seat_number c.seat_of-seat.result) c.span-2.ensures.is c.read-3.ensures.is seat in
    let third = 40 + c.span-first.result + c.span.result + c.span-2.result in
    let end : third ≡ end_of bs = end_is bytes c.span-first.result c.span.result c.span-2.result a b d in
    opened bytes (seat_number c.seat_of-seat.result) c.span-first.result c.span.result c.span-2.result a b d seat (half_some (seat_of bs)) (ap (whole_at bytes) (sym end) ∙ sym c.is_whole.ensures ∙ c.if-not-is_whole.false)
