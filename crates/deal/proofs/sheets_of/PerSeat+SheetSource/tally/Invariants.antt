-- No more pairs fit than are drawn, and no more are drawn than the loop has tried.
use Rattle.std.proofs.Common.{◌≤◌}
use Rattle.deal.proofs.sheets_of.PerSeat+SheetSource.tally.Given as goal

abbrev pub invariant-loop : goal.invariant-loop
invariant-loop l = (l.fit ≤ l.drawn) × (l.drawn ≤ l.counter)
