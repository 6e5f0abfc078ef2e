use Rattle.std.proofs.Common.{◌≡◌, map, length, take}
use Rattle.std.specs.List.{range_with_len}
use Rattle.lookup.specs.Lookup.{entry_of, word}
use Rattle.lookup.specs.Halves.{sender_of}
use Rattle.lookup.proofs.steps.answer.Given as goal

-- the words so far are those of the places so far
abbrev pub invariant-loop-k : goal.invariant-loop-k
invariant-loop-k g l = take l.k l.words ≡ map (word g.G.Group.operation (length l.half.masks.now) (entry_of l.table) (sender_of l.half) l.request) (range_with_len 0 l.k)
