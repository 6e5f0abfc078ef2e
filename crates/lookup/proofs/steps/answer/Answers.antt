use Rattle.std.proofs.Common.{◌≡◌, ℕ, ◌<◌, [], ◌∷◌, ◌++◌, map, length, sym, ap, ◌∙◌, arith}
use Rattle.std.specs.List.{range_with_len}
use Rattle.std.proofs.lemmas.List.FromFn.{map-range_with_len_more}
use Rattle.std.proofs.lemmas.List.{take_more_set, take_all}
use Rattle.lookup.specs.Lookup.{entry_of, word}
use Rattle.lookup.specs.Halves.{sender_of}
use Rattle.lookup.proofs.steps.answer.Goals as goal

pub loop-k-preserved : goal.loop-k-preserved
loop-k-preserved g c =
    let k = c.loop-k.k in
    let ws = c.loop-k.words in
    let f : ℕ → ℕ = word g.G.Group.operation (length c.args.half.masks.now) (entry_of c.args.table.now) (sender_of c.args.half) c.args.request in
    let inside : k < length ws = omega arith in
    take_more_set ws k c.word.result inside
    ∙ ap (λ l. l ++ (c.word.result ∷ [])) c.loop-k.invariant
    ∙ ap (λ w. map f (range_with_len 0 k) ++ (w ∷ [])) c.word.ensures
    ∙ sym (map-range_with_len_more f 0 k k (omega arith))

pub returns : goal.returns
returns g c =
    let f : ℕ → ℕ = word g.G.Group.operation (length c.args.half.masks.now) (entry_of c.args.table.now) (sender_of c.args.half) c.args.request in
    let n : c.loop-k.k ≡ length c.args.words.now = omega arith in
    sym (take_all c.loop-k.k c.loop-k.words (omega arith)) ∙ c.loop-k.invariant ∙ ap (λ m. map f (range_with_len 0 m)) n
