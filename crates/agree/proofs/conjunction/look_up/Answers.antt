use Rattle.std.proofs.Common.{◌≡◌, ◌%◌, map, length, ap, ◌∙◌, ap₂}
use Rattle.std.specs.List.{range_with_len}
use Rattle.lookup.specs.Groups.{xor}
use Rattle.lookup.specs.Lookup.{Sender, entry_of, request, word, sender_share, receiver_share}
use Rattle.lookup.specs.Halves.{sender_of, receiver_of, sender_from, receiver_from}
use Rattle.agree.specs.Conjunction.{table, index}
use Rattle.agree.proofs.Conjoining.{conjoined}
use Rattle.agree.proofs.conjunction.look_up.Goals as goal

pub returns : goal.returns
returns c =
    let a = c.args.a in
    let b = c.args.b in
    let s = sender_from c.args.sent.now in
    let r = receiver_from c.args.sought.now in
    let d = c.request-asked.result in
    let sender : sender_of c.from-sender.result ≡ s = c.from-sender.ensures in
    let receiver : receiver_of c.from-receiver.result ≡ r = c.from-receiver.ensures in
    let asked : d ≡ request 16 r (index b) = c.request-asked.ensures ∙ ap₂ (request 16) receiver c.index.ensures in
    let wrote : c.answer.new.words ≡ map (word xor (length (sender_of c.from-sender.result).masks) (entry_of c.table.result) (sender_of c.from-sender.result) d) (range_with_len 0 16) = c.answer.ensures in
    let by_masks : c.answer.new.words ≡ map (word xor (length s.masks) (entry_of (table a)) s d) (range_with_len 0 16) =
    wrote ∙ ap₂ (λ (h : Sender) t. map (word xor (length h.masks) (entry_of t) h d) (range_with_len 0 16)) sender c.table.ensures in
    let first : c.sender_share.result % 2 ≡ sender_share xor s % 2 = ap (λ m. m % 2) (c.sender_share.ensures ∙ ap (sender_share xor) sender) in
    let second : c.receiver_share.result % 2 ≡ receiver_share xor r (index b) c.answer.new.words % 2 =
    ap (λ m. m % 2) (c.receiver_share.ensures ∙ ap₂ (λ h y. receiver_share xor h y c.answer.new.words) receiver c.index-2.ensures) in
    record {
      asked = asked;
      answered = λ S. by_masks ∙ ap (λ n. map (word xor n (entry_of (table a)) s d) (range_with_len 0 16)) S.sound.long;
      conjoins = λ S R F.
          conjoined a b s r (record { request = d; words = c.answer.new.words; first = c.sender_share.result % 2; second = c.receiver_share.result % 2 }) S.sound R.sound F asked
          (by_masks ∙ ap (λ n. map (word xor n (entry_of (table a)) s d) (range_with_len 0 16)) S.sound.long) first second;
    }
