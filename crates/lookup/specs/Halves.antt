-- The halves that the code holds, as the theory has them: from the structs, and from rows of words.
use Rattle.std.specs.Prelude.{ℕ, ◌-◌, List, length, take, slice_index}
use Rattle.lookup.specs.declared.half.SenderHalf.{SenderHalf}
use Rattle.lookup.specs.declared.half.ReceiverHalf.{ReceiverHalf}
use Rattle.lookup.specs.Lookup.{Sender, Receiver}

abbrev pub sender_of : SenderHalf → Sender
sender_of s = record { masks = s.masks.now; blind = s.blind }

abbrev pub receiver_of : ReceiverHalf → Receiver
receiver_of r = record { choice = r.choice; mask = r.mask }

-- the masks and then the blind
abbrev pub sender_from : List ℕ → Sender
sender_from ws = record { masks = take (length ws - 1) ws; blind = slice_index ws (length ws - 1) }

-- the choice and then the mask
abbrev pub receiver_from : List ℕ → Receiver
receiver_from ws = record { choice = slice_index ws 0; mask = slice_index ws 1 }
