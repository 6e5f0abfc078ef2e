-- There are lawful deals.
use Rattle.std.proofs.Common.{ℕ, zero, suc, ◌+◌, ◌<◌, Bool, true, false, not, [], ◌∷◌, replicate, sym, refl, ap, ◌∙◌, subst, arith}
use Rattle.std.specs.List.{AllZip}
use Rattle.std.proofs.lemmas.List.{length-replicate, get_or-replicate, length_push}
use Rattle.refusal.specs.declared.kind.Kind.{Kind}
use Rattle.refusal.specs.declared.kind.Kind.TheVariants.{Bit}
use Rattle.refusal.specs.Kinds.{entries}
use Rattle.lookup.specs.Lookup.{Sender, SenderSound, Fit}
use Rattle.sources.specs.Halves.{Half, operation}
use Rattle.protocol.specs.Seats.{sends, Correlated, Paired}
use Rattle.protocol.specs.Theorems.{DealsExist}
use Rattle.protocol.proofs.Lookups.{sender_row, sender_back}

-- halves of noughts

abbrev masks_of : Kind → Sender
masks_of k = record { masks = replicate (entries k) 0; blind = 0 }

abbrev nought : Bool → Kind → Half
nought true k = sender_row (masks_of k)
nought false k = 0 ∷ 0 ∷ []

some_entry : (k : Kind) → 0 < entries k
some_entry Bit = omega arith
some_entry _ = omega arith

zero_in : (k : Kind) → 0 < (operation k).size
zero_in Bit = omega arith
zero_in _ = omega arith

masks_sound : (k : Kind) → SenderSound (operation k) (entries k) (masks_of k)
masks_sound k = record {
  long = length-replicate (entries k) 0;
  masks_in = λ i l. rw (get_or-replicate {A = ℕ} (entries k) i 0 0 l) (zero_in k);
  blind_in = zero_in k;
}

noughts : (k : Kind) → Correlated k (nought true k) (nought false k)
noughts k = record {
  sender = record {
    long = length_push (masks_of k).masks 0 ∙ ap (λ n. n + 1) (length-replicate (entries k) 0);
    sound = rw (sender_back (masks_of k)) (masks_sound k);
  };
  receiver = record { long = refl; sound = record { choice_in = some_entry k; mask_in = zero_in k } };
  fit = subst (λ s. Fit s (record { choice = 0; mask = 0 })) (sym (sender_back (masks_of k))) (sym (get_or-replicate (entries k) 0 0 0 (some_entry k)));
}

noughts_paired : (b : Bool) (k : Kind) → Paired b k (nought b k) (nought (not b) k)
noughts_paired true k = noughts k
noughts_paired _ k = noughts k

each_replicate : (R : Half → Half → Type 0) (n : ℕ) (x y : Half) → R x y → AllZip R (replicate n x) (replicate n y)
each_replicate R zero x y r = tt
each_replicate R (suc n) x y r = (r, each_replicate R n x y r)

pub deals_exist : DealsExist
deals_exist f n = (
  (λ k. replicate (n k) (nought (sends f k) k)),
  (λ k. replicate (n k) (nought (not (sends f k)) k)),
  (λ k. length-replicate (n k) (nought (sends f k) k)),
  (λ k. each_replicate (Paired (sends f k) k) (n k) (nought (sends f k) k) (nought (not (sends f k)) k) (noughts_paired (sends f k) k)),
)
