-- One lookup over fitting halves gives the "and" of the two bits.
use Rattle.std.proofs.Common.{◌≡◌, ℕ, zero, suc, ◌+◌, ◌*◌, ◌%◌, ◌<◌, Bool, true, false, ◌&&◌, eqb, [], ◌∷◌, get_or, sym, refl, ap, ◌∙◌, subst, ap₂, mod-lt, arith, lit<, eqb-true}
use lib.Bits.{bit_and, bit_xor, and_le_l, xor_comm, xor_lt, xor_mod}
use Rattle.std.specs.List.{AllZip, AllByRecursion}
use Rattle.refusal.specs.declared.kind.Kind.{Kind}
use Rattle.refusal.specs.declared.kind.Kind.TheVariants.{Bit, Ring0, Ring1}
use Rattle.refusal.proofs.Reading.{ring0_bit, ring1_bit}
use Rattle.lookup.specs.Groups.{xor}
use Rattle.lookup.specs.Lookup.{Sender, Receiver, SenderSound, ReceiverSound, Fit, TableIn, entry_of, request, words, sender_share, receiver_share}
use Rattle.lookup.specs.Instances.{xor_laws}
use Rattle.lookup.proofs.Pairing.{shares_join}
use Rattle.sources.specs.Halves.{Half, Halves, InRange, Fits, Lawful}
use Rattle.agree.specs.declared.conjunction.Shares.{Shares}
use Rattle.agree.specs.declared.conjunction.Exchange.{Exchange}
use Rattle.agree.specs.Conjunction.{shared, table, index, Conjoins, Exchanged, Agreed}

abbrev bit : Bool → ℕ
bit false = 0
bit true = 1

-- what holds of both bits holds of a number modulo 2
by_bit : (P : ℕ → Type 0) → ((x : Bool) → P (bit x)) → (n : ℕ) → P (n % 2)
by_bit P f n = go (n % 2) (mod-lt n (lit< tt))
  where
    go : (m : ℕ) → m < 2 → P m
    go zero h = f false
    go (suc zero) h = f true
    go (suc (suc m)) h = absurd (omega arith)

-- a test of two bits, and one of four, computed over all of them
abbrev both : (ℕ → Bool) → Bool
both t = t 0 && t 1

both_at : (t : ℕ → Bool) → both t ≡ true → (n : ℕ) → t (n % 2) ≡ true
both_at t h = by_bit (λ m. t m ≡ true) (λ x. each x (t 0) (t 1) refl refl h)
  where
    each : (x : Bool) (p q : Bool) → t 0 ≡ p → t 1 ≡ q → p && q ≡ true → t (bit x) ≡ true
    each false true true e f h = e
    each true true true e f h = f
    each false true false e f h = absurd (let z : ◌≡◌ {A = ℕ} 0 1 = cc in omega arith)
    each true true false e f h = absurd (let z : ◌≡◌ {A = ℕ} 0 1 = cc in omega arith)
    each false false q e f h = absurd (let z : ◌≡◌ {A = ℕ} 0 1 = cc in omega arith)
    each true false q e f h = absurd (let z : ◌≡◌ {A = ℕ} 0 1 = cc in omega arith)

four_at : (t : ℕ → ℕ → ℕ → ℕ → Bool) → both (λ x. both (λ y. both (λ z. both (t x y z)))) ≡ true → (a b c d : ℕ) → t (a % 2) (b % 2) (c % 2) (d % 2) ≡ true
four_at t h a b c d =
    both_at (t (a % 2) (b % 2) (c % 2))
    (both_at (λ z. both (t (a % 2) (b % 2) z)) (both_at (λ y. both (λ z. both (t (a % 2) y z))) (both_at (λ x. both (λ y. both (λ z. both (t x y z)))) h a) b) c) d

-- the entry that is sought is the "and", and is a bit
entry_is : (a b : Shares) → entry_of (table a) (index b) ≡ bit_and (shared a.x b.x) (shared a.y b.y)
entry_is a b =
    eqb-true _ _ (four_at
    (λ x y z w. eqb (get_or (bit_and x y ∷ bit_and x (bit_xor y 1) ∷ bit_and (bit_xor x 1) y ∷ bit_and (bit_xor x 1) (bit_xor y 1) ∷ []) (2 * z + w) 0) (bit_and (bit_xor x z) (bit_xor y w)))
    refl a.x a.y b.x b.y)

result_bit : (a b : Shares) → bit_and (shared a.x b.x) (shared a.y b.y) % 2 ≡ bit_and (shared a.x b.x) (shared a.y b.y)
result_bit a b =
    eqb-true _ _ (four_at (λ x y z w. eqb (bit_and (bit_xor x z) (bit_xor y w) % 2) (bit_and (bit_xor x z) (bit_xor y w))) refl a.x a.y b.x b.y)

mod_below : (n : ℕ) → n % 2 < 4
mod_below n = omega arith

and_low : (u v : ℕ) → u < 4 → bit_and u v < 4
and_low u v h = omega (arith, and_le_l u v)

entries_low : (a : Shares) → TableIn xor (entry_of (table a))
entries_low a zero = and_low _ _ (mod_below a.x)
entries_low a (suc zero) = and_low _ _ (mod_below a.x)
entries_low a (suc (suc zero)) = and_low _ _ (xor_lt 2 _ _ (mod_below a.x) (lit< tt))
entries_low a (suc (suc (suc zero))) = and_low _ _ (xor_lt 2 _ _ (mod_below a.x) (lit< tt))
entries_low a (suc (suc (suc (suc k)))) = lit< tt

pub conjoined : (a b : Shares) (s : Sender) (r : Receiver) (e : Exchange) → SenderSound xor 16 s → ReceiverSound xor 16 r → Fit s r
    → e.request ≡ request 16 r (index b) → e.words ≡ words xor 16 (entry_of (table a)) s e.request
    → e.first ≡ sender_share xor s % 2 → e.second ≡ receiver_share xor r (index b) e.words % 2 → Conjoins a b e
conjoined a b s r e S R F asked answered first second =
    let y = index b in
    let T = entry_of (table a) in
    let ws = words xor 16 T s (request 16 r y) in
    let u = sender_share xor s in
    let v = receiver_share xor r y ws in
    let below : y < 16 = omega arith in
    let passed : e.words ≡ ws = answered ∙ ap (words xor 16 T s) asked in
    let joined : bit_xor v u ≡ T y = shares_join xor xor_laws 16 T s r y (entries_low a) S R F below in
    ap₂ bit_xor first (second ∙ ap (λ l. receiver_share xor r y l % 2) passed)
    ∙ sym (xor_mod u v 1)
    ∙ ap (λ m. m % 2) (xor_comm u v ∙ joined ∙ entry_is a b)
    ∙ result_bit a b

-- the lists after one half of kind `Bit` is drawn at each seat
module _ (s s' r r' : Halves) (h t : Half) (sent : s Bit ≡ h ∷ s' Bit) (sought : r Bit ≡ t ∷ r' Bit)
    (others : (j : Kind) → (j ≡ Bit → ⊥) → s' j ≡ s j) (others' : (j : Kind) → (j ≡ Bit → ⊥) → r' j ≡ r j) where
  first_fits : Lawful s r → Fits Bit h t × AllZip (Fits Bit) (s' Bit) (r' Bit)
  first_fits law = rw (sent, sought) at (law Bit)

  left_lawful : Lawful s r → Lawful s' r'
  left_lawful law Bit = (first_fits law).1
  left_lawful law Ring0 = rw (others Ring0 ring0_bit, others' Ring0 ring0_bit) (law Ring0)
  left_lawful law Ring1 = rw (others Ring1 ring1_bit, others' Ring1 ring1_bit) (law Ring1)

  pub agreed : (seat seat' : ℕ) (a b : Shares) (e : Exchange) → AllByRecursion (InRange seat Bit) (s Bit) → AllByRecursion (InRange seat' Bit) (r Bit)
      → Exchanged h t a b e → Agreed seat seat' s s' r r' a b e
  agreed seat seat' a b e S R x = record {
    conjoins = λ p q law.
        let own : AllByRecursion (InRange 0 Bit) (h ∷ s' Bit) = subst (λ l. AllByRecursion (InRange 0 Bit) l) sent (subst (λ i. AllByRecursion (InRange i Bit) (s Bit)) p S) in
        let far : AllByRecursion (InRange 1 Bit) (t ∷ r' Bit) = subst (λ l. AllByRecursion (InRange 1 Bit) l) sought (subst (λ i. AllByRecursion (InRange i Bit) (r Bit)) q R) in
        x.conjoins own.0 far.0 (first_fits law).0;
    lawful = left_lawful;
  }
