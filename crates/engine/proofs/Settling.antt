-- How what the two parties do realises what a command means, and how it is written down.
use Rattle.std.proofs.Common.{◌≡◌, ℕ, ◌≤◌, Bool, true, false, if◌then◌else◌, ◌==◌, refl, ap}
use Rattle.std.proofs.lemmas.Bool.{cond_both}
use Rattle.refusal.specs.Refusals.{Code}
use Rattle.refusal.specs.declared.seat.Seat.TheVariants.{Zero, One}
use Rattle.gadgets.specs.Shares.{SharedBit, SharedNumber}
use Rattle.engine.specs.declared.command.Receipt.{Receipt}
use Rattle.engine.specs.Performing.{Effect, number_in, bit_in, learns, nothing, settled, turned_away}
use Rattle.engine.specs.Ideal.{Ideal, Meaning, sets, flags, opens, carried_out, turns_away, party, MakeUp, Shared}

-- the effects at seat 0 and seat 1
pub data Realises : Meaning → Effect → Effect → Type 0 where
  shared_number : {t k v x y : ℕ} → k ≤ 32 → SharedNumber k x y v → Realises (sets t k v) (number_in t k x) (number_in t k y)
  shared_bit : {t x y : ℕ} {b : Bool} → SharedBit x y b → Realises (flags t b) (bit_in t x) (bit_in t y)
  learnt_0 : {v x : ℕ} → x ≡ v → Realises (opens Zero v) (learns x) nothing
  learnt_1 : {v x : ℕ} → x ≡ v → Realises (opens One v) nothing (learns x)

module _ (w : Ideal) (s0 b0 s1 b1 : ℕ → ℕ) (regs : MakeUp w s0 b0 s1 b1) where
  number_at : (k x y v i : ℕ) → SharedNumber k x y v → (b : Bool) →
      SharedNumber (if b then k else w.public.shape.widths i) (if b then x else s0 i) (if b then y else s1 i) (if b then v else w.values i)
  number_at k x y v i s true = s
  number_at k x y v i s false = regs.number i

  flag_at : (x y i : ℕ) (v : Bool) → SharedBit x y v → (b : Bool) → SharedBit (if b then x else b0 i) (if b then y else b1 i) (if b then v else w.flags i)
  flag_at x y i v s true = s
  flag_at x y i v s false = regs.flag i

  pub settles : (q : Receipt) {m : Meaning} {e e' : Effect} → Realises m e e' → Shared (carried_out q w m) (settled q (party w Zero s0 b0) e) (settled q (party w One s1 b1) e')
  settles q (shared_number {t} {k} {v} {x} {y} h s) = record {
    make_up = record { number = λ i. number_at k x y v i s (i == t); flag = regs.flag; narrow = λ i. cond_both (i == t) k (w.public.shape.widths i) (λ z. z ≤ 32) (λ _. h) (λ _. regs.narrow i) };
    party_0 = refl;
    party_1 = refl;
  }
  settles q (shared_bit {t} {x} {y} {b} s) = record {
    make_up = record { number = regs.number; flag = λ i. flag_at x y i b s (i == t); narrow = regs.narrow };
    party_0 = refl;
    party_1 = refl;
  }
  settles q (learnt_0 e) = record {
    make_up = record { number = regs.number; flag = regs.flag; narrow = regs.narrow };
    party_0 = ap (λ x. settled q (party w Zero s0 b0) (learns x)) e;
    party_1 = refl;
  }
  settles q (learnt_1 e) = record {
    make_up = record { number = regs.number; flag = regs.flag; narrow = regs.narrow };
    party_0 = refl;
    party_1 = ap (λ x. settled q (party w One s1 b1) (learns x)) e;
  }

  pub stays : (r : Code) → Shared (turns_away r w) (turned_away r (party w Zero s0 b0)) (turned_away r (party w One s1 b1))
  stays r = record { make_up = record { number = regs.number; flag = regs.flag; narrow = regs.narrow }; party_0 = refl; party_1 = refl }
