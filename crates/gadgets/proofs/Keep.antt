-- A shared number is kept or not, by two lookups.
use Rattle.std.proofs.Common.{◌≡◌, ℕ, ◌+◌, ◌*◌, ◌%◌, ◌^◌, ◌<◌, ◌≤◌, Bool, true, false, if◌then◌else◌, nat_lt, sym, refl, ap, ◌∙◌, ap₂, mod-lt, arith, pow_pos}
use Rattle.std.proofs.lemmas.Bool.{cond_both}
use Rattle.std.proofs.Math.Nat.{add-mod, zero-mod}
use Rattle.refusal.specs.declared.kind.Kind.TheVariants.{Bit, Ring0, Ring1}
use Rattle.arithmetic.specs.Bits.{xor, bit}
use Rattle.arithmetic.specs.Sign.{shared_value}
use Rattle.protocol.specs.Course.{AskIn, ends, looks}
use Rattle.gadgets.specs.Shares.{SharedNumber}
use Rattle.gadgets.specs.Keep.{keep_table, KeepComputes, KeepFollows, KeepTallies}
use Rattle.gadgets.proofs.Bits.{truths, xor_turn}
use Rattle.gadgets.proofs.Numbers.{narrowed}

table_below : (a b k : ℕ) → keep_table a b k < 2 ^ 32
table_below a b k = cond_both (nat_lt k 2) _ _ (λ z. z < 2 ^ 32) (λ e. mod-lt _ (pow_pos 32)) (λ _. omega arith)

asks_0 : (a b : ℕ) → AskIn Ring0 (record { table = keep_table a b; index = b % 2 })
asks_0 a b = record { table_in = table_below a b; index_in = omega arith }

asks_1 : (a b : ℕ) → AskIn Ring1 (record { table = keep_table a b; index = b % 2 })
asks_1 a b = record { table_in = table_below a b; index_in = omega arith }

entry_is : (a b k : ℕ) (p q v : Bool) → b ≡ bit p → k ≡ bit q → xor p q ≡ v → keep_table a b (k % 2) ≡ (bit v * a) % 2 ^ 32
entry_is a b k p q v ep eq ev = rw (ep, eq, ← ev) (at p q)
  where
    at : (p q : Bool) → keep_table a (bit p) (bit q % 2) ≡ (bit (xor p q) * a) % 2 ^ 32
    at p q = grind arith

kept : (w a a' x x' y y' : ℕ) (v : Bool) → w ≤ 32 → (x' + x) % 2 ^ 32 ≡ (bit v * a) % 2 ^ 32 → (y + y') % 2 ^ 32 ≡ (bit v * a') % 2 ^ 32
    → SharedNumber w ((x + y) % 2 ^ w) ((x' + y') % 2 ^ w) (if v then shared_value w a a' else 0)
kept w a a' x x' y y' v h ex ey =
    let p : 0 < 2 ^ w = pow_pos w in
    let r : (x + y) + (x' + y') ≡ (x' + x) + (y + y') = omega arith in
    record {
      below_0 = mod-lt (x + y) p;
      below_1 = mod-lt (x' + y') p;
      adds = sym (add-mod (x + y) (x' + y') (2 ^ w)) ∙ ap (λ n. n % 2 ^ w) r ∙ add-mod (x' + x) (y + y') (2 ^ w)
          ∙ ap₂ (λ m n. (m + n) % 2 ^ w) (narrowed w (x' + x) (bit v * a) h ex) (narrowed w (y + y') (bit v * a') h ey)
          ∙ sym (add-mod (bit v * a) (bit v * a') (2 ^ w)) ∙ at v;
    }
  where
    at : (v : Bool) → (bit v * a + bit v * a') % 2 ^ w ≡ (if v then shared_value w a a' else 0)
    at true = ap (λ n. n % 2 ^ w) (omega arith)
    at false = ap (λ n. n % 2 ^ w) zeros ∙ zero-mod (2 ^ w)
      where
        zeros : 0 * a + 0 * a' ≡ 0
        zeros = omega arith

pub keep_computes : KeepComputes
keep_computes w a a' v b b' u h sn sb =
    let t = truths sb in
    looks (asks_0 a b) (asks_0 a' b')
    (λ x x' sx. looks (asks_1 a b) (asks_1 a' b')
    (λ y y' sy. ends (rw (← sn.adds) (kept w a a' x x' y y' u h
    (sx.joins ∙ entry_is a b b' t.own_0 t.own_1 u t.is_0 t.is_1 t.opens)
    (sy.joins ∙ entry_is a' b' b t.own_1 t.own_0 u t.is_1 t.is_0 (xor_turn t.own_1 t.own_0 ∙ t.opens))))))

pub keep_follows : KeepFollows
keep_follows w a b = looks (asks_0 a b) (λ u. looks (asks_1 a b) (λ v. ends (mod-lt (u + v) (pow_pos w))))

pub keep_tallies : KeepTallies
keep_tallies Bit = refl
keep_tallies _ = refl
