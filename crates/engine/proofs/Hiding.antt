-- A party learns no more than what is opened to it.
use Rattle.std.proofs.Common.{◌≡◌, ℕ, ◌+◌, ◌%◌, ◌^◌, ◌<◌, Bool, true, false, sym, refl, ap, ◌∙◌, subst, add_comm, arith, bit_xor, Ok, Err}
use Rattle.std.proofs.lemmas.Nat.{xor_comm}
use Rattle.arithmetic.specs.Bits.{bit}
use Rattle.arithmetic.proofs.Sign.{below_two}
use Rattle.refusal.specs.declared.seat.Seat.{Seat}
use Rattle.refusal.specs.declared.seat.Seat.TheVariants.{Zero, One}
use Rattle.protocol.specs.Seats.{other}
use Rattle.protocol.specs.Course.{Course, done, say, hear, and_then, Computes, Alike, Unheard, ends, says}
use Rattle.protocol.specs.Certificate.{Hides}
use Rattle.protocol.proofs.Silent.{alike_of}
use Rattle.protocol.proofs.Certifying.{alike_quiet, alike_heard}
use Rattle.gadgets.specs.Shares.{SharedBit, SharedNumber}
use Rattle.gadgets.proofs.Bits.{bool_of}
use Rattle.engine.specs.declared.command.Command.{Command}
use Rattle.engine.specs.declared.command.Command.TheVariants.{Open, Tell}
use Rattle.engine.specs.declared.command.Numbers.{Numbers}
use Rattle.engine.specs.declared.command.Receipt.{Receipt}
use Rattle.engine.specs.Commands.{told, seat_of}
use Rattle.engine.specs.State.{Public, Local, registers}
use Rattle.engine.specs.Judge.{Verdict, judge}
use Rattle.engine.specs.Performing.{disclose, perform, settled, attempt, course}
use Rattle.engine.specs.Ideal.{Ideal, opens, meaning, step, opened_to, revealed, shown_by, shown, SharedAt}
use Rattle.engine.specs.Promise.{Alongside, left_at, budget_of, course_of}
use Rattle.engine.proofs.Judging.{judge_told}
use Rattle.engine.proofs.Pricing.{quiet, unheard}
use Rattle.engine.proofs.Computing.{computes_at}

-- both parties' public parts are the ideal functionality's
pub publics : (f : Seat) (w : Ideal) (a b : Local) → SharedAt f w a b → (a.public ≡ w.public) × (b.public ≡ w.public)
publics Zero w a b i = (ap (λ (x : Local). x.public) i.party_0, ap (λ (x : Local). x.public) i.party_1)
publics One w a b i = (ap (λ (x : Local). x.public) i.party_1, ap (λ (x : Local). x.public) i.party_0)

-- the near party hears a word that is the same in both runs
heard_at : {f : Seat} {P Q : Local → Local → Type 0} {p q q' : Course Local} {n : ℕ} {c : ℕ → Course Local} {x x' : ℕ} {d d' : Course Local} → p ≡ hear n c → q ≡ say x d → q' ≡ say x' d' → x ≡ x' →
    ((w : ℕ) → Unheard (c w)) → Computes f P p q → Computes f Q p q' → Alike f (λ r s s'. P r s × Q r s') p q q'
heard_at e e1 e2 same u h h' = rw (e, e1, e2) (alike_heard same u (rw (e, e1) at h) (rw (e, e2) at h'))

-- a disclosure, and then the party's new state
abbrev disclosed : Seat → Seat → ℕ → ℕ → (ℕ → ℕ) → Receipt → Local → Course Local
disclosed f h limit s join q a = and_then (disclose f h limit s join) (λ e. done (settled q a e))

-- one value is opened to the seat h
discloses : (f h : Seat) {P Q : Local → Local → Type 0} (q : Receipt) (a b b' : Local) (l l1 l2 x y y' : ℕ) (j j1 j2 : ℕ → ℕ) (v v' : ℕ) → opened_to f h v ≡ opened_to f h v' → (v ≡ v' → y ≡ y') →
    {p p1 p2 : Course Local} → p ≡ disclosed f h l x j q a → p1 ≡ disclosed (other f) h l1 y j1 q b → p2 ≡ disclosed (other f) h l2 y' j2 q b' →
    Computes f P p p1 → Computes f Q p p2 → Alike f (λ r s s'. P r s × Q r s') p p1 p2
discloses Zero Zero q a b b' l l1 l2 x y y' j j1 j2 v v' o known e e1 e2 h h' = heard_at e e1 e2 (known cc) (λ w. ends) h h'
discloses Zero One q a b b' l l1 l2 x y y' j j1 j2 v v' o known e e1 e2 h h' = alike_of (rw e (says ends)) h h'
discloses One Zero q a b b' l l1 l2 x y y' j j1 j2 v v' o known e e1 e2 h h' = alike_of (rw e (says ends)) h h'
discloses One One q a b b' l l1 l2 x y y' j j1 j2 v v' o known e e1 e2 h h' = heard_at e e1 e2 (known cc) (λ w. ends) h h'

-- a command that opens a value: of it a party's share and the value determine the other's share
module _ (c : Command Numbers) (h : Seat) (limit share : Local → ℕ) (join : Local → ℕ → ℕ) (value : Ideal → ℕ)
    (performs : (f : Seat) (a : Local) → perform f (told f c) (registers a) ≡ disclose f h (limit a) (share a) (join a))
    (means : (w : Ideal) → meaning c w ≡ opens h (value w))
    (known : (f : Seat) (w w' : Ideal) (a b b' : Local) → SharedAt f w a b → SharedAt f w' a b' → value w ≡ value w' → share b ≡ share b') where
  opens_alike : (f : Seat) (w w' : Ideal) (a b b' : Local) → shown f c w ≡ shown f c w' → SharedAt f w a b → SharedAt f w' a b' →
      Alike f (λ r s s'. SharedAt f (step c w) r s × SharedAt f (step c w') r s') (course_of f c a) (course_of (other f) c b) (course_of (other f) c b')
  opens_alike f w w' a b b' o i i' = go (judge c a.public) refl
    where
      go : (v : Verdict) → judge c a.public ≡ v →
          Alike f (λ r s s'. SharedAt f (step c w) r s × SharedAt f (step c w') r s') (course_of f c a) (course_of (other f) c b) (course_of (other f) c b')
      go (Err r) e =
          let ea : course_of f c a ≡ attempt f (told f c) a (Err r) = ap (attempt f (told f c) a) (judge_told f c a.public ∙ e) in
          alike_of (rw ea ends) (computes_at f c w a b i) (computes_at f c w' a b' i')
      go (Ok q) e =
          let pa = publics f w a b i in
          let pb = publics f w' a b' i' in
          let at : (g : Seat) (x : Local) → x.public ≡ a.public → course_of g c x ≡ disclosed g h (limit x) (share x) (join x) q x = λ g x s.
          ap (attempt g (told g c) x) (judge_told g c x.public ∙ ap (judge c) s ∙ e) ∙ ap (λ p. and_then p (λ e. done (settled q x e))) (performs g x) in
          let ow : (u : Ideal) → u.public ≡ a.public → shown f c u ≡ opened_to f h (value u) = λ u s. ap (shown_by f c u) (ap (judge c) s ∙ e) ∙ ap (revealed f) (means u) in
          discloses f h q a b b' (limit a) (limit b) (limit b') (share a) (share b) (share b') (join a) (join b) (join b') (value w) (value w')
          (sym (ow w (sym pa.0)) ∙ o ∙ ow w' (sym pb.0)) (known f w w' a b b' i i')
          (at f a refl) (at (other f) b (pa.1 ∙ sym pa.0)) (at (other f) b' (pb.1 ∙ sym pb.0)) (computes_at f c w a b i) (computes_at f c w' a b' i')

-- from one's own share and the value, the other's share

same_share : (n x y y' : ℕ) → x < n → y < n → y' < n → (x + y) % n ≡ (x + y') % n → y ≡ y'
same_share n x y y' hx hy hy' e =
    let r = below_two n (x + y) (omega arith) in
    let r' = below_two n (x + y') (omega arith) in
    omega arith

same_flag : (x y y' : ℕ) → x < 2 → y < 2 → y' < 2 → bit_xor x y ≡ bit_xor x y' → y ≡ y'
same_flag x y y' hx hy hy' e =
    let a = bool_of x hx in
    let b = bool_of y hy in
    let b' = bool_of y' hy' in
    grind arith

-- the shares of a register, the near party's first
pub number_at : (f : Seat) (w : Ideal) (a b : Local) (s : ℕ) → SharedAt f w a b → SharedNumber (w.public.shape.widths s) (a.shares s) (b.shares s) (w.values s)
number_at Zero w a b s i = i.make_up.number s
number_at One w a b s i =
    let n = i.make_up.number s in
    record { below_0 = n.below_1; below_1 = n.below_0; adds = ap (λ z. z % 2 ^ w.public.shape.widths s) (add_comm (a.shares s) (b.shares s)) ∙ n.adds }

pub flag_at : (f : Seat) (w : Ideal) (a b : Local) (s : ℕ) → SharedAt f w a b → SharedBit (a.bits s) (b.bits s) (w.flags s)
flag_at Zero w a b s i = i.make_up.flag s
flag_at One w a b s i =
    let n = i.make_up.flag s in
    record { bit_0 = n.bit_1; bit_1 = n.bit_0; opens = xor_comm (a.bits s) (b.bits s) ∙ n.opens }

number_known : (s : ℕ) (f : Seat) (w w' : Ideal) (a b b' : Local) → SharedAt f w a b → SharedAt f w' a b' → w.values s ≡ w'.values s → b.shares s ≡ b'.shares s
number_known s f w w' a b b' i i' e =
    let k : w'.public.shape.widths s ≡ w.public.shape.widths s = ap (λ (x : Public). x.shape.widths s) (sym (publics f w' a b' i').0 ∙ (publics f w a b i).0) in
    let x = number_at f w a b s i in
    let y = rw k at (number_at f w' a b' s i') in
    same_share (2 ^ w.public.shape.widths s) (a.shares s) (b.shares s) (b'.shares s) x.below_0 x.below_1 y.below_1 (x.adds ∙ e ∙ sym y.adds)

flag_known : (s : ℕ) (f : Seat) (w w' : Ideal) (a b b' : Local) → SharedAt f w a b → SharedAt f w' a b' → bit (w.flags s) ≡ bit (w'.flags s) → b.bits s ≡ b'.bits s
flag_known s f w w' a b b' i i' e =
    let x = flag_at f w a b s i in
    let y = flag_at f w' a b' s i' in
    same_flag (a.bits s) (b.bits s) (b'.bits s) x.bit_0 x.bit_1 y.bit_1 (x.opens ∙ e ∙ sym y.opens)

-- of a command that opens a value a party is told all
same_command : (f : Seat) (c d : Command Numbers) → quiet (told f c) ≡ false → told f c ≡ told f d → c ≡ d
same_command f (Open s g) (Open t h) z e = cc
same_command f (Tell s g) (Tell t h) z e = cc
same_command f _ _ z e = cc

abbrev AlikeTo : (f : Seat) (c d : Command Numbers) (w w' : Ideal) (a b b' : Local) → Type 0
AlikeTo f c d w w' a b b' = Alike f (λ r s s'. SharedAt f (step c w) r s × SharedAt f (step d w') r s') (course_of f c a) (course_of (other f) c b) (course_of (other f) d b')

opening : (f : Seat) (c : Command Numbers) (w w' : Ideal) (a b b' : Local) → quiet (told f c) ≡ false → shown f c w ≡ shown f c w' → SharedAt f w a b → SharedAt f w' a b' → AlikeTo f c c w w' a b b'
opening f (Open s g) w w' a b b' z o i i' =
    opens_alike (Open s g) (seat_of g) (λ a. 2 ^ a.public.shape.widths s) (λ a. a.shares s) (λ a v. (a.shares s + v) % 2 ^ a.public.shape.widths s) (λ w. w.values s)
    (λ f a. refl) (λ w. refl) (number_known s) f w w' a b b' o i i'
opening f (Tell s g) w w' a b b' z o i i' =
    opens_alike (Tell s g) (seat_of g) (λ a. 2) (λ a. a.bits s) (λ a v. bit_xor (a.bits s) v) (λ w. bit (w.flags s)) (λ f a. refl) (λ w. refl) (flag_known s) f w w' a b b' o i i'
opening f _ w w' a b b' z o i i' = cc

pub hides : (f : Seat) → Hides f (SharedAt f) Alongside (left_at f) budget_of (told f) (course f) (course_of (other f)) step (shown f)
hides f c d w w' a b b' e o i i' = go (quiet (told f c)) refl
  where
    go : (t : Bool) → quiet (told f c) ≡ t → AlikeTo f c d w w' a b b'
    go true z = alike_quiet (told f) (course f) c d a e (unheard f (told f c) a z) (computes_at f c w a b i) (computes_at f d w' a b' i')
    go false z =
        let same : c ≡ d = same_command f c d z e in
        subst (λ x. AlikeTo f c x w w' a b b') same (opening f c w w' a b b' z (subst (λ x. shown f c w ≡ shown f x w') (sym same) o) i i')
