-- From what an engine shows of each command to the certificate of every session.
use Rattle.std.proofs.Common.{◌≡◌, ℕ, ◌+◌, ◌≤◌, List, [], ◌∷◌, map, length, sym, refl, ap, ◌∙◌, arith}
use Rattle.std.proofs.Math.Path.{fun_ext}
use Rattle.refusal.specs.declared.kind.Kind.{Kind}
use Rattle.lookup.specs.Once.{ExactlyOne}
use Rattle.sources.specs.Halves.{Halves}
use Rattle.refusal.specs.declared.seat.Seat.{Seat}
use Rattle.protocol.specs.Seats.{LawfulAt, Enough}
use Rattle.protocol.specs.Course.{Course, hear, say, and_then, Computes, Alike, Unheard, ends, hears}
use Rattle.protocol.specs.Run.{Outcome, messages, run}
use Rattle.protocol.specs.Theorems.{Sound, ExplainsBefore}
use Rattle.protocol.specs.Session.{in_a_row, session}
use Rattle.protocol.specs.Certificate.{steps, shown_by, Engine, Certified}
use Rattle.protocol.proofs.Binding.{then_alike}
use Rattle.protocol.proofs.Running.{account, message_account, soundness}
use Rattle.protocol.proofs.Silent.{silence, alike_of}
use Rattle.protocol.proofs.Whole.{whole}
use Rattle.protocol.proofs.Rows.{row_computes, row_spends, row_talks, one_by_one}

module _ {C D W S O : Type 0} (f : Seat) (I : W → S → S → Type 0) (J : S → S → Type 0) (left : S → Kind → ℕ) (budget : S → ℕ)
    (told : C → D) (near : D → S → Course S) (far : C → S → Course S) (step : C → W → W) (shown : C → W → O)
    (engine : Engine f I J left budget told near far step shown) where
  abbrev own : C → S → Course S
  own c = near (told c)

  -- the near party's commands are the ones it is told
  same_row : (cs ds : List C) (a : S) → map told cs ≡ map told ds → in_a_row own cs a ≡ in_a_row own ds a
  same_row cs ds a e = untold cs a ∙ ap (λ ts. in_a_row near ts a) e ∙ sym (untold ds a)
    where
      untold : (cs : List C) (a : S) → in_a_row own cs a ≡ in_a_row near (map told cs) a
      untold [] a = refl
      untold (c ∷ cs) a = ap (and_then (near (told c) a)) (fun_ext (λ r. untold cs r))

  row_alike : (cs ds : List C) (w w' : W) (a b b' : S) → map told cs ≡ map told ds → shown_by step shown cs w ≡ shown_by step shown ds w' → I w a b → I w' a b' →
      Alike f (λ r s s'. I (steps step cs w) r s × I (steps step ds w') r s') (in_a_row own cs a) (in_a_row far cs b) (in_a_row far ds b')
  row_alike [] [] w w' a b b' e o i i' = ends (i, i')
  row_alike [] (d ∷ ds) w w' a b b' e o i i' = cc
  row_alike (c ∷ cs) [] w w' a b b' e o i i' = cc
  row_alike (c ∷ cs) (d ∷ ds) w w' a b b' e o i i' =
      then_alike
      (engine.hides c d w w' a b b' (cc) (cc) i i')
      (λ r s s' j. row_alike cs ds (step c w) (step d w') r s s' (cc) (cc) j.0 j.1)

  module _ (cs : List C) (a b : S) (hf ho : Halves) where
    abbrev it : Outcome S
    it = run f (in_a_row own cs a) (in_a_row far cs b) hf ho

    counted : (k : Kind) → it.used k + left it.near k ≡ left a k
    counted k = account S f left (left a) (in_a_row own cs a) (in_a_row far cs b) hf ho (row_spends left own (λ c. engine.spends (told c)) cs a) k

    same : J a b → it ≡ session f own far cs a b hf ho
    same j = one_by_one J f own far cs a b hf ho engine.agrees j

    accounts : J a b → (k : Kind) → (session f own far cs a b hf ho).used k + left (session f own far cs a b hf ho).near k ≡ left a k
    accounts j k = rw (← same j) (counted k)

    message_accounts : J a b → messages (session f own far cs a b hf ho) + budget (session f own far cs a b hf ho).near ≡ budget a
    message_accounts j =
        rw (← same j)
        (message_account S f budget (budget a) (in_a_row own cs a) (in_a_row far cs b) hf ho (row_talks budget own (λ c. engine.talks (told c)) cs a))

    sound : (w : W) → I w a b → LawfulAt f hf ho → ((k : Kind) → left a k ≤ length (hf k)) → Sound f (I (steps step cs w)) hf ho (session f own far cs a b hf ho)
    sound w i law enough =
        rw (← same (engine.public w a b i))
        (soundness S (I (steps step cs w)) f (in_a_row own cs a) (in_a_row far cs b) hf ho (row_computes f I own far step engine.keeps cs w a b i) law
        (λ k. omega (arith, enough k, counted k)))

  silent : (cs ds : List C) (w w' : W) (a b b' : S) (hf ho more : Halves) → map told cs ≡ map told ds →
      shown_by step shown cs w ≡ shown_by step shown ds w' → I w a b → I w' a b' → LawfulAt f hf ho → ((k : Kind) → left a k ≤ length (hf k)) →
      ExactlyOne (ExplainsBefore f (session f own far cs a b hf ho) (session f own far ds a b') hf more)
  silent cs ds w w' a b b' hf ho more e o i i' law enough =
      let p = in_a_row own cs a in
      let q = in_a_row far cs b in
      let q' = in_a_row far ds b' in
      let P : S → S → S → Type 0 = λ r s s'. I (steps step cs w) r s × I (steps step ds w') r s' in
      let alike : Alike f P p q q' = row_alike cs ds w w' a b b' e o i i' in
      let long : Enough (run f p q hf ho).used hf = λ k. omega (arith, enough k, counted cs a b hf ho k) in
      let s = silence S P f p q q' hf ho alike law long in
      let both = whole S P f p q q' hf ho alike law long more in
      let first : run f p q hf ho ≡ session f own far cs a b hf ho = same cs a b hf ho (engine.public w a b i) in
      let second : run f p q' ≡ session f own far ds a b' =
      fun_ext (λ n. fun_ext (λ m. ap (λ x. run f x q' n m) (same_row cs ds a e) ∙ one_by_one J f own far ds a b' n m engine.agrees (engine.public w' a b' i'))) in
      rw (← first, ← second) (s.one.0, (both s.one.0).0 s.one.1, λ z b. s.one.2 z ((both z).1 b))

  pub certified : Certified f I J left budget told near far step shown
  certified = record {
    sound = λ cs w a b hf ho. sound cs a b hf ho w;
    accounts = accounts;
    message_accounts = message_accounts;
    silent = silent;
  }

-- How a command is alike to the near party.

-- it hears no word: it is enough that each run computes
pub alike_quiet : {C D S : Type 0} {f : Seat} {P Q : S → S → Type 0} (told : C → D) (near : D → S → Course S) (c d : C) (a : S) {q q' : Course S} → told c ≡ told d → Unheard (near (told c) a) →
    Computes f P (near (told c) a) q → Computes f Q (near (told d) a) q' → Alike f (λ r s s'. P r s × Q r s') (near (told c) a) q q'
alike_quiet told near c d a e u h h' = alike_of u h (rw e h')

-- it hears one word, the same in both runs
pub alike_heard : {S : Type 0} {f : Seat} {P Q : S → S → Type 0} {n : ℕ} {c : ℕ → Course S} {x x' : ℕ} {d d' : Course S} → x ≡ x' → ((w : ℕ) → Unheard (c w)) →
    Computes f P (hear n c) (say x d) → Computes f Q (hear n c) (say x' d') → Alike f (λ r s s'. P r s × Q r s') (hear n c) (say x d) (say x' d')
alike_heard {x = x} e u (hears l h) (hears l' h') =
    rw (← e) (hears (alike_of (u x) h (rw (← e) at h')))
