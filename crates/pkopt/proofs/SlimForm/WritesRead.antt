-- Each memo write of the optimized form is read.
use Rattle.std.proofs.Common.{◌≡◌, ℕ, zero, suc, ◌<◌, ◌≤◌, Bool, true, false, cond, List, [], ◌∷◌}
use Rattle.std.proofs.Common.{◌++◌, length, Option, Some, None, ◌⊎◌, inl, inr, refl, sym, ap, subst}
use Rattle.std.proofs.Common.{◌∙◌, arith}
use Rattle.std.specs.Prelude.{nat_eq}
use Rattle.std.proofs.lemmas.Bool.Decides.{eqb_tells}
use Rattle.std.proofs.lemmas.Bool.{cases_eq, eqb-true, eq-eqb, or_cases, or_left, or_right}
use Rattle.std.proofs.Math.Bool.{or-false}
use Rattle.pkops.specs.Operands.{memo_number}
use Rattle.pkops.specs.Spelling.{Instruction}
use Rattle.pkstack.specs.declared.Move.TheVariants.{Stores, StoresNext, Fetches}
use Rattle.pkmachine.specs.Effects.{Effect, Moves, effect_of}
use Rattle.pkopt.specs.Writers.{Writes, last_write, different, wrote, after, read_by, sources}
use Rattle.pkopt.specs.Writers.{is_this, is_read, new_number, after_all, more_if_none}
use Rattle.pkopt.specs.Slim.{renumbered, is_frame, read_left, left_of, slim_from, slim}
use Rattle.pkopt.specs.OneFrame.{is_proto, has_frame, frame_around, in_frame, optimized}
use Rattle.pkopt.specs.Private.HeardParts.{after_all-append, sources-append}
use Rattle.pkopt.specs.RunsAlike.{AllRead}
use Rattle.pkopt.proofs.SlimForm.NewForms.{NamesNumber, form_effect, last_write_lt}
use Rattle.pkopt.proofs.SlimForm.NewForms.{renumbered_number}
use Rattle.pkopt.proofs.MemoWrites.NewNumbers.{after_all_le, new_step, new_least}
use Rattle.pkopt.proofs.BothRuns.SlimRuns.{AreSmall, AreTied, read_first, read_last}

-- the writes of a slim form: the numbers 0, 1, 2, .. in order
abbrev countdown : ℕ → Writes
countdown zero = []
countdown (suc k) = k ∷ countdown k

length-countdown : (k : ℕ) → length (countdown k) ≡ k
length-countdown zero = refl
length-countdown (suc k) = ap suc (length-countdown k)

-- a number not below all is none of them
not_there : (n k : ℕ) → k ≤ n → last_write n (countdown k) ≡ None
not_there n zero le = refl
not_there n (suc k) le = elim (eqb_tells n k) [
  | inl q ↦ let e = q.1 in absurd (omega (arith, e, le))
  | inr q ↦ ap (λ b. cond b (Some (length (countdown k))) (last_write n (countdown k))) q.0
      ∙ not_there n k (omega (arith, le))
]

-- the others name themselves
there : (n k : ℕ) → n < k → last_write n (countdown k) ≡ Some n
there n zero lt = absurd (omega (arith, lt))
there n (suc k) lt = elim (eqb_tells n k) [
  | inl q ↦ ap (λ b. cond b (Some (length (countdown k))) (last_write n (countdown k))) q.0
      ∙ ap (λ n. Some n) (length-countdown k ∙ sym q.1)
  | inr q ↦ ap (λ b. cond b (Some (length (countdown k))) (last_write n (countdown k))) q.0
      ∙ there n k (let e = q.1 in omega (arith, e, lt))
]

all_different : (k : ℕ) → different (countdown k) ≡ k
all_different zero = refl
all_different (suc k) = ap (λ o. more_if_none o (different (countdown k)))
    (not_there k k (omega arith)) ∙ ap suc (all_different k)

read_split : (w : ℕ) (us vs : List (Option ℕ)) → is_read w (us ++ vs) ≡ true
    → (is_read w us ≡ true) ⊎ (is_read w vs ≡ true)
read_split w [] vs e = inr e
read_split w (u ∷ us) vs e = elim (or_cases (is_this w u) (is_read w (us ++ vs)) e) [
  | inl h ↦ inl (or_left _ _ h)
  | inr h ↦ elim (read_split w us vs h) [ inl g ↦ inl (or_right _ _ g) | inr g ↦ inr g ]
]

this_is : (w : ℕ) (o : Option ℕ) → is_this w o ≡ true → o ≡ Some w
this_is w None e = cc
this_is w (Some v) e = ap (λ n. Some n) (sym (eqb-true w v e))

module _ (vs : List (Option ℕ)) (total : ℕ) (small : AreSmall vs total) where
  module _ (ws : Writes) (i : Instruction) where
    abbrev n : ℕ
    n = new_number vs (length ws)

    -- the writes of the slim form behind what is left of an instruction of this effect
    abbrev Behind : Effect → Type 0
    Behind e = after_all (left_of vs ws e i) (countdown n)
        ≡ countdown (new_number vs (length (wrote e (memo_number i) ws)))

    stored_behind : (b : Bool) → is_read (length ws) vs ≡ b → effect_of i.op ≡ Moves Stores
        → length ws < total → after_all (cond b (renumbered n i ∷ []) []) (countdown n)
        ≡ countdown (new_number vs (suc (length ws)))
    stored_behind true r e lt =
        ap (λ e. wrote e (memo_number (renumbered n i)) (countdown n)) (form_effect i.op n ∙ e)
        ∙ ap (λ k. k ∷ countdown n)
        (renumbered_number i n (small (length ws) lt) (subst NamesNumber (sym e) tt))
        ∙ ap countdown (sym (new_step vs (length ws) true r))
    stored_behind false r e lt = ap countdown (sym (new_step vs (length ws) false r))

    next_behind : (b : Bool) → is_read (length ws) vs ≡ b → effect_of i.op ≡ Moves StoresNext
        → after_all (cond b (i ∷ []) []) (countdown n) ≡ countdown (new_number vs (suc (length ws)))
    next_behind true r e = ap (λ e. wrote e (memo_number i) (countdown n)) e
        ∙ ap (λ k. k ∷ countdown n) (all_different n)
        ∙ ap countdown (sym (new_step vs (length ws) true r))
    next_behind false r e = ap countdown (sym (new_step vs (length ws) false r))

    read_behind : (a : Option ℕ) → effect_of i.op ≡ Moves Fetches
        → after_all (read_left vs a i) (countdown n) ≡ countdown n
    read_behind None e = ap (λ e. wrote e (memo_number i) (countdown n)) e
    read_behind (Some w) e = ap
        (λ e. wrote e (memo_number (renumbered (new_number vs w) i)) (countdown n))
        (form_effect i.op (new_number vs w) ∙ e)

    passed_behind : (b : Bool) (e : Effect) → effect_of i.op ≡ e
        → wrote e (memo_number i) (countdown n) ≡ countdown n
        → after_all (cond b [] (i ∷ [])) (countdown n) ≡ countdown n
    passed_behind true e q h = refl
    passed_behind false e q h = ap (λ e. wrote e (memo_number i) (countdown n)) q ∙ h

    behind_by : (e : Effect) → effect_of i.op ≡ e → length (wrote e (memo_number i) ws) ≤ total
        → Behind e
    behind_by (Moves Stores) q le = stored_behind (is_read (length ws) vs) refl q
        (omega (arith, le))
    behind_by (Moves StoresNext) q le = next_behind (is_read (length ws) vs) refl q
    behind_by (Moves Fetches) q le = read_behind (last_write (memo_number i) ws) q
    behind_by e q le = passed_behind (is_frame i.op) e q refl

    behind : length (after i ws) ≤ total → after_all (left_of vs ws (effect_of i.op) i)
        (countdown n) ≡ countdown (new_number vs (length (after i ws)))
    behind le = behind_by (effect_of i.op) refl le

    -- what it read, what is left of it reads
    reads_by : (e : Effect) (w : ℕ) → effect_of i.op ≡ e → length ws ≤ total
        → is_read w (read_by e (memo_number i) ws) ≡ true → is_read w vs ≡ true
        → is_read (new_number vs w) (sources (countdown n) (left_of vs ws e i)) ≡ true
    reads_by (Moves Fetches) w q le r tied =
        let found : last_write (memo_number i) ws
        ≡ Some w = this_is w (last_write (memo_number i) ws)
        (sym (or-false _) ∙ r) in
        let lt = last_write_lt (memo_number i) ws w found in
        let m = new_number vs w in
        let less = new_least vs w (length ws) lt tied in
        let e : sources (countdown n) (left_of vs ws (Moves Fetches) i) ≡ Some m ∷ [] =
        ap (λ a. sources (countdown n) (read_left vs a i)) found
        ∙ ap (λ e. read_by e (memo_number (renumbered m i)) (countdown n) ++ [])
        (form_effect i.op m ∙ q)
        ∙ ap (λ k. last_write k (countdown n) ∷ [])
        (renumbered_number i m (small w (omega (arith, lt, le))) (subst NamesNumber (sym q) tt))
        ∙ ap (λ o. o ∷ []) (there m n less) in
        ap (is_read m) e ∙ or_left (nat_eq m m) false (eq-eqb m m refl)
    reads_by e w q le r tied = cc

  -- the writes of the slim form
  writes_slim : (ws : Writes) (is : List Instruction) → length (after_all is ws) ≤ total
      → after_all (slim_from vs ws is) (countdown (new_number vs (length ws)))
      ≡ countdown (new_number vs (length (after_all is ws)))
  writes_slim ws [] le = refl
  writes_slim ws (i ∷ is) le =
      let more = after_all_le is (after i ws) in
      after_all-append (left_of vs ws (effect_of i.op) i) (slim_from vs (after i ws) is)
      (countdown (new_number vs (length ws)))
      ∙ ap (after_all (slim_from vs (after i ws) is)) (behind ws i (omega (arith, more, le)))
      ∙ writes_slim (after i ws) is le

  -- its reads
  reads_slim : (ws : Writes) (is : List Instruction) (w : ℕ) → length (after_all is ws) ≤ total
      → AreTied (sources ws is) vs → is_read w (sources ws is) ≡ true
      → is_read (new_number vs w)
      (sources (countdown (new_number vs (length ws))) (slim_from vs ws is)) ≡ true
  reads_slim ws [] w le tied r = cc
  reads_slim ws (i ∷ is) w le tied r =
      let now = countdown (new_number vs (length ws)) in
      let more = after_all_le is (after i ws) in
      let first = after_all_le (i ∷ is) ws in
      let here = left_of vs ws (effect_of i.op) i in
      let parts = sources-append now here (slim_from vs (after i ws) is) in
      let next = behind ws i (omega (arith, more, le)) in
      ap (is_read (new_number vs w)) parts
      ∙ elim (read_split w (read_by (effect_of i.op) (memo_number i) ws)
      (sources (after i ws) is) r) [
        | inl h ↦ read_first (new_number vs w) (sources now here)
            (sources (after_all here now) (slim_from vs (after i ws) is))
            (reads_by ws i (effect_of i.op) w refl (omega (arith, first, le)) h (tied w r))
        | inr h ↦ read_last (new_number vs w) (sources now here)
            (sources (after_all here now) (slim_from vs (after i ws) is))
            (ap
            (λ (x : Writes). is_read (new_number vs w)
            (sources x (slim_from vs (after i ws) is))) next
            ∙ reads_slim (after i ws) is w le
            (λ v g. tied v
            (read_last v (read_by (effect_of i.op) (memo_number i) ws)
            (sources (after i ws) is) g)) h)
      ]

-- some write that is read has this number
pub record Numbered (vs : List (Option ℕ)) (m k : ℕ) : Type 0 where
  pub write : ℕ
  pub before : write < m
  pub read : is_read write vs ≡ true
  pub number : new_number vs write ≡ k

later : (vs : List (Option ℕ)) (m k : ℕ) → Numbered vs m k → Numbered vs (suc m) k
later vs m k h = record {
  write = h.write;
  before = (let lt = h.before in omega (arith, lt));
  read = h.read;
  number = h.number;
}

numbered_at : (vs : List (Option ℕ)) (m k : ℕ) (b : Bool) → is_read m vs ≡ b
    → k < new_number vs (suc m) → (k < new_number vs m → Numbered vs m k) → Numbered vs (suc m) k
numbered_at vs m k false r lt on = let step = new_step vs m false r in
    later vs m k (on (omega (arith, step, lt)))
numbered_at vs m k true r lt on = elim (cases_eq k (new_number vs m)) [
  | inl q ↦ record { write = m; before = omega arith; read = r; number = sym q }
  | inr q ↦ let step = new_step vs m true r in later vs m k (on (omega (arith, step, lt, q)))
]

numbered : (vs : List (Option ℕ)) (m k : ℕ) → k < new_number vs m → Numbered vs m k
numbered vs zero k lt = absurd (omega (arith, lt))
numbered vs (suc m) k lt = numbered_at vs m k (is_read m vs) refl lt (λ g. numbered vs m k g)

-- each write of the slim form is read
slim_read : (p : List Instruction) → AreSmall (sources [] p) (length (after_all p []))
    → AllRead (slim p)
slim_read p small w lt =
    let vs = sources [] p in
    let total = length (after_all p []) in
    let writes = ap (λ (x : Writes). length x) (writes_slim vs total small [] p (omega arith))
    ∙ length-countdown (new_number vs total) in
    let h = numbered vs total w (subst (λ m. w < m) writes lt) in
    ap (λ k. is_read k (sources [] (slim p))) (sym h.number)
    ∙ reads_slim vs total small [] p h.write (omega arith) (λ v r. r) h.read

-- a frame is no read and no write
framed_reads : (b : Bool) (i : Instruction) (is : List Instruction)
    → sources [] (cond b (i ∷ frame_around is ∷ is) (frame_around (i ∷ is) ∷ i ∷ is))
    ≡ sources [] (i ∷ is)
framed_reads true i is = refl
framed_reads false i is = refl

framed_writes : (b : Bool) (i : Instruction) (is : List Instruction)
    → after_all (cond b (i ∷ frame_around is ∷ is) (frame_around (i ∷ is) ∷ i ∷ is)) []
    ≡ after_all (i ∷ is) []
framed_writes true i is = refl
framed_writes false i is = refl

in_frame_reads : (q : List Instruction) → sources [] (in_frame q) ≡ sources [] q
in_frame_reads [] = refl
in_frame_reads (i ∷ is) = framed_reads (is_proto i.op) i is

in_frame_writes : (q : List Instruction) → after_all (in_frame q) [] ≡ after_all q []
in_frame_writes [] = refl
in_frame_writes (i ∷ is) = framed_writes (is_proto i.op) i is

framed_read : (b : Bool) (q : List Instruction) → AllRead q → AllRead (cond b (in_frame q) q)
framed_read true q h w lt = ap (is_read w) (in_frame_reads q)
    ∙ h w (subst (λ (x : Writes). w < length x) (in_frame_writes q) lt)
framed_read false q h w lt = h w lt

pub all_read : (p : List Instruction) → AreSmall (sources [] p) (length (after_all p []))
    → AllRead (optimized p)
all_read p small = framed_read (has_frame p) (slim p) (slim_read p small)
