-- What becomes of each instruction is what the slim form says.
use Rattle.std.proofs.Common.{◌≡◌, ℕ, zero, suc, ◌+◌, ◌<◌, ◌≤◌, Bool, true, false, cond, List, []}
use Rattle.std.proofs.Common.{◌∷◌, ◌++◌, length, drop, get_or, Option, Some, None, inl, inr, refl}
use Rattle.std.proofs.Common.{sym, ap, subst, ◌∙◌, arith, append-nil}
use Rattle.std.specs.Prelude.{◌≢◌, min}
use Rattle.std.proofs.lemmas.Bool.Decides.{eqb_tells}
use Rattle.std.proofs.lemmas.Bool.{eq-eqb, or_left, or_right}
use Rattle.pkops.specs.declared.Op.{Op}
use Rattle.pkops.specs.declared.Op.TheVariants as op
use Rattle.pkops.specs.Operands.{memo_number, names_memo_entry}
use Rattle.pkops.specs.Spelling.{Nothing, Instruction, instruction, spelling}
use Rattle.pkread.specs.Sequence.{spellings}
use Rattle.pkstack.specs.declared.Move.TheVariants as move
use Rattle.pkmachine.specs.Effects.{Effect, Moves, effect_of}
use Rattle.pkopt.specs.declared.fate.Fate.{Fate}
use Rattle.pkopt.specs.declared.fate.Fate.TheVariants.{Goes, Stays, Gets, IsPast}
use Rattle.pkopt.specs.declared.memo.MemoUse.{MemoUse}
use Rattle.pkopt.specs.declared.memo.MemoUse.TheVariants.{Stores, StoresNext, Fetches, Neither}
use Rattle.pkopt.specs.Private.Fates.{stored_fate, next_fate, fetched_fate, kept_fate, passed_fate}
use Rattle.pkopt.specs.Private.Fates.{fate_by, writes_after, reads_after}
use Rattle.pkopt.specs.Private.Passes.{AreNumbers, memo_use}
use Rattle.pkopt.specs.Slim.{renumbered, is_frame, read_left, left_of}
use Rattle.pkopt.specs.Writers.{Writes, last_write, wrote, after, read_by, sources, is_this}
use Rattle.pkopt.specs.Writers.{is_read, new_number}
use Rattle.pkopt.proofs.MemoWrites.Followed.{effect_stores, effect_next, effect_fetches}
use Rattle.pkopt.proofs.MemoWrites.NewNumbers.{new_step, new_up_to}
use Rattle.pkopt.proofs.SlimForm.NewForms.{last_write_lt}
use Rattle.pkopt.proofs.SlimForm.PlainInstructions.{Passes, neither}

at_drop : (k : ℕ) (xs : List (Option ℕ)) (y : Option ℕ) (ys : List (Option ℕ)) → drop k xs ≡ y ∷ ys
    → (get_or xs k None ≡ y) × (drop (suc k) xs ≡ ys)
at_drop (suc k) (x ∷ xs) y ys e = at_drop k xs y ys e
at_drop k xs y ys e = (cc, cc)

is_read_at : (k : ℕ) (vs : List (Option ℕ)) (w : ℕ) → get_or vs k None ≡ Some w
    → is_read w vs ≡ true
is_read_at k [] w e = cc
is_read_at zero (v ∷ vs) w e = or_left _ _ (ap (is_this w) e ∙ eq-eqb w w refl)
is_read_at (suc k) (v ∷ vs) w e = or_right _ _ (is_read_at k vs w e)

-- what an instruction of this opcode, spelled by these bytes, adds to the output
abbrev pub Emits : Fate → Op → List ℕ → List ℕ → List ℕ → Type 0
Emits Stays o spelled old new = new ≡ old ++ spelled
Emits (Gets n) o spelled old new = names_memo_entry o ≡ true
    → new ≡ old ++ spelling (renumbered n (instruction o Nothing))
Emits f o spelled old new = new ≡ old

-- where the second pass stands, behind these writes and before these instructions
pub record At (vs : List (Option ℕ)) (limit : ℕ) (ws : Writes) (left : List Instruction)
    (writes reads : ℕ) : Type 0 where
  pub counted : writes ≡ length ws
  pub reading : drop reads vs ≡ sources ws left
  pub within : new_number vs (length ws) ≤ limit

module _ (vs : List (Option ℕ)) (limit : ℕ) (numbers : List (Option ℕ))
    (right : AreNumbers vs limit numbers) (ws : Writes) (i : Instruction)
    (is : List Instruction) where
  -- the new number is found there
  number_there : (w : ℕ) (b : Bool) → is_read w vs ≡ b → new_number vs w ≤ limit
      → get_or numbers w None ≡ cond b (Some (new_number vs w)) None
  number_there w b e le =
      let m : min (new_number vs w) limit ≡ new_number vs w = omega (arith, le) in
      right.each w ∙ ap (λ b. cond b (Some (min (new_number vs w) limit)) None) e
      ∙ ap (λ n. cond b (Some n) None) m

  -- what is written is what is left of the instruction, and the numbers stay within the limit
  abbrev pub Written : Effect → Fate → Type 0
  Written e f = (old new spelled : List ℕ) → spelled ≡ spelling i → Emits f i.op spelled old new
      → new ≡ old ++ spellings (left_of vs ws e i)

  abbrev pub RightFor : Effect → Fate → Type 0
  RightFor e IsPast = (length (wrote e (memo_number i) ws) ≡ length ws + 1)
      × (is_read (length ws) vs ≡ true) × (new_number vs (length ws) ≡ limit)
  RightFor e f = Written e f × (new_number vs (length (wrote e (memo_number i) ws)) ≤ limit)

  one : (old new : List ℕ) (j : Instruction) → new ≡ old ++ spelling j
      → new ≡ old ++ spellings (j ∷ [])
  one old new j e = e ∙ ap (λ (l : List ℕ). old ++ l) (sym (append-nil (spelling j)))

  dropped : (x : Instruction) → is_read (length ws) vs ≡ false → (old new : List ℕ) → new ≡ old
      → new ≡ old ++ spellings (cond (is_read (length ws) vs) (x ∷ []) [])
  dropped x r old new e = e ∙ sym (append-nil old)
      ∙ sym (ap (λ b. old ++ spellings (cond b (x ∷ []) [])) r)

  kept : (x : Instruction) → is_read (length ws) vs ≡ true → (old new : List ℕ)
      → new ≡ old ++ spelling x → new ≡ old ++ spellings (cond (is_read (length ws) vs) (x ∷ []) [])
  kept x r old new e = one old new x e ∙ sym (ap (λ b. old ++ spellings (cond b (x ∷ []) [])) r)

  stored_right : (b : Bool) (x : Option ℕ) → is_read (length ws) vs ≡ b
      → x ≡ cond b (Some (new_number vs (length ws))) None → new_number vs (length ws) ≤ limit
      → names_memo_entry i.op ≡ true → RightFor (Moves move.Stores) (stored_fate limit x)
  stored_right false x r e le names = rw e (
    λ old new spelled s g. dropped _ r old new g,
    let step = new_step vs (length ws) false r in
        omega (arith, step, le),
  )
  stored_right true x r e le names = rw e (elim (eqb_tells (new_number vs (length ws)) limit) [
    | inl q ↦ rw q.0 (omega arith, r, q.1)
    | inr q ↦ rw q.0 (
      λ old new spelled s g. kept _ r old new (g names),
      let step =
          new_step vs (length ws) true r in let ne = q.1 in omega (arith, step, le, ne),
    )
  ])

  next_right : (b : Bool) (x : Option ℕ) → is_read (length ws) vs ≡ b
      → x ≡ cond b (Some (new_number vs (length ws))) None → new_number vs (length ws) ≤ limit
      → RightFor (Moves move.StoresNext) (next_fate limit x)
  next_right false x r e le = rw e (
    λ old new spelled s g. dropped _ r old new g,
    let step = new_step vs (length ws) false r in
        omega (arith, step, le),
  )
  next_right true x r e le = rw e (elim (eqb_tells (new_number vs (length ws)) limit) [
    | inl q ↦ rw q.0 (omega arith, r, q.1)
    | inr q ↦ subst (λ c. RightFor (Moves move.StoresNext) (cond c IsPast Stays)) (sym q.0) (
      λ old new spelled s g. kept i r old new (g ∙ ap (λ (l : List ℕ). old ++ l) s),
      let step = new_step vs (length ws) true r in let ne = q.1 in omega (arith, step, le, ne),
    )
  ])

  abbrev FetchedRight : Option ℕ → Fate → Type 0
  FetchedRight a f = (old new spelled : List ℕ) → spelled ≡ spelling i
      → Emits f i.op spelled old new → new ≡ old ++ spellings (read_left vs a i)

  fetched_right : (a : Option ℕ) → ((w : ℕ) → a ≡ Some w → (is_read w vs ≡ true) × (w < length ws))
      → new_number vs (length ws) ≤ limit → names_memo_entry i.op ≡ true
      → FetchedRight a (fetched_fate numbers a) × (fetched_fate numbers a ≢ IsPast)
  fetched_right None found le names =
      (λ old new spelled s g. one old new i (g ∙ ap (λ (l : List ℕ). old ++ l) s), λ q. cc)
  fetched_right (Some w) found le names =
      let f = found w refl in
      let below = f.1 in
      let small = new_up_to vs w (length ws) (omega (arith, below)) in
      let there : get_or numbers w None ≡ Some (new_number vs w) =
      number_there w true f.0 (omega (arith, small, le)) in (
        rw there (λ old new spelled s g. one old new (renumbered (new_number vs w) i) (g names)),
        subst (λ x. kept_fate x ≢ IsPast) (sym there) (λ q. cc),
      )

  from_fetched : (f : Fate) → (f ≢ IsPast) → FetchedRight (last_write (memo_number i) ws) f
      → new_number vs (length ws) ≤ limit → RightFor (Moves move.Fetches) f
  from_fetched IsPast none h le = absurd (none refl)
  from_fetched f none h le = (h, le)

  passed_by : (b : Bool) (e : Effect) → is_frame i.op ≡ b → Passes vs ws i e
      → new_number vs (length ws) ≤ limit → RightFor e (cond b Goes Stays)
  passed_by true e f h le = (
    λ old new spelled s g. g ∙ sym (append-nil old)
        ∙ ap (λ (l : List Instruction). old ++ spellings l)
        (sym (h.stays ∙ ap (λ b. cond b [] (i ∷ [])) f)),
    subst (λ x. new_number vs (length x) ≤ limit) (sym h.no_write) le,
  )
  passed_by false e f h le = (
    λ old new spelled s g. one old new i (g ∙ ap (λ (l : List ℕ). old ++ l) s)
        ∙ ap (λ (l : List Instruction). old ++ spellings l)
        (sym (h.stays ∙ ap (λ b. cond b [] (i ∷ [])) f)),
    subst (λ x. new_number vs (length x) ≤ limit) (sym h.no_write) le,
  )

  passed_right : (e : Effect) → Passes vs ws i e → new_number vs (length ws) ≤ limit
      → RightFor e (passed_fate i.op)
  passed_right e h le = passed_by (is_frame i.op) e refl h le

  names_stored : (o : Op) → memo_use o ≡ Stores → names_memo_entry o ≡ true
  names_stored op.Put e = refl
  names_stored o e = cc

  names_fetched : (o : Op) → memo_use o ≡ Fetches → names_memo_entry o ≡ true
  names_fetched op.Get e = refl
  names_fetched o e = cc

  -- the fate is right, where the instruction has this effect
  abbrev FateIsRight : MemoUse → ℕ → ℕ → Effect → Type 0
  FateIsRight u writes reads e = writes ≡ length ws → drop reads vs ≡ read_by e (memo_number i) ws
      ++ sources (wrote e (memo_number i) ws) is → new_number vs (length ws) ≤ limit
      → RightFor e (fate_by u vs numbers limit i.op writes reads)

  number_here : (writes : ℕ) → writes ≡ length ws → new_number vs (length ws) ≤ limit
      → get_or numbers writes None ≡ cond (is_read (length ws) vs)
      (Some (new_number vs (length ws))) None
  number_here writes counted le = ap (λ w. get_or numbers w None) counted
      ∙ number_there (length ws) (is_read (length ws) vs) refl le

  fate_by_use : (u : MemoUse) (writes reads : ℕ) → memo_use i.op ≡ u
      → FateIsRight u writes reads (effect_of i.op)
  fate_by_use Stores writes reads is_use = subst (FateIsRight Stores writes reads)
      (sym (effect_stores i.op is_use)) (λ counted reading le.
      stored_right (is_read (length ws) vs) (get_or numbers writes None) refl
      (number_here writes counted le) le (names_stored i.op is_use))
  fate_by_use StoresNext writes reads is_use = subst (FateIsRight StoresNext writes reads)
      (sym (effect_next i.op is_use)) (λ counted reading le.
      next_right (is_read (length ws) vs) (get_or numbers writes None) refl
      (number_here writes counted le) le)
  fate_by_use Fetches writes reads is_use = subst (FateIsRight Fetches writes reads)
      (sym (effect_fetches i.op is_use)) (λ counted reading le.
      let last = last_write (memo_number i) ws in
      let source = (at_drop reads vs last (sources ws is) reading).0 in
      let f = fetched_right last
      (λ w g. (is_read_at reads vs w (source ∙ g), last_write_lt (memo_number i) ws w g))
      le (names_fetched i.op is_use) in
      rw source (from_fetched (fetched_fate numbers last) f.1 f.0 le))
  fate_by_use Neither writes reads is_use =
      λ counted reading le. passed_right (effect_of i.op) (neither vs ws i i.op is_use) le

  -- what becomes of the instruction is right
  pub fate_right : (writes reads : ℕ) → At vs limit ws (i ∷ is) writes reads
      → RightFor (effect_of i.op) (fate_by (memo_use i.op) vs numbers limit i.op writes reads)
  fate_right writes reads h =
      fate_by_use (memo_use i.op) writes reads refl h.counted h.reading h.within

  -- and then the pass stands behind it
  abbrev IsBehind : MemoUse → ℕ → ℕ → Effect → Type 0
  IsBehind u writes reads e = writes ≡ length ws → drop reads vs ≡ read_by e (memo_number i) ws
      ++ sources (wrote e (memo_number i) ws) is
      → (writes_after u writes ≡ length (wrote e (memo_number i) ws))
      × (drop (reads_after u reads) vs ≡ sources (wrote e (memo_number i) ws) is)

  at_by_use : (u : MemoUse) (writes reads : ℕ) → memo_use i.op ≡ u
      → IsBehind u writes reads (effect_of i.op)
  at_by_use Stores writes reads is_use = subst (IsBehind Stores writes reads)
      (sym (effect_stores i.op is_use)) (λ counted reading. (omega (arith, counted), reading))
  at_by_use StoresNext writes reads is_use = subst (IsBehind StoresNext writes reads)
      (sym (effect_next i.op is_use)) (λ counted reading. (omega (arith, counted), reading))
  at_by_use Fetches writes reads is_use = subst (IsBehind Fetches writes reads)
      (sym (effect_fetches i.op is_use)) (λ counted reading.
      let next : reads + 1 ≡ suc reads = omega arith in
      (counted, ap (λ k. drop k vs) next ∙ (at_drop reads vs _ (sources ws is) reading).1))
  at_by_use Neither writes reads is_use = λ counted reading.
      let h = neither vs ws i i.op is_use in (
        counted ∙ ap (λ (x : Writes). length x) (sym h.no_write),
        reading ∙ ap (λ (l : List (Option ℕ)). l ++ sources (after i ws) is) h.no_read,
      )

  pub at_next : (writes reads : ℕ) → At vs limit ws (i ∷ is) writes reads
      → new_number vs (length (after i ws)) ≤ limit
      → At vs limit (after i ws) is (writes_after (memo_use i.op) writes)
      (reads_after (memo_use i.op) reads)
  at_next writes reads h le =
      let a = at_by_use (memo_use i.op) writes reads refl h.counted h.reading in
      record { counted = a.0; reading = a.1; within = le }

  pub on_right : (e : Effect) (f : Fate) → f ≢ IsPast → RightFor e f
      → Written e f × (new_number vs (length (wrote e (memo_number i) ws)) ≤ limit)
  on_right e IsPast none h = absurd (none refl)
  on_right e f none h = h

  pub past_right : (e : Effect) (f : Fate) → f ≡ IsPast → RightFor e f → RightFor e IsPast
  past_right e f q h = subst (RightFor e) q h
