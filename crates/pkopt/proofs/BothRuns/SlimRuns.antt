-- The runs of a pickle and of its slim form.
use Rattle.std.proofs.Common.{◌≡◌, ℕ, suc, ◌<◌, ◌≤◌, ◌^◌, Bool, true, false, cond, List, [], ◌∷◌}
use Rattle.std.proofs.Common.{◌++◌, length, Option, Some, None, ◌⊎◌, inl, inr, refl, sym, ap, subst}
use Rattle.std.proofs.Common.{◌∙◌, arith}
use Rattle.std.specs.Prelude.{nat_eq, ◌≢◌}
use Rattle.std.proofs.lemmas.Bool.Decides.{eqb_tells}
use Rattle.std.proofs.lemmas.Bool.{eq-eqb, or_cases, or_left, or_right}
use Rattle.std.specs.Ordering.{nat_cmp}
use Rattle.std.specs.BTreeMap.{insert_entry}
use Rattle.pkops.specs.declared.Op.{Op}
use Rattle.pkops.specs.declared.Op.TheVariants as op
use Rattle.pkops.specs.Spelling.{Instruction}
use Rattle.pkops.specs.Operands.{memo_number}
use Rattle.pkstack.specs.declared.Move.TheVariants.{Stores, StoresNext, Fetches, NoOp}
use Rattle.pkmachine.specs.Effects.{Effect, Moves, effect_of}
use Rattle.pkcheck.specs.Ends.{IsFree, SameEnd}
use Rattle.pkstack.specs.Shape.{Entry, Item, recalled, fetched}
use Rattle.pkmachine.specs.Runs.{State, Outcome, move_step, perform, effect_asks, start}
use Rattle.pkmachine.specs.WholeRuns.{first_outcome, outcomes_after, go_on, run}
use Rattle.pkopt.specs.Writers.{Writes, last_write, different, wrote, after, read_by, sources}
use Rattle.pkopt.specs.Writers.{is_this, is_read, new_number, after_all, more_if_none}
use Rattle.pkopt.specs.Slim.{renumbered, is_frame, read_left, left_of, slim_from, slim}
use Rattle.pkopt.specs.RunsAlike.{RunsAlike}
use Rattle.pkopt.specs.Private.Memories.{Rising}
use Rattle.pkopt.proofs.BothRuns.AlikeSteps.{with_memo, IsBlind, perform_same, step_on}
use Rattle.pkopt.proofs.MemoWrites.NewNumbers.{after_all_le, new_step, new_least}
use Rattle.pkopt.proofs.MemoWrites.Recalled.{recalled_same, recalled_other, rising_insert}
use Rattle.pkopt.proofs.MemoWrites.Recalled.{length_insert, length_new}
use Rattle.pkopt.proofs.SlimForm.NewForms.{NamesNumber, form_effect, renumbered_number}

-- neither, or both, with R
abbrev pub Both : {A B : Type 0} → (A → B → Type 0) → Option A → Option B → Type 0
Both R None None = Unit {0}
Both R (Some x) (Some y) = R x y
Both R a b = ⊥

Both-map : {A B : Type 0} (P Q : A → B → Type 0) (a : Option A) (b : Option B)
    → ((x : A) (y : B) → P x y → Q x y) → Both P a b → Both Q a b
Both-map P Q None None f h = tt
Both-map P Q (Some x) (Some y) f h = f x y h
Both-map P Q a b f h = absurd h

same_more : {A B : Type 0} (P : A → B → Type 0) (a : Option A) (b : Option B) (m n : ℕ) → Both P a b
    → m ≡ n → more_if_none a m ≡ more_if_none b n
same_more P None None m n h e = ap suc e
same_more P (Some x) (Some y) m n h e = e
same_more P a b m n h e = absurd h

-- a frame passes
pub frame_effect : (o : Op) → is_frame o ≡ true → effect_of o ≡ Moves NoOp
frame_effect op.Frame e = refl
frame_effect o e = cc

-- what is read first is read
pub read_first : (w : ℕ) (us vs : List (Option ℕ)) → is_read w us ≡ true
    → is_read w (us ++ vs) ≡ true
read_first w [] vs e = cc
read_first w (u ∷ us) vs e = elim (or_cases (is_this w u) (is_read w us) e) [
  | inl h ↦ or_left _ _ h
  | inr h ↦ or_right _ _ (read_first w us vs h)
]

pub read_last : (w : ℕ) (us vs : List (Option ℕ)) → is_read w vs ≡ true
    → is_read w (us ++ vs) ≡ true
read_last w [] vs e = e
read_last w (u ∷ us) vs e = or_right _ _ (read_last w us vs e)

-- all that the first read is read by the second
abbrev pub AreTied : List (Option ℕ) → List (Option ℕ) → Type 0
AreTied us vs = (w : ℕ) → is_read w us ≡ true → is_read w vs ≡ true

module _ (vs : List (Option ℕ)) where
  -- the object of a write stands under its new number, if the write is read
  abbrev Kept : List (ℕ × ℕ) → Writes → ℕ → ℕ → Type 0
  Kept m ws w x = (w < length ws) × (is_read w vs ≡ true → recalled (new_number vs w) m ≡ Some x)

  -- the memo of a run after these writes, and that of the slim form's
  pub record Related (ws : Writes) (memo m : List (ℕ × ℕ)) : Type 0 where
    pub found : (n : ℕ) → Both (Kept m ws) (last_write n ws) (recalled n memo)
    pub count : different ws ≡ length memo
    pub rising : Rising memo
    pub size : length m ≡ new_number vs (length ws)
    pub fresh : (n : ℕ) → new_number vs (length ws) ≤ n → recalled n m ≡ None

  pub related_none : Related [] [] []
  related_none =
      record { found = λ n. tt; count = refl; rising = tt; size = refl; fresh = λ n le. refl }

  module _ (ws : Writes) (memo m m' : List (ℕ × ℕ)) (n x : ℕ) (h : Related ws memo m)
      (here : Kept m' (n ∷ ws) (length ws) x)
      (others : (w y : ℕ) → Kept m ws w y → Kept m' (n ∷ ws) w y) where
    found_at : (k : ℕ) → ((nat_eq k n ≡ true) × (k ≡ n)) ⊎ ((nat_eq k n ≡ false) × (k ≢ n))
        → Both (Kept m' (n ∷ ws)) (last_write k (n ∷ ws))
        (recalled k (insert_entry nat_cmp memo n x))
    found_at k (inl e) =
        let found : last_write k (n ∷ ws) ≡ Some (length ws) =
        ap (λ b. cond b (Some (length ws)) (last_write k ws)) e.0 in
        let stored : recalled k (insert_entry nat_cmp memo n x) ≡ Some x =
        ap (λ k. recalled k (insert_entry nat_cmp memo n x)) e.1 ∙ recalled_same n x memo in
        rw found (subst (λ b. Both (Kept m' (n ∷ ws)) (Some (length ws)) b) (sym stored) here)
    found_at k (inr e) =
        let found : last_write k (n ∷ ws) ≡ last_write k ws =
        ap (λ b. cond b (Some (length ws)) (last_write k ws)) e.0 in
        let stored : recalled k (insert_entry nat_cmp memo n x) ≡ recalled k memo =
        recalled_other k n x memo e.1 in
        rw found (rw stored (Both-map (Kept m ws) (Kept m' (n ∷ ws)) (last_write k ws)
        (recalled k memo) others (h.found k)))

    related_found : (k : ℕ) → Both (Kept m' (n ∷ ws)) (last_write k (n ∷ ws))
        (recalled k (insert_entry nat_cmp memo n x))
    related_found k = found_at k (eqb_tells k n)

    related_count : different (n ∷ ws) ≡ length (insert_entry nat_cmp memo n x)
    related_count = same_more (Kept m ws) (last_write n ws) (recalled n memo) _ _
        (h.found n) h.count ∙ sym (length_insert n x memo h.rising)

  -- after a write that nothing reads
  related_drops : (n x : ℕ) (ws : Writes) (memo m : List (ℕ × ℕ)) → is_read (length ws) vs ≡ false
      → Related ws memo m → Related (n ∷ ws) (insert_entry nat_cmp memo n x) m
  related_drops n x ws memo m e h =
      let here : Kept m (n ∷ ws) (length ws) x =
      (omega arith, λ r. let c : true ≡ false = sym r ∙ e in cc) in
      let others : (w y : ℕ) → Kept m ws w y → Kept m (n ∷ ws) w y =
      λ w y k. (let lt = k.0 in omega (arith, lt), k.1) in
      let step = new_step vs (length ws) false e in
      record {
        found = related_found ws memo m m n x h here others;
        count = related_count ws memo m m n x h here others;
        rising = rising_insert n x memo h.rising;
        size = h.size ∙ sym step;
        fresh = λ k le. h.fresh k (subst (λ b. b ≤ k) step le);
      }

  -- after a write that stays
  related_keeps : (n x : ℕ) (ws : Writes) (memo m : List (ℕ × ℕ)) → is_read (length ws) vs ≡ true
      → Related ws memo m → Related (n ∷ ws) (insert_entry nat_cmp memo n x)
      (insert_entry nat_cmp m (new_number vs (length ws)) x)
  related_keeps n x ws memo m e h =
      let m' = insert_entry nat_cmp m (new_number vs (length ws)) x in
      let here : Kept m' (n ∷ ws) (length ws) x =
      (omega arith, λ r. recalled_same (new_number vs (length ws)) x m) in
      let others : (w y : ℕ) → Kept m ws w y → Kept m' (n ∷ ws) w y =
      λ w y k. (
        let lt = k.0 in omega (arith, lt),
        λ r. recalled_other (new_number vs w)
            (new_number vs (length ws)) x m
            (λ q. let c = new_least vs w (length ws) k.0 r in omega (arith, c, q)) ∙ k.1 r,
      ) in
      let step = new_step vs (length ws) true e in
      record {
        found = related_found ws memo m m' n x h here others;
        count = related_count ws memo m m' n x h here others;
        rising = rising_insert n x memo h.rising;
        size = length_new (new_number vs (length ws)) x m
            (h.fresh (new_number vs (length ws)) (omega arith)) ∙ ap suc h.size ∙ sym step;
        fresh = λ k le. recalled_other k (new_number vs (length ws)) x m
            (λ q. omega (arith, step, le, q)) ∙ h.fresh k (omega (arith, step, le));
      }

  -- the new numbers of the first so many writes can be said
  abbrev pub AreSmall : ℕ → Type 0
  AreSmall total = (w : ℕ) → w < total → new_number vs w < 2 ^ 64

  module _ (total : ℕ) (small : AreSmall total) (i : Instruction) (ws : Writes)
      (is rest : List Instruction) where
    -- from the next instruction on the runs are alike, where these are the writes
    abbrev AlikeFrom : Writes → Type 0
    AlikeFrom ws' = (s : State) (m : List (ℕ × ℕ)) (os : List Outcome) → Related ws' s.shape.memo m
        → IsFree (run is os s) → SameEnd (run is os s) (run rest os (with_memo m s))

    abbrev AlikeHere : Effect → List Instruction → State → List (ℕ × ℕ) → List Outcome → Type 0
    AlikeHere e left s m os =
        IsFree
        (go_on (perform e i s (first_outcome os)) (run is (outcomes_after (effect_asks e) os)))
        → SameEnd
        (go_on (perform e i s (first_outcome os)) (run is (outcomes_after (effect_asks e) os)))
        (run (left ++ rest) os (with_memo m s))

    stays_on : (e : Effect) (s : State) (m : List (ℕ × ℕ)) (os : List Outcome) → effect_of i.op ≡ e
        → IsBlind e → Related ws s.shape.memo m → AlikeFrom ws → AlikeHere e (i ∷ []) s m os
    stays_on e s m os q blind r on free =
        rw q (step_on m s (perform e i s (first_outcome os))
        (perform e i (with_memo m s) (first_outcome os)) _ _
        (perform_same e i (first_outcome os) m s blind)
        (λ t h. on t m _ (subst (λ memo. Related ws memo m) (sym h) r)) free)

    -- after a write of x under n, which stays as j
    store_on : (n x : ℕ) (s : State) (m : List (ℕ × ℕ)) (os : List Outcome) (j : Instruction)
        (b : Bool) → is_read (length ws) vs ≡ b → Related ws s.shape.memo m → AlikeFrom (n ∷ ws)
        → run (j ∷ rest) os (with_memo m s) ≡ run rest os
        (with_memo (insert_entry nat_cmp m (new_number vs (length ws)) x) s)
        → IsFree (run is os (with_memo (insert_entry nat_cmp s.shape.memo n x) s))
        → SameEnd (run is os (with_memo (insert_entry nat_cmp s.shape.memo n x) s))
        (run (cond b (j ∷ []) [] ++ rest) os (with_memo m s))
    store_on n x s m os j true w r on e free =
        rw e (on (with_memo (insert_entry nat_cmp s.shape.memo n x) s) _ os
        (related_keeps n x ws s.shape.memo m w r) free)
    store_on n x s m os j false w r on e free =
        on (with_memo (insert_entry nat_cmp s.shape.memo n x) s) m os
        (related_drops n x ws s.shape.memo m w r) free

    -- the same state with other entries
    abbrev with_entries : List (Entry ℕ) → State → State
    with_entries es s = record s { shape = record s.shape { entries = es } }

    stores_on : (es : List (Entry ℕ)) (s : State) (m : List (ℕ × ℕ)) (os : List Outcome)
        → effect_of i.op ≡ Moves Stores → length ws < total → Related ws s.shape.memo m
        → AlikeFrom (memo_number i ∷ ws)
        → AlikeHere (Moves Stores)
        (cond (is_read (length ws) vs) (renumbered (new_number vs (length ws)) i ∷ []) [])
        (with_entries es s) m os
    stores_on (Item x ∷ es) s m os q lt r on free =
        let n = new_number vs (length ws) in
        let there = with_memo m (with_entries (Item x ∷ es) s) in
        store_on (memo_number i) x (with_entries (Item x ∷ es) s) m os (renumbered n i)
        (is_read (length ws) vs) refl r on
        (ap
        (λ e. go_on (perform e (renumbered n i) there (first_outcome os))
        (run rest (outcomes_after (effect_asks e) os))) (form_effect i.op n ∙ q)
        ∙ ap (λ k. run rest os (with_memo (insert_entry nat_cmp m k x) there))
        (renumbered_number i n (small (length ws) lt) (subst NamesNumber (sym q) tt))) free
    stores_on es s m os q lt r on free = absurd free

    next_on : (es : List (Entry ℕ)) (s : State) (m : List (ℕ × ℕ)) (os : List Outcome)
        → effect_of i.op ≡ Moves StoresNext → Related ws s.shape.memo m
        → AlikeFrom (length s.shape.memo ∷ ws)
        → AlikeHere (Moves StoresNext) (cond (is_read (length ws) vs) (i ∷ []) [])
        (with_entries es s) m os
    next_on (Item x ∷ es) s m os q r on free =
        let there = with_memo m (with_entries (Item x ∷ es) s) in
        store_on (length s.shape.memo) x (with_entries (Item x ∷ es) s) m os i
        (is_read (length ws) vs) refl r on
        (ap
        (λ e. go_on (perform e i there (first_outcome os))
        (run rest (outcomes_after (effect_asks e) os))) q
        ∙ ap (λ n. run rest os (with_memo (insert_entry nat_cmp m n x) there)) r.size) free
    next_on es s m os q r on free = absurd free

    fetch_on : (a b : Option ℕ) (s : State) (m : List (ℕ × ℕ)) (os : List Outcome)
        → effect_of i.op ≡ Moves Fetches → Both (Kept m ws) a b
        → ((w : ℕ) → is_this w a ≡ true → is_read w vs ≡ true) → length ws ≤ total
        → Related ws s.shape.memo m → AlikeFrom ws
        → IsFree (go_on (move_step s (fetched b (memo_number i) s.shape)) (run is os))
        → SameEnd (go_on (move_step s (fetched b (memo_number i) s.shape)) (run is os))
        (run (read_left vs a i ++ rest) os (with_memo m s))
    fetch_on None None s m os q h tied le r on free = absurd free
    fetch_on (Some w) (Some x) s m os q h tied le r on free =
        let t : State =
        record s { shape = record s.shape { entries = Item x ∷ s.shape.entries } } in
        let n = new_number vs w in
        let lt : w < total = (let before = h.0 in omega (arith, before, le)) in
        rw (ap (λ e. go_on (perform e (renumbered n i) (with_memo m s) (first_outcome os))
        (run rest (outcomes_after (effect_asks e) os))) (form_effect i.op n ∙ q)
        ∙ ap (λ k. go_on (move_step (with_memo m s)
        (fetched (recalled k m) k (with_memo m s).shape)) (run rest os))
        (renumbered_number i n (small w lt) (subst NamesNumber (sym q) tt))
        ∙ ap (λ o. go_on (move_step (with_memo m s) (fetched o n (with_memo m s).shape))
        (run rest os)) (h.1 (tied w (eq-eqb w w refl)))) (on t m os r free)
    fetch_on a b s m os q h tied le r on free = absurd h

    -- what is left of an instruction that doesn't look at the memo
    blind_on : (b : Bool) (e : Effect) (s : State) (m : List (ℕ × ℕ)) (os : List Outcome)
        → is_frame i.op ≡ b → effect_of i.op ≡ e → IsBlind e → Related ws s.shape.memo m
        → AlikeFrom ws → AlikeHere e (cond b [] (i ∷ [])) s m os
    blind_on true e s m os f q blind r on free = subst (λ e. AlikeHere e [] s m os)
        (sym (frame_effect i.op f) ∙ q) (λ free. on s m os r free) free
    blind_on false e s m os f q blind r on free = stays_on e s m os q blind r on free

    on_effect : (e : Effect) (s : State) (m : List (ℕ × ℕ)) (os : List Outcome) → effect_of i.op ≡ e
        → AreTied (read_by e (memo_number i) ws) vs → length (wrote e (memo_number i) ws) ≤ total
        → Related ws s.shape.memo m → AlikeFrom (wrote e (memo_number i) ws)
        → AlikeHere e (left_of vs ws e i) s m os
    on_effect (Moves Stores) s m os q tied le r on free =
        stores_on s.shape.entries s m os q (omega (arith, le)) r on free
    on_effect (Moves StoresNext) s m os q tied le r on free =
        next_on s.shape.entries s m os q r (subst (λ n. AlikeFrom (n ∷ ws)) r.count on) free
    on_effect (Moves Fetches) s m os q tied le r on free =
        fetch_on (last_write (memo_number i) ws) (recalled (memo_number i) s.shape.memo) s m os q
        (r.found (memo_number i)) (λ w e. tied w (or_left _ _ e)) le r on free
    on_effect e s m os q tied le r on free = blind_on (is_frame i.op) e s m os refl q tt r on free

  pub alike_from : (total : ℕ) → AreSmall total → (ws : Writes) (is : List Instruction) (s : State)
      (m : List (ℕ × ℕ)) (os : List Outcome) → AreTied (sources ws is) vs
      → length (after_all is ws) ≤ total → Related ws s.shape.memo m → IsFree (run is os s)
      → SameEnd (run is os s) (run (slim_from vs ws is) os (with_memo m s))
  alike_from total small ws [] s m os tied le r free =
      (refl, record { objects = refl; events = refl })
  alike_from total small ws (i ∷ is) s m os tied le r free =
      on_effect total small i ws is (slim_from vs (after i ws) is) (effect_of i.op) s m os refl
      (λ w e. tied w (read_first w (read_by (effect_of i.op) (memo_number i) ws) _ e))
      (let a = after_all_le is (after i ws) in omega (arith, a, le)) r
      (λ s' m' os' r' free'. alike_from total small (after i ws) is s' m' os'
      (λ w e. tied w (read_last w (read_by (effect_of i.op) (memo_number i) ws) _ e))
      le r' free') free

-- where no run is stuck, the slim form's runs are the same
pub slim_alike : (p : List Instruction) → AreSmall (sources [] p) (length (after_all p []))
    → ((os : List Outcome) → IsFree (run p os start)) → RunsAlike p (slim p)
slim_alike p small free os = alike_from (sources [] p)
    (length (after_all p [])) small [] p start [] os (λ w e. e) (omega arith)
    (related_none (sources [] p)) (free os)
