-- Which instruction of a pickle each one of its optimized form comes from, and the runs that get
-- to the two.
use Rattle.std.proofs.Common.{◌≡◌, ℕ, Bool, true, false, cond, List, [], ◌∷◌, ◌++◌, length, Option}
use Rattle.std.proofs.Common.{◌⊎◌, inl, inr, refl, sym, ap, subst, ◌∙◌, arith}
use Rattle.pkops.specs.Spelling.{Instruction}
use Rattle.pkstack.specs.declared.Move.{Move}
use Rattle.pkstack.specs.declared.Move.TheVariants.{Stores, StoresNext, Fetches, NoOp}
use Rattle.pkmachine.specs.Effects.{Effect, Moves, effect_of}
use Rattle.pkcheck.specs.Ends.{IsFree, SameEnd}
use Rattle.pkmachine.specs.Runs.{State, Outcome, Stepped, WentOn, start, step, effect_asks}
use Rattle.pkmachine.specs.WholeRuns.{Ended, go_on, run, first_outcome, outcomes_after}
use Rattle.pkopt.specs.OneFrame.{is_proto, has_frame, frame_around, in_frame, optimized}
use Rattle.pkopt.specs.RunsAlike.{RunsAlike}
use Rattle.pkopt.specs.Slim.{renumbered, left_of, slim_from, slim}
use Rattle.pkopt.specs.Writers.{Writes, after, sources, new_number, after_all}
use Rattle.pkopt.proofs.BothRuns.AlikeSteps.{IsBlind}
use Rattle.pkopt.proofs.SlimForm.NewForms.{NamesNumber, form_effect, left_by}
use Rattle.pkopt.proofs.MemoWrites.NewNumbers.{after_all_le}
use Rattle.pkopt.specs.Private.HeardParts.{after_all-append, sources-append}
use Rattle.pkopt.proofs.BothRuns.SlimRuns.{AreSmall, alike_from, read_first, related_none}

-- an instruction that is a move
abbrev pub IsMove : Instruction → Type 0
IsMove j = (m : Move) × (effect_of j.op ≡ Moves m)

-- what is left of an instruction is a move, or the instruction, which doesn't look at the memo
abbrev IsLeftOf : Instruction → Instruction → Type 0
IsLeftOf i j = IsMove j ⊎ ((j ≡ i) × IsBlind (effect_of i.op))

same_one : (i j : Instruction) → i ∷ [] ≡ j ∷ [] → i ≡ j
same_one i j e = cc

module _ (vs : List (Option ℕ)) where
  own_left : (i : Instruction) (e : Effect) → effect_of i.op ≡ e → IsLeftOf i i
  own_left i (Moves Stores) q = inl (Stores, q)
  own_left i (Moves StoresNext) q = inl (StoresNext, q)
  own_left i (Moves Fetches) q = inl (Fetches, q)
  own_left i e q = inr (refl, subst IsBlind (sym q) tt)

  names_move : (e : Effect) → NamesNumber e → (m : Move) × (e ≡ Moves m)
  names_move (Moves Stores) names = (Stores, refl)
  names_move (Moves Fetches) names = (Fetches, refl)
  names_move e names = absurd names

  left_is : (ws : Writes) (i j : Instruction) → left_of vs ws (effect_of i.op) i ≡ j ∷ []
      → IsLeftOf i j
  left_is ws i j = left_by (λ l. l ≡ j ∷ [] → IsLeftOf i j) vs ws i (effect_of i.op)
      (λ q. absurd cc) (λ q. subst (IsLeftOf i) (same_one i j q) (own_left i (effect_of i.op) refl))
      (λ w names lt q.
      let n = new_number vs w in
      let m = names_move (effect_of i.op) names in
      inl (subst IsMove (same_one (renumbered n i) j q) (m.0, form_effect i.op n ∙ m.1)))

  -- none or one
  abbrev IsShort : List Instruction → Type 0
  IsShort l = (l ≡ []) ⊎ ((k : Instruction) × (l ≡ k ∷ []))

  left_short : (ws : Writes) (i : Instruction) → IsShort (left_of vs ws (effect_of i.op) i)
  left_short ws i = left_by IsShort vs ws i (effect_of i.op) (inl refl) (inr (i, refl))
      (λ w names lt. inr (renumbered (new_number vs w) i, refl))

  -- the instruction that this one of a slim form is left of
  record Origin (ws : Writes) (is front : List Instruction) (j : Instruction) : Type 0 where
    earlier : List Instruction
    origin : Instruction
    later : List Instruction
    parts : is ≡ earlier ++ origin ∷ later
    front_is : front ≡ slim_from vs ws earlier
    left : IsLeftOf origin j

  origin_behind : (ws : Writes) (i : Instruction) (is front : List Instruction) (j : Instruction)
      (l : List Instruction) → left_of vs ws (effect_of i.op) i ≡ l → Origin (after i ws) is front j
      → Origin ws (i ∷ is) (l ++ front) j
  origin_behind ws i is front j l e h = record {
    earlier = i ∷ h.earlier;
    origin = h.origin;
    later = h.later;
    parts = ap (λ (xs : List Instruction). i ∷ xs) h.parts;
    front_is = ap (λ (xs : List Instruction). l ++ xs) h.front_is
        ∙ ap (λ (xs : List Instruction). xs ++ slim_from vs (after i ws) h.earlier) (sym e);
    left = h.left;
  }

  module _ (ws : Writes) (i : Instruction) (is : List Instruction) (j : Instruction)
      (back : List Instruction) where
    origin_by : (front l : List Instruction) → left_of vs ws (effect_of i.op) i ≡ l → IsShort l
        → l ++ slim_from vs (after i ws) is ≡ front ++ j ∷ back
        → ((f : List Instruction) → slim_from vs (after i ws) is ≡ f ++ j ∷ back
        → Origin (after i ws) is f j) → Origin ws (i ∷ is) front j
    origin_by front l e (inl none) q on =
        let rest = ap (λ (xs : List Instruction). xs ++ slim_from vs (after i ws) is) (sym none)
        ∙ q in
        origin_behind ws i is front j [] (e ∙ none) (on front rest)
    origin_by [] l e (inr (k, one)) q on =
        let all : k ∷ slim_from vs (after i ws) is ≡ j ∷ back =
        ap (λ (xs : List Instruction). xs ++ slim_from vs (after i ws) is) (sym one) ∙ q in
        let same : k ≡ j = cc in
        record {
          earlier = [];
          origin = i;
          later = is;
          parts = refl;
          front_is = refl;
          left = left_is ws i j (e ∙ one ∙ ap (λ x. x ∷ []) same);
        }
    origin_by (f ∷ front) l e (inr (k, one)) q on =
        let all : k ∷ slim_from vs (after i ws) is ≡ f ∷ (front ++ j ∷ back) =
        ap (λ (xs : List Instruction). xs ++ slim_from vs (after i ws) is) (sym one) ∙ q in
        let same : k ≡ f = cc in
        let rest : slim_from vs (after i ws) is ≡ front ++ j ∷ back = cc in
        rw same at (origin_behind ws i is front j (k ∷ []) (e ∙ one) (on front rest))

  origin_of : (ws : Writes) (is front : List Instruction) (j : Instruction)
      (back : List Instruction) → slim_from vs ws is ≡ front ++ j ∷ back → Origin ws is front j
  origin_of ws [] [] j back q = absurd cc
  origin_of ws [] (f ∷ front) j back q = absurd cc
  origin_of ws (i ∷ is) front j back q =
      origin_by ws i is j back front (left_of vs ws (effect_of i.op) i) refl
      (left_short ws i) q
      (λ f rest. origin_of (after i ws) is f j back rest)

-- the same place in the form without its frame
record Unframed (q front : List Instruction) (j : Instruction) : Type 0 where
  bare : List Instruction
  behind : List Instruction
  parts : q ≡ bare ++ j ∷ behind
  same : (os : List Outcome) → run front os start ≡ run bare os start

frame_moves : (is : List Instruction) (j : Instruction) → frame_around is ≡ j → IsMove j
frame_moves is j same = (NoOp, ap (λ k. effect_of k.op) (sym same))

unframed_by : (b : Bool) (i : Instruction) (is front : List Instruction) (j : Instruction)
    (back : List Instruction) → cond b (i ∷ frame_around is ∷ is) (frame_around (i ∷ is) ∷ i ∷ is)
    ≡ front ++ j ∷ back → IsMove j ⊎ Unframed (i ∷ is) front j
unframed_by false i is [] j back e = inl (frame_moves (i ∷ is) j cc)
unframed_by false i is (f ∷ front) j back e =
    let first : frame_around (i ∷ is) ≡ f = cc in
    inr
    (record {
      bare = front;
      behind = back;
      parts = cc;
      same = λ os. ap (λ k. run (k ∷ front) os start) (sym first);
    })
unframed_by true i is [] j back e =
    let first : i ≡ j = cc in
    inr (record { bare = []; behind = is; parts = ap (λ k. k ∷ is) first; same = λ os. refl })
unframed_by true i is (f ∷ []) j back e = inl (frame_moves is j cc)
unframed_by true i is (f ∷ g ∷ front) j back e =
    let first : i ≡ f = cc in
    let second : frame_around is ≡ g = cc in
    let rest : is ≡ front ++ j ∷ back = cc in
    inr (record {
      bare = i ∷ front;
      behind = back;
      parts = ap (λ (xs : List Instruction). i ∷ xs) rest;
      same = λ os. ap (λ k. run (k ∷ g ∷ front) os start) (sym first)
          ∙ ap (λ k. run (i ∷ k ∷ front) os start) (sym second);
    })

unframed_in : (q front : List Instruction) (j : Instruction) (back : List Instruction)
    → in_frame q ≡ front ++ j ∷ back → IsMove j ⊎ Unframed q front j
unframed_in [] [] j back e = absurd cc
unframed_in [] (f ∷ front) j back e = absurd cc
unframed_in (i ∷ is) front j back e = unframed_by (is_proto i.op) i is front j back e

unframed : (b : Bool) (q front : List Instruction) (j : Instruction) (back : List Instruction)
    → cond b (in_frame q) q ≡ front ++ j ∷ back → IsMove j ⊎ Unframed q front j
unframed true q front j back e = unframed_in q front j back e
unframed false q front j back e =
    inr (record { bare = front; behind = back; parts = e; same = λ os. refl })

-- a run that isn't stuck isn't stuck on its way
free_step : (st : Stepped) (f g : State → Ended) → ((t : State) → IsFree (f t) → IsFree (g t))
    → IsFree (go_on st f) → IsFree (go_on st g)
free_step (WentOn t) f g on free = on t free
free_step st f g on free = free

free_front : (front rest : List Instruction) (os : List Outcome) (s : State)
    → IsFree (run (front ++ rest) os s) → IsFree (run front os s)
free_front [] rest os s free = tt
free_front (i ∷ is) rest os s free =
    let os' = outcomes_after (effect_asks (effect_of i.op)) os in
    free_step (step i s (first_outcome os)) (run (is ++ rest) os') (run is os')
    (λ t. free_front is rest os' t) free

-- an instruction of the optimized form is a move, or it stands in the pickle too
pub stands : (p front : List Instruction) (j : Instruction) (back : List Instruction)
    → optimized p ≡ front ++ j ∷ back → IsMove j
    ⊎ ((before : List Instruction) × (behind : List Instruction) × (p ≡ before ++ j ∷ behind))
stands p front j back e = elim (unframed (has_frame p) (slim p) front j back e) [
  | inl m ↦ inl m
  | inr u ↦
      let o = origin_of (sources [] p) [] p u.bare j u.behind u.parts in
      elim o.left [
        | inl m ↦ inl m
        | inr h ↦ inr (o.earlier, o.later, o.parts ∙ ap (λ k. o.earlier ++ k ∷ o.later) (sym h.0))
      ]
]

-- the instruction stands in the pickle too, and a run gets to it there where the same run of the
-- form gets to it
pub record Counterpart (p front : List Instruction) (j : Instruction) : Type 0 where
  pub before : List Instruction
  pub behind : List Instruction
  pub parts : p ≡ before ++ j ∷ behind
  pub blind : IsBlind (effect_of j.op)
  pub alike : RunsAlike before front

module _ (p : List Instruction) (small : AreSmall (sources [] p) (length (after_all p [])))
    (free : (os : List Outcome) → IsFree (run p os start)) where
  front_alike : (before rest : List Instruction) → p ≡ before ++ rest
      → RunsAlike before (slim_from (sources [] p) [] before)
  front_alike before rest e os =
      let vs = sources [] p in
      let ws = after_all before [] in
      let read = ap (sources []) e ∙ sources-append [] before rest in
      let all : after_all p [] ≡ after_all rest ws = ap (λ q. after_all q []) e
      ∙ after_all-append before rest [] in
      let size = ap (λ (x : Writes). length x) all in
      let more = after_all_le rest ws in
      alike_from vs (length (after_all p [])) small [] before start [] os
      (λ w h. rw read (read_first w (sources [] before) (sources ws rest) h))
      (omega (arith, size, more)) (related_none vs)
      (free_front before rest os start (subst (λ q. IsFree (run q os start)) e (free os)))

  by_origin : (front : List Instruction) (j : Instruction) (u : Unframed (slim p) front j)
      → Origin (sources [] p) [] p u.bare j → IsMove j ⊎ Counterpart p front j
  by_origin front j u o = elim o.left [
    | inl m ↦ inl m
    | inr h ↦ inr (record {
      before = o.earlier;
      behind = o.later;
      parts = o.parts ∙ ap (λ k. o.earlier ++ k ∷ o.later) (sym h.0);
      blind = subst (λ k. IsBlind (effect_of k.op)) (sym h.0) h.1;
      alike = λ os.
          let same = u.same os ∙ ap (λ q. run q os start) o.front_is in
          subst (SameEnd (run o.earlier os start)) (sym same)
          (front_alike o.earlier (o.origin ∷ o.later) o.parts os);
    })
  ]

  -- each instruction of the optimized form is a move, or stands in the pickle too
  pub counterpart : (front : List Instruction) (j : Instruction) (back : List Instruction)
      → optimized p ≡ front ++ j ∷ back → IsMove j ⊎ Counterpart p front j
  counterpart front j back e = elim (unframed (has_frame p) (slim p) front j back e) [
    | inl m ↦ inl m
    | inr u ↦ by_origin front j u (origin_of (sources [] p) [] p u.bare j u.behind u.parts)
  ]
