-- Instructions that some run gets past have a bill.
use Rattle.std.proofs.Common.{◌≡◌, ℕ, Bool, true, false, cond, List, [], ◌∷◌, ◌++◌, Result, Ok, Err}
use Rattle.std.proofs.Common.{length, refl, sym, ap, subst}
use Rattle.std.specs.Prelude.{All, ◌≢◌, ⊤, unwrap_or}
use Rattle.std.proofs.lemmas.List.Elements.{All-cons, All-head, All-nil, All-tail}
use Rattle.pkops.specs.Limits.{Bounds}
use Rattle.pkops.specs.OldBytes.{old_bytes}
use Rattle.pkops.specs.Operands.{memo_number}
use Rattle.pkops.specs.Payloads.{payload_limit}
use Rattle.pkops.specs.Spelling.{Instruction}
use Rattle.pkops.specs.declared.Op.TheVariants as op
use Rattle.pkread.specs.Admission.{IsAllowedBy}
use Rattle.pkread.specs.Rows.{Sight}
use Rattle.pkread.specs.Sequence.{NoStop}
use Rattle.pkimport.specs.Import.{Asked}
use Rattle.pkmachine.specs.AlikeLaws.{AlikeTaken, AlikeTop, SameResult, moved_alike, operands_alike}
use Rattle.pkmachine.specs.AlikeLaws.{top_alike}
use Rattle.pkmachine.specs.Covers.{Alike}
use Rattle.pkmachine.specs.Effects.{Effect, Operates, Moves, Stops, Raises, ascii_string}
use Rattle.pkmachine.specs.Effects.{effect_as, effect_of, is_old_string, pushes}
use Rattle.pkmachine.specs.Knowledge.{Policy}
use Rattle.pkmachine.specs.RowRuns.{Afresh}
use Rattle.pkmachine.specs.Runs.{Outcome, Raised, State, Stepped, Stopped, Stuck, WentOn}
use Rattle.pkmachine.specs.Runs.{effect_asks, move_step, operate_step, perform, start, step_as}
use Rattle.pkmachine.specs.Runs.{stop_step}
use Rattle.pkmachine.specs.WholeRuns.{first_outcome, go_on, outcomes_after, run_as}
use Rattle.pkmachine.specs.declared.effect.Class.TheVariants as class
use Rattle.pkmachine.specs.declared.effect.Gives.{Gives}
use Rattle.pkmachine.specs.declared.effect.Names.{Names}
use Rattle.pkmachine.specs.declared.memo.Memo.{Memo}
use Rattle.pkmachine.specs.declared.memo.Memo.TheVariants.{Fresh, Kept}
use Rattle.pkmachine.specs.declared.old_strings.OldStrings.{OldStrings}
use Rattle.pkmachine.specs.declared.old_strings.OldStrings.TheVariants.{Unknown, Ascii, Bytes}
use Rattle.pkstack.specs.Shape.{Breach, NoItem, Entry, Shape, Taken, and_then, moved, operands, top}
use Rattle.pkstack.specs.declared.Move.{Move}
use Rattle.pkcheck.specs.Accepted.{AcceptedFrom}
use Rattle.pkcheck.specs.NewRuns.{AnswersNew, FaultlessIsRun, GetsPast, IfWentOn, InSomeNewRun}
use Rattle.pkcheck.specs.NewRuns.{Obeys}
use Rattle.pkcheck.specs.RowOfPickles.{begins}
use Rattle.pkcheck.specs.RunFaults.{IsFaultless}
use Rattle.pkcheck.specs.declared.loading.Loading.{Loading}
use Rattle.pkload.proofs.Costs.{takes_none}
use Rattle.pkload.proofs.Exactly.{exactly}
use Rattle.pkload.proofs.Readings.{Reading}
use Rattle.pkload.proofs.Steps.{Billed, IfBilled, step_billed}
use Rattle.pkload.proofs.Tolds.{still_going}
use Rattle.pkload.proofs.Weights.{old_string_answers}
use Rattle.pkload.proofs.Whole.{started}
use Rattle.pkload.specs.Bill.{Bill, all_billed, billed, billed_by, move_billed, no_bill}
use Rattle.pkload.specs.Bill.{operation_billed, stop_billed}
use Rattle.pkload.specs.Heft.{Heft}
use Rattle.pkload.specs.Memory.{number_kept}
use Rattle.pkload.specs.Weighed.{account_of}

-- without a bill the step is stuck
abbrev StuckUnless : Result Bill Breach → Stepped → Type 0
StuckUnless (Ok b) st = ⊤
StuckUnless (Err e) (Stuck breach) = ⊤
StuckUnless (Err e) (WentOn s) = ⊥
StuckUnless (Err e) (Raised s) = ⊥
StuckUnless (Err e) (Stopped result s) = ⊥

-- ---- one step

module _ (r : Reading) (n : ℕ) where
  abbrev Weighs : State → Heft → ℕ → Type 0
  Weighs s = r.Weighs (account_of s.events).hefts

  operation_stuck : (names : Names) (gives : Gives) (i : Instruction) (b : Bill) (s : State)
      (o : Outcome) (x : Result (Taken Heft) Breach) (y : Result (Taken ℕ) Breach)
      → SameResult (AlikeTaken (Weighs s)) x y
      → StuckUnless (operation_billed gives i b x) (operate_step names gives i o s y)
  operation_stuck names gives i b s o (Ok t) y h = tt
  operation_stuck names gives i b s o (Err e) (Err q) h = tt
  operation_stuck names gives i b s o (Err e) (Ok u) h = absurd h

  move_stuck : (m : Move) (k : ℕ) (b : Bill) (s : State) (x : Result (Shape Heft) Breach)
      (y : Result (Shape ℕ) Breach) → SameResult (Alike (Weighs s)) x y
      → StuckUnless (move_billed m k b x) (move_step s y)
  move_stuck m k b s (Ok p) y h = tt
  move_stuck m k b s (Err e) (Err q) h = tt
  move_stuck m k b s (Err e) (Ok p) h = absurd h

  stop_stuck : (b : Bill) (s : State) (x : Result (Heft × List (Entry Heft)) Breach)
      (y : Result (ℕ × List (Entry ℕ)) Breach) → SameResult (AlikeTop (Weighs s)) x y
      → StuckUnless (stop_billed b x) (stop_step s y)
  stop_stuck b s (Ok p) y h = tt
  stop_stuck b s (Err e) (Err q) h = tt
  stop_stuck b s (Err e) (Ok p) h = absurd h

  module _ (i : Instruction) (b : Bill) (s : State) (o : Outcome) (h : Billed r n b s) where
    -- an effect without a bill is stuck, because the stacks and memos are alike
    effect_stuck : (e : Effect) → StuckUnless (billed_by e i b) (perform e i s o)
    effect_stuck (Operates takes names gives) =
        operation_stuck names gives i b s o (operands takes b.shape.entries)
        (operands takes s.shape.entries)
        (operands_alike (Weighs s) takes b.shape.entries s.shape.entries h.shape.entries)
    effect_stuck (Moves m) =
        move_stuck m (number_kept m (memo_number i) (length b.shape.memo)) b s
        (moved m (memo_number i) b.shape)
        (moved m (memo_number i) s.shape)
        (moved_alike (Weighs s) m (memo_number i) b.shape s.shape h.shape)
    effect_stuck Stops = stop_stuck b s (top b.shape.entries) (top s.shape.entries)
        (top_alike (Weighs s) b.shape.entries s.shape.entries h.shape.entries)
    effect_stuck Raises = tt

    -- an old string is billed, whatever it decodes to
    old_stuck : (e : Effect) (old : Bool) → is_old_string i.op ≡ old
        → StuckUnless (billed_by (effect_of i.op) i b) (perform (cond old e (effect_of i.op)) i s o)
    old_stuck e true q = subst (λ x. StuckUnless (billed_by x i b) (perform e i s o))
        (sym (old_string_answers i.op q)) tt
    old_stuck e false q = effect_stuck (effect_of i.op)

    by_setting : (setting : OldStrings)
        → StuckUnless (billed_by (effect_of i.op) i b) (step_as setting i s o)
    by_setting Unknown = effect_stuck (effect_of i.op)
    by_setting Ascii =
        old_stuck (ascii_string (unwrap_or (old_bytes i) [])) (is_old_string i.op) refl
    by_setting Bytes = old_stuck (pushes class.Bytes) (is_old_string i.op) refl

    -- a step from a state with this bill is stuck if the instruction has no bill
    step_stuck : (setting : OldStrings) → b.ended ≡ false
        → StuckUnless (billed i b) (step_as setting i s o)
    step_stuck setting e = subst
        (λ q. StuckUnless (cond q (Err NoItem) (billed_by (effect_of i.op) i b))
        (step_as setting i s o)) (sym e) (by_setting setting)

-- ---- whole runs

-- there is a bill
abbrev IsBilled : Result Bill Breach → Type 0
IsBilled x = (bill : Bill) × (x ≡ Ok bill)

module _ (setting : OldStrings) (last : Instruction) where
  -- the last instruction has a bill, if the run gets past it
  last_has_bill : (os : List Outcome) (x : Result Bill Breach) (st : Stepped) → StuckUnless x st
      → GetsPast 0 (go_on st (run_as setting [] os)) → IsBilled (and_then x (all_billed []))
  last_has_bill os (Ok c) st f p = (c, refl)
  last_has_bill os (Err e) (Stuck breach) f p = absurd p
  last_has_bill os (Err e) _ f p = absurd f

  -- if the run gets past a step, its instruction has a bill, and with it the rest
  rest_has_bill : (is : List Instruction) (os : List Outcome) (x : Result Bill Breach)
      (st : Stepped) → IfBilled exactly 0 x st → StuckUnless x st
      → ((c : Bill) → x ≡ Ok c → c.ended ≡ false)
      → IfWentOn st (Obeys AnswersNew setting is os)
      → GetsPast 0 (go_on st (run_as setting is os))
      → ((c : Bill) (t : State) → Billed exactly 0 c t → c.ended ≡ false
      → Obeys AnswersNew setting is os t → GetsPast 0 (run_as setting is os t)
      → IsBilled (all_billed is c))
      → IsBilled (and_then x (all_billed is))
  rest_has_bill is os (Ok c) (WentOn t) h f g w p on = on c t h (g c refl) w p
  rest_has_bill is os (Ok c) (Raised t) h f g w p on = absurd p
  rest_has_bill is os (Ok c) (Stopped result t) h f g w p on =
      let going = g c refl in let ended = h.1 in absurd (cc)
  rest_has_bill is os (Ok c) (Stuck breach) h f g w p on = absurd p
  rest_has_bill is os (Err e) (Stuck breach) h f g w p on = absurd p
  rest_has_bill is os (Err e) _ h f g w p on = absurd f

  -- the instructions have a bill behind one that fits the state, if the run gets past them
  along : (is : List Instruction) (os : List Outcome) (b : Bill) (s : State)
      → Billed exactly 0 b s → b.ended ≡ false → NoStop is
      → Obeys AnswersNew setting (is ++ last ∷ []) os s
      → GetsPast 0 (run_as setting (is ++ last ∷ []) os s)
      → IsBilled (all_billed (is ++ last ∷ []) b)
  along [] os b s h e n w p =
      last_has_bill (outcomes_after (effect_asks (effect_as setting last)) os) (billed last b)
      (step_as setting last s (first_outcome os))
      (step_stuck exactly 0 last b s (first_outcome os) h setting e) p
  along (i ∷ is) os b s h e n w p =
      rest_has_bill (is ++ last ∷ []) (outcomes_after (effect_asks (effect_as setting i)) os)
      (billed i b) (step_as setting i s (first_outcome os))
      (step_billed exactly 0 setting i b s (first_outcome os) h w.0)
      (step_stuck exactly 0 i b s (first_outcome os) h setting e)
      (λ c q. still_going i b c (All-head (λ i. i.op ≢ op.Stop) i is n) e q) w.1 p
      (λ c t g d v q. along is (outcomes_after (effect_asks (effect_as setting i)) os) c t g d
      (All-tail (λ i. i.op ≢ op.Stop) i is n) v q)

-- instructions that some run gets past have a bill
pub some_bill : (setting : OldStrings) (is : List Instruction) (last : Instruction) → NoStop is
    → InSomeNewRun setting Afresh (is ++ last ∷ []) GetsPast
    → (bill : Bill) × (all_billed (is ++ last ∷ []) no_bill ≡ Ok bill)
some_bill setting is last n h =
    along setting last is h.0 no_bill start (started exactly) refl n h.2 h.3

-- ---- accepted pickles

-- likewise for the first pickle of a row, with either kind of memo
begun_bill : (memo : Memo) (setting : OldStrings) (is : List Instruction) (last : Instruction)
    → NoStop is → InSomeNewRun setting (begins memo []) (is ++ last ∷ []) GetsPast
    → IsBilled (all_billed (is ++ last ∷ []) no_bill)
begun_bill Fresh setting is last n h = some_bill setting is last n h
begun_bill Kept setting is last n h = some_bill setting is last n h

-- instructions without a fault have a bill, if only the last may be STOP
faultless_bill : (run : FaultlessIsRun) (loading : Loading) (policy : Policy) (limits : Bounds)
    (here : Sight) (is : List Instruction) (last : Instruction) → NoStop is
    → All (IsAllowedBy (payload_limit limits)) (is ++ last ∷ [])
    → IsFaultless loading.old_strings (begins loading.memo []) policy limits (is ++ last ∷ [])
    → IsBilled (all_billed (is ++ last ∷ []) no_bill)
faultless_bill run loading policy limits here is last n allowed faultless =
    begun_bill loading.memo loading.old_strings is last n
    (run loading policy limits here here [] is last (takes_none here) n allowed faultless)

-- an accepted pickle has a bill
pub accepted_bill : (run : FaultlessIsRun) (loading : Loading) (policy : Policy) (limits : Bounds)
    (old new : Sight) (taken : ℕ) (imports : List Asked)
    (right : AcceptedFrom loading.old_strings (begins loading.memo []) policy limits old new taken
    imports)
    → (bill : Bill) × (all_billed right.instructions no_bill ≡ Ok bill)
accepted_bill run loading policy limits old new taken imports right =
    let s = right.sequence.stops in
    subst (λ is. IsBilled (all_billed is no_bill)) (sym s.2)
    (faultless_bill run loading policy limits old s.0 s.1 s.4
    (subst (λ is. All (IsAllowedBy (payload_limit limits)) is) s.2 right.sequence.each)
    (subst (λ is. IsFaultless loading.old_strings (begins loading.memo []) policy limits is) s.2
    right.faultless))

-- ---- refused pickles

-- an instruction and those that follow have a last one, with the others before it
last_of : (i : Instruction) (is : List Instruction)
    → (front : List Instruction) × (last : Instruction) × (i ∷ is ≡ front ++ last ∷ [])
last_of i [] = ([], i, refl)
last_of i (j ∷ is) =
    let rest = last_of j is in (i ∷ rest.0, rest.1, ap (λ l. i ∷ l) rest.2)

-- the instructions before the last have no STOP if none is STOP
front_unstopped : (front : List Instruction) (last : Instruction) → NoStop (front ++ last ∷ [])
    → NoStop front
front_unstopped [] last n = All-nil (λ i. i.op ≢ op.Stop)
front_unstopped (i ∷ front) last n = All-cons (λ i. i.op ≢ op.Stop) i front
    (All-head (λ i. i.op ≢ op.Stop) i (front ++ last ∷ []) n)
    (front_unstopped front last (All-tail (λ i. i.op ≢ op.Stop) i (front ++ last ∷ []) n))

-- instructions without STOP and without a fault have a bill
pub unstopped_bill : (run : FaultlessIsRun) (loading : Loading) (policy : Policy)
    (limits : Bounds) (here : Sight) (is : List Instruction) → NoStop is
    → All (IsAllowedBy (payload_limit limits)) is
    → IsFaultless loading.old_strings (begins loading.memo []) policy limits is
    → (bill : Bill) × (all_billed is no_bill ≡ Ok bill)
unstopped_bill run loading policy limits here [] n allowed faultless = (no_bill, refl)
unstopped_bill run loading policy limits here (i ∷ is) n allowed faultless =
    let l = last_of i is in
    subst (λ is. IsBilled (all_billed is no_bill)) (sym l.2)
    (faultless_bill run loading policy limits here l.0 l.1
    (front_unstopped l.0 l.1 (subst NoStop l.2 n))
    (subst (λ is. All (IsAllowedBy (payload_limit limits)) is) l.2 allowed)
    (subst (λ is. IsFaultless loading.old_strings (begins loading.memo []) policy limits is) l.2
    faultless))
