-- Each step of a run costs what the step of the bill says, as a reading of the bill means it.
use Rattle.std.proofs.Common.{◌≡◌, ℕ, ◌+◌, ◌≤◌, Bool, true, false, cond, List, [], ◌∷◌, ◌++◌}
use Rattle.std.proofs.Common.{length, map, Option, Some, None, Result, Ok, Err, refl, sym, ap}
use Rattle.std.proofs.Common.{subst, ◌∙◌, arith, length-append, ltb}
use Rattle.std.proofs.lemmas.Bool.{ltb-true}
use Rattle.std.specs.Prelude.{⊤, unwrap_or}
use Rattle.std.specs.Char.{is_ascii}
use Rattle.std.specs.List.{list_all}
use Rattle.pkops.specs.OldBytes.{old_bytes}
use Rattle.pkops.specs.Operands.{memo_number}
use Rattle.pkops.specs.Spelling.{Instruction}
use Rattle.pkmachine.specs.declared.effect.Names.{Names}
use Rattle.pkmachine.specs.declared.effect.Gives.{Gives}
use Rattle.pkmachine.specs.declared.effect.Wanted.{Wanted}
use Rattle.pkstack.specs.declared.Move.{Move}
use Rattle.pkmachine.specs.declared.effect.Gives.TheVariants.{Makes, MakesIntOrBool, MakesText}
use Rattle.pkmachine.specs.declared.effect.Gives.TheVariants.{MayMake, Answers, Leaves}
use Rattle.pkmachine.specs.declared.effect.Class.TheVariants as class
use Rattle.pkmachine.specs.declared.effect.Names.TheVariants.{NoName}
use Rattle.pkstack.specs.declared.Takes.TheVariants.{Objects}
use Rattle.pkmachine.specs.declared.old_strings.OldStrings.{OldStrings}
use Rattle.pkmachine.specs.declared.old_strings.OldStrings.TheVariants.{Unknown, Ascii, Bytes}
use Rattle.pkmachine.specs.Covers.{Alike, AlikeEntry}
use Rattle.pkmachine.specs.Effects.{Effect, Operates, Moves, Stops, Raises, answers, ascii_string}
use Rattle.pkmachine.specs.Effects.{effect_as, effect_of, is_old_string, pushes}
use Rattle.pkcheck.specs.NewRuns.{If}
use Rattle.pkmachine.specs.Runs.{Did, Foreign, Go, Import, Named, NoImport, NotTexts, Object}
use Rattle.pkmachine.specs.Runs.{ObjectClass, Outcome, Pair, Raise, Raised, State, Stepped, Stopped}
use Rattle.pkmachine.specs.Runs.{Stuck, WentOn, asks, class_at, come_of, effect_asks, gone_on}
use Rattle.pkmachine.specs.Runs.{move_step, named, operate_step, operated, perform, step_as}
use Rattle.pkmachine.specs.Runs.{stop_step, with_answer, with_event}
use Rattle.pkstack.specs.Shape.{Breach, NoItem, Entry, Item, Shape, Taken, front, moved, operands}
use Rattle.pkstack.specs.Shape.{put, top}
use Rattle.pkload.proofs.Accounts.{along_end, next_is_new, nothing_counted, since_end}
use Rattle.pkmachine.specs.AlikeLaws.{Alike-map, AlikeTaken, AlikeTop, Pointwise-append, SameResult}
use Rattle.pkmachine.specs.AlikeLaws.{front_alike, moved_alike, operands_alike, top_alike}
use Rattle.pkload.proofs.Weights.{again_count, old_string_answers}
use Rattle.pkload.proofs.Readings.{Reading}
use Rattle.pkload.specs.Bill.{Bill, billed, billed_by, heft_given, move_billed, operation_billed}
use Rattle.pkload.specs.Bill.{stop_billed}
use Rattle.pkload.specs.Heft.{Heft, argument_size, heft_of}
use Rattle.pkload.specs.Memory.{number_kept, operation_memory}
use Rattle.pkload.specs.Tally.{with_operation}
use Rattle.pkload.specs.Weighed.{account_of, answered_again, heft_at, hefts_with, no_account}
use Rattle.pkload.specs.Weighed.{tally_since}

module _ (r : Reading) (n : ℕ) where
  -- what is said of an object is so in this state of the run
  abbrev Weighs : State → Heft → ℕ → Type 0
  Weighs s = r.Weighs (account_of s.events).hefts

  -- the bill is that of the run behind these events, and the account has each object of the run
  pub record Billed (b : Bill) (s : State) : Type 0 where
    pub shape : Alike (Weighs s) b.shape s.shape
    pub tally : r.Counts (tally_since n s.events) b.tally
    pub count : length (account_of s.events).hefts ≡ length s.objects
    pub behind : n ≤ length s.events

  abbrev pub StepBilled : Bill → Stepped → Type 0
  StepBilled b (WentOn t) = Billed b t
  StepBilled b (Raised t) = r.Counts (tally_since n t.events) b.tally
  StepBilled b (Stopped r t) = Billed b t × (b.ended ≡ true)
  StepBilled b (Stuck r) = ⊥

  abbrev pub IfBilled : Result Bill Breach → Stepped → Type 0
  IfBilled (Ok b) st = StepBilled b st
  IfBilled (Err e) st = ⊤

  -- the bill after an operation on these operands
  abbrev after : Gives → Instruction → Taken Heft → Bill → Bill
  after gives i t b = record b {
    shape = record b.shape {
      entries = put (heft_given gives i t.operands) t.operands ++ t.below;
    };
    tally = with_operation i.op t.operands b.tally;
    memory = b.memory + operation_memory i (length t.operands);
  }

  -- an answer is one that may come
  abbrev MayIfAnswer : Gives → Instruction → State → ℕ → ObjectClass → Type 0
  MayIfAnswer Answers i s n c = r.May i s (Go n c)
  MayIfAnswer gives i s n c = ⊤

  module _ (i : Instruction) (t : Taken Heft) (u : Taken ℕ) (b : Bill) (s : State) (h : Billed b s)
      (a : AlikeTaken (Weighs s) t u) where
    abbrev hefts : List Heft
    hefts = (account_of s.events).hefts

    -- the run after it gave this, with these objects
    abbrev state_then : Option ℕ → List Object → State
    state_then d objects = record {
      shape = record { entries = put d u.operands ++ u.below; memo = s.shape.memo };
      objects = objects;
      events = s.events ++ Did i u.operands d ∷ [];
    }

    hefts_then : (d : Option ℕ) (objects : List Object)
        → (account_of (state_then d objects).events).hefts ≡ hefts_with i u.operands d hefts
    hefts_then d objects =
        ap (λ x. x.hefts) (along_end no_account s.events (Did i u.operands d))

    tally_then : (d : Option ℕ)
        → r.Counts (tally_since n (s.events ++ Did i u.operands d ∷ []))
        (with_operation i.op t.operands b.tally)
    tally_then d = subst (λ run. r.Counts run (with_operation i.op t.operands b.tally))
        (sym (since_end n s.events (Did i u.operands d) h.behind))
        (r.counted i.op hefts t.operands u.operands (tally_since n s.events) b.tally a.operands
        h.tally)

    -- an operation that gave this is billed, if the objects cost this afterwards
    billed_then : (gives : Gives) (d : Option ℕ) (objects : List Object) (now : List Heft)
        → hefts_with i u.operands d hefts ≡ now
        → Alike (r.Weighs now) (after gives i t b).shape (state_then d objects).shape
        → length now ≡ length objects
        → Billed (after gives i t b) (state_then d objects)
    billed_then gives d objects now is shape count =
        let same = hefts_then d objects ∙ is in
        record {
          shape = subst
              (λ l. Alike (r.Weighs l) (after gives i t b).shape (state_then d objects).shape)
              (sym same) shape;
          tally = tally_then d;
          count = ap length same ∙ count;
          behind = omega (arith, h.behind, length-append s.events (Did i u.operands d ∷ []));
        }

    -- an object is pushed, and all others cost what was said of them
    pushed : (now : List Heft)
        → ((heft : Heft) (k : ℕ) → r.Weighs hefts heft k → r.Weighs now heft k)
        → (heft : Heft) (number : ℕ) → r.Weighs now heft number
        → Alike (r.Weighs now) (record { entries = Item heft ∷ t.below; memo = b.shape.memo })
        (record { entries = Item number ∷ u.below; memo = s.shape.memo })
    pushed now kept heft number w =
        let old = Alike-map (r.Weighs hefts) (r.Weighs now) kept
        (record { entries = t.below; memo = b.shape.memo })
        (record { entries = u.below; memo = s.shape.memo })
        (record { entries = a.below; memo = h.shape.memo }) in
        record { entries = (w, old.entries); memo = old.memo }

    -- an operation that gives a new object
    new_result : (o : Object)
        → Billed (after Answers i t b) (state_then (Some (length s.objects)) (s.objects ++ o ∷ []))
    new_result o =
        let another = heft_of i (map (heft_at hefts) u.operands) in
        billed_then Answers (Some (length s.objects)) (s.objects ++ o ∷ []) (hefts ++ another ∷ [])
        (subst (λ k. hefts_with i u.operands (Some k) hefts ≡ hefts ++ another ∷ []) h.count
        (next_is_new i u.operands hefts))
        (pushed (hefts ++ another ∷ []) (r.kept hefts another) (heft_of i t.operands)
        (length s.objects)
        (subst (r.Weighs (hefts ++ another ∷ []) (heft_of i t.operands)) h.count
        (r.made hefts i t.operands u.operands a.operands)))
        (omega (
          arith,
          h.count,
          length-append hefts (another ∷ []),
          length-append s.objects (o ∷ []),
        ))

    -- an operation that answers an earlier object
    earlier_result : (number : ℕ) (c : ObjectClass) → r.May i s (Go number c)
        → ltb number (length s.objects) ≡ true
        → Billed (after Answers i t b) (state_then (Some number) s.objects)
    earlier_result number c w e =
        let k = r.again hefts i t.operands u.operands s number c w a.operands h.count
        (ltb-true number (length s.objects) e) in
        let answer = heft_of i (map (heft_at hefts) u.operands) in
        let now = answered_again answer number hefts in
        billed_then Answers (Some number) s.objects now
        (ap (λ q. cond q now (hefts ++ answer ∷ [])) (ap (ltb number) h.count ∙ e))
        (pushed now k.kept (heft_of i t.operands) number k.is)
        (again_count answer number hefts ∙ h.count)

    -- an operation that leaves its receiver
    leaves : (wanted : Wanted) → Billed (after (Leaves wanted) i t b) (state_then None s.objects)
    leaves wanted = billed_then (Leaves wanted) None s.objects hefts refl
        (record {
          entries = Pointwise-append (AlikeEntry (r.Weighs hefts)) (front t.operands)
              (front u.operands) t.below u.below
              (front_alike (r.Weighs hefts) t.operands u.operands a.operands) a.below;
          memo = h.shape.memo;
        }) h.count

    by_number : (q : Bool) (number : ℕ) (c : ObjectClass) → r.May i s (Go number c)
        → ltb number (length s.objects) ≡ q
        → StepBilled (after Answers i t b) (WentOn (let x = cond {A = Option ℕ × List Object} q
        (Some number, s.objects) (Some (length s.objects), with_answer c s.objects) in
        state_then x.0 x.1))
    by_number true number c w e = earlier_result number c w e
    by_number false number c w e = new_result _

    went_on : (gives : Gives) (number : ℕ) (c : ObjectClass)
        → MayIfAnswer gives i s number c
        → StepBilled (after gives i t b) (gone_on gives i u number c s)
    went_on (Makes k) number c w = new_result _
    went_on MakesIntOrBool number c w = new_result _
    went_on MakesText number c w = new_result _
    went_on (MayMake k) number c w = new_result _
    went_on (Leaves k) number c w = leaves k
    went_on Answers number c w =
        by_number (ltb number (length s.objects)) number c w refl

    comes : (gives : Gives) (o : Outcome) → If (asks gives) (r.May i s o)
        → StepBilled (after gives i t b) (come_of (asks gives) gives i u o s)
    comes (Makes k) o w = went_on (Makes k) 0 Foreign tt
    comes MakesIntOrBool o w = went_on MakesIntOrBool 0 Foreign tt
    comes MakesText o w = went_on MakesText 0 Foreign tt
    comes (MayMake k) Raise w = tally_then None
    comes (MayMake k) (Go number c) w = went_on (MayMake k) number c tt
    comes (Leaves k) Raise w = tally_then None
    comes (Leaves k) (Go number c) w = went_on (Leaves k) number c tt
    comes Answers Raise w = tally_then None
    comes Answers (Go number c) w = went_on Answers number c w

  -- an import counts nothing
  account_imports : (s : State) (m k : List ℕ)
      → account_of s.events ≡ account_of (s.events ++ Import m k ∷ [])
  account_imports s m k = sym (along_end no_account s.events (Import m k))

  imports : (b : Bill) (s : State) (m k : List ℕ) → Billed b s
      → Billed b (with_event (Import m k) s)
  imports b s m k h = record {
    shape = subst (λ x. Alike (r.Weighs x.hefts) b.shape s.shape) (account_imports s m k) h.shape;
    tally = subst (λ run. r.Counts run b.tally) (sym (since_end n s.events (Import m k) h.behind))
        h.tally;
    count = subst (λ x. length x.hefts ≡ length s.objects) (account_imports s m k) h.count;
    behind = omega (arith, h.behind, length-append s.events (Import m k ∷ []));
  }

  operates : (nm : Named) (gives : Gives) (i : Instruction) (t : Taken Heft) (u : Taken ℕ)
      (b : Bill) (s : State) (o : Outcome) → Billed b s
      → AlikeTaken (Weighs s) t u → If (asks gives) (r.May i s o)
      → StepBilled (after gives i t b) (operated nm gives i u o s)
  operates NoImport gives i t u b s o h a w = comes i t u b s h a gives o w
  operates (Pair m k) gives i t u b s o h a w =
      comes i t u b (with_event (Import m k) s) (imports b s m k h)
      (subst (λ x. AlikeTaken (r.Weighs x.hefts) t u) (account_imports s m k) a) gives o
      (same_may (asks gives) w)
    where
      same_may : (q : Bool) → If q (r.May i s o) → If q (r.May i (with_event (Import m k) s) o)
      same_may true w = r.behind i s (Import m k) o w
      same_may false w = w
  operates NotTexts gives i t u b s o h a w = tally_then i t u b s h a None

  operate_billed : (names : Names) (gives : Gives) (i : Instruction) (b : Bill) (s : State)
      (o : Outcome) (x : Result (Taken Heft) Breach) (y : Result (Taken ℕ) Breach)
      → Billed b s → SameResult (AlikeTaken (Weighs s)) x y → If (asks gives) (r.May i s o)
      → IfBilled (operation_billed gives i b x) (operate_step names gives i o s y)
  operate_billed names gives i b s o (Ok t) (Ok u) h a w =
      operates (named names i (map (class_at s.objects) u.operands)) gives i t u b s o h a w
  operate_billed names gives i b s o (Err e) y h a w = tt
  operate_billed names gives i b s o (Ok t) (Err e) h a w = absurd a

  shape_billed : (m : Move) (k : ℕ) (b : Bill) (s : State) (x : Result (Shape Heft) Breach)
      (y : Result (Shape ℕ) Breach) → Billed b s → SameResult (Alike (Weighs s)) x y
      → IfBilled (move_billed m k b x) (move_step s y)
  shape_billed m k b s (Ok p) (Ok q) h a =
      record { shape = a; tally = h.tally; count = h.count; behind = h.behind }
  shape_billed m k b s (Err e) y h a = tt
  shape_billed m k b s (Ok p) (Err e) h a = absurd a

  result_billed : (b : Bill) (s : State) (x : Result (Heft × List (Entry Heft)) Breach)
      (y : Result (ℕ × List (Entry ℕ)) Breach) → Billed b s → SameResult (AlikeTop (Weighs s)) x y
      → IfBilled (stop_billed b x) (stop_step s y)
  result_billed b s (Ok p) (Ok q) h a = (
    record {
      shape = record { entries = a.below; memo = h.shape.memo };
      tally = h.tally;
      count = h.count;
      behind = h.behind;
    },
    refl,
  )
  result_billed b s (Err e) y h a = tt
  result_billed b s (Ok p) (Err e) h a = absurd a

  raises_billed : (i : Instruction) (b : Bill) (s : State) → Billed b s
      → r.Counts (tally_since n (s.events ++ Did i [] None ∷ [])) b.tally
  raises_billed i b s h = subst (λ run. r.Counts run b.tally)
      (sym (since_end n s.events (Did i [] None) h.behind
      ∙ nothing_counted i.op (tally_since n s.events))) h.tally

  performed_billed : (e : Effect) (i : Instruction) (b : Bill) (s : State) (o : Outcome)
      → Billed b s → If (effect_asks e) (r.May i s o)
      → IfBilled (billed_by e i b) (perform e i s o)
  performed_billed (Operates takes names gives) i b s o h w =
      operate_billed names gives i b s o (operands takes b.shape.entries)
      (operands takes s.shape.entries) h
      (operands_alike (Weighs s) takes b.shape.entries s.shape.entries h.shape.entries) w
  performed_billed (Moves m) i b s o h w =
      shape_billed m (number_kept m (memo_number i) (length b.shape.memo)) b s
      (moved m (memo_number i) b.shape) (moved m (memo_number i) s.shape) h
      (moved_alike (Weighs s) m (memo_number i) b.shape s.shape h.shape)
  performed_billed Stops i b s o h w =
      result_billed b s (top b.shape.entries) (top s.shape.entries) h
      (top_alike (Weighs s) b.shape.entries s.shape.entries h.shape.entries)
  performed_billed Raises i b s o h w = raises_billed i b s h

  -- ---- the decoding of old strings

  module _ (i : Instruction) (b : Bill) (s : State) (o : Outcome) (h : Billed b s) where
    -- the step of an effect is billed by the opcode
    abbrev IsBilledAs : Effect → Type 0
    IsBilledAs e = If (effect_asks e) (r.May i s o)
        → IfBilled (billed_by (effect_of i.op) i b) (perform e i s o)

    abbrev IsBilledAsOld : Effect → Type 0
    IsBilledAsOld e = If (effect_asks e) (r.May i s o)
        → IfBilled (billed_by (answers (Objects 0)) i b) (perform e i s o)

    ascii_billed : (plain : Bool)
        → IsBilledAsOld (cond plain (Operates (Objects 0) NoName MakesText) Raises)
    ascii_billed true w = performed_billed (Operates (Objects 0) NoName MakesText) i b s o h w
    ascii_billed false w = subst
        (λ said. r.Counts (tally_since n (s.events ++ Did i [] None ∷ [])) said)
        (sym (nothing_counted i.op b.tally)) (raises_billed i b s h)

    old_billed : (e : Effect) (old : Bool) → is_old_string i.op ≡ old → IsBilledAsOld e
        → IsBilledAs (cond old e (effect_of i.op))
    old_billed e true q f w =
        subst (λ x. IfBilled (billed_by x i b) (perform e i s o)) (sym (old_string_answers i.op q))
        (f w)
    old_billed e false q f w = performed_billed (effect_of i.op) i b s o h w

    by_setting : (setting : OldStrings) → IsBilledAs (effect_as setting i)
    by_setting Unknown w = performed_billed (effect_of i.op) i b s o h w
    by_setting Ascii w =
        old_billed (ascii_string (unwrap_or (old_bytes i) [])) (is_old_string i.op) refl
        (ascii_billed (list_all is_ascii (unwrap_or (old_bytes i) []))) w
    by_setting Bytes w = old_billed (pushes class.Bytes) (is_old_string i.op) refl
        (λ v. performed_billed (pushes class.Bytes) i b s o h v) w

  -- a step from a state with this bill leads to one with the next bill
  pub step_billed : (setting : OldStrings) (i : Instruction) (b : Bill) (s : State) (o : Outcome)
      → Billed b s → If (effect_asks (effect_as setting i)) (r.May i s o)
      → IfBilled (billed i b) (step_as setting i s o)
  step_billed setting i b s o h w =
      unless_ended b.ended (billed_by (effect_of i.op) i b) (step_as setting i s o)
      (by_setting i b s o h setting w)
    where
      unless_ended : (q : Bool) (x : Result Bill Breach) (st : Stepped) → IfBilled x st
          → IfBilled (cond q (Err NoItem) x) st
      unless_ended true x st g = tt
      unless_ended false x st g = g
