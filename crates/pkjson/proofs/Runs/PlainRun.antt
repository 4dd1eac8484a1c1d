-- Along a plain run.
use Rattle.std.proofs.Common.{◌≡◌, ◌≢◌, inl, inr, ℕ, zero, suc, ◌+◌, ◌≤◌, Bool, true, false, cond}
use Rattle.std.proofs.Common.{List, [], ◌∷◌, ◌++◌, length, replicate, refl, sym, ap, ◌∙◌, subst}
use Rattle.std.proofs.Common.{arith, append_assoc, Some, None, Result, Ok, Err, All}
use Rattle.std.proofs.lemmas.List.Elements.{All-head, All-tail}
use Rattle.pkops.specs.declared.Op.TheVariants as op
use Rattle.pkops.specs.Spelling.{Instruction, spelling}
use Rattle.pkread.specs.Admission.{IsAllowed}
use Rattle.pkread.specs.Sequence.{spellings}
use Rattle.pkmachine.specs.declared.effect.Class.TheVariants as class
use Rattle.pkmachine.specs.Effects as effect
use Rattle.pkmachine.specs.declared.effect.Gives.{Gives}
use Rattle.pkmachine.specs.declared.effect.Gives.TheVariants as gives
use Rattle.pkmachine.specs.declared.effect.Names.TheVariants.{NoName}
use Rattle.pkmachine.specs.declared.effect.Wanted.TheVariants.{WantsList, WantsDict}
use Rattle.pkmachine.specs.Effects.{Effect, effect_of}
use Rattle.pkstack.specs.Shape.{Breach, Entry, Taken, operands, top}
use Rattle.pkmachine.specs.Runs.{Object, State, Stepped, WentOn, Stopped, Stuck, step, perform}
use Rattle.pkmachine.specs.Runs.{operate_step, effect_asks, class_at, start}
use Rattle.pkmachine.specs.WholeRuns.{Ended, EndedBy, EndsWell, run, go_on, outcomes_after}
use Rattle.pkjson.specs.declared.action.Action.{Action}
use Rattle.pkjson.specs.declared.action.Action.TheVariants.{Makes, Fills, Moves, Stops}
use Rattle.pkjson.specs.declared.action.Made.TheVariants as made
use Rattle.pkjson.specs.declared.action.Filled.TheVariants as filled
use Rattle.pkjson.specs.Contents.{gives_of, kind_by_effect}
use Rattle.pkjson.specs.Plain.{Fault, OtherKey, LargeNumber, OtherOpcode, is_plain_data, goes_on}
use Rattle.pkjson.specs.Plain.{plain_run, first_fault, fault_of, fault_here, fault_after, keys_by}
use Rattle.pkjson.specs.Plain.{are_texts, number_fits, is_known_text, every_other, rest_of, taken}
use Rattle.pkjson.specs.Private.Arena.{Kept, Arena, kind_at, is_text_kind, are_text_kinds}
use Rattle.pkjson.specs.Private.PlainActions.{acted, keys_acted, number_acted, fault_acted, ActsAs}
use Rattle.pkjson.specs.Private.PlainActions.{KindsAgree}
use Rattle.pkjson.specs.Private.Mirrors.{MirrorsState}
use Rattle.std.specs.Prelude.{◌≡◌, ◌⊎◌, ℕ, Bool, List, [], ◌∷◌, ◌++◌, All}
use Rattle.pkops.specs.declared.Op.TheVariants as op
use Rattle.pkjson.proofs.Kept.OperandsTaken.{found_of, above_of, above_rest, ok_same}
use Rattle.pkjson.proofs.Runs.PlainStep.{IsNotStuck, mirrors_step, stops_at}

-- the plain run is the run in which every ask goes on
next_is : (is : List Instruction) (n : ℕ) (b : Bool) (st : Stepped) → length is ≤ n
    → ((m : ℕ) → length is ≤ m → (s : State) → run is (replicate m goes_on) s ≡ plain_run is s)
    → go_on st (run is (outcomes_after b (goes_on ∷ replicate n goes_on))) ≡ go_on st (plain_run is)
next_is is n true (WentOn t) l ih = ih n l t
next_is is n false (WentOn t) l ih = ih (suc n) (omega arith) t
next_is is n b st l ih = refl

pub run_is : (is : List Instruction) (n : ℕ) → length is ≤ n → (s : State)
    → run is (replicate n goes_on) s ≡ plain_run is s
run_is [] n l s = refl
run_is (i ∷ is) zero l s = absurd (omega arith)
run_is (i ∷ is) (suc n) l s = next_is is n (effect_asks (effect_of i.op)) (step i s goes_on)
    (omega arith) (run_is is)

-- a run that ends well isn't stuck on its way
not_stuck : (listed : List ℕ → List ℕ → Bool) (st : Stepped) (f : State → Ended)
    → EndsWell listed (go_on st f) → IsNotStuck st
not_stuck listed (Stuck b) f h = absurd h
not_stuck listed st f h = tt

-- the keys and the numbers of both
texts_same : (ks : List Kept) (rs : List Object)
    → ((n : ℕ) → is_text_kind (kind_at ks n) ≡ is_known_text (class_at rs n)) → (ns : List ℕ)
    → are_texts rs ns ≡ are_text_kinds ks ns
texts_same ks rs h [] = refl
texts_same ks rs h (n ∷ ns) = ap (λ b. cond b (are_texts rs ns) false) (sym (h n))
    ∙ ap (λ b. cond (is_text_kind (kind_at ks n)) b false) (texts_same ks rs h ns)

has_operands : (g : Gives) (i : Instruction) (s : State) (x : Result (Taken ℕ) Breach)
    → IsNotStuck (operate_step NoName g i goes_on s x) → (v : Taken ℕ) × (x ≡ Ok v)
has_operands g i s (Ok v) n = (v, refl)
has_operands g i s (Err b) n = absurd n

keys_same : (action : Action) (e : Effect) (i : Instruction) (s : State) → ActsAs action e
    → IsNotStuck (perform e i s goes_on) → keys_by e s.shape.entries
    ≡ keys_acted action s.shape.entries
keys_same (Makes t made.Pairs) (effect.Operates u NoName (gives.MayMake class.Dict)) i s w n =
    let v = has_operands (gives.MayMake class.Dict) i s (operands u s.shape.entries) n in
    ap (λ x. every_other true (taken x)) (v.1 ∙ sym (found_of t u s.shape.entries v.0 w.0 v.1))
keys_same (Makes t made.Items) (effect.Operates u NoName (gives.Makes class.List)) i s w n = refl
keys_same (Makes t made.Items) (effect.Operates u NoName (gives.Makes class.Tuple)) i s w n = refl
keys_same (Makes t made.NoPairs) (effect.Operates u NoName (gives.Makes class.Dict)) i s w n = refl
keys_same (Makes t made.Null) (effect.Operates u NoName (gives.Makes class.None)) i s w n = refl
keys_same (Makes t (made.Truth b)) (effect.Operates u NoName (gives.Makes class.Bool)) i s w n =
    refl
keys_same (Makes t made.Text) (effect.Operates u NoName gives.MakesText) i s w n = refl
keys_same (Makes t made.IntOrTruth) (effect.Operates u NoName gives.MakesIntOrBool) i s w n = refl
keys_same (Makes t made.Int) (effect.Operates u NoName (gives.Makes class.Int)) i s w n = refl
keys_same (Makes t m) (effect.Operates u NoName g) i s w n = absurd w.1
keys_same (Fills t filled.Items) (effect.Operates u NoName (gives.Leaves WantsList)) i s w n = refl
keys_same (Fills t filled.Pairs) (effect.Operates u NoName (gives.Leaves WantsDict)) i s w n =
    let v = has_operands (gives.Leaves WantsDict) i s (operands u s.shape.entries) n in
    let r = above_rest t s.shape.entries v.0 (above_of t u s.shape.entries v.0 w.0 v.1) in
    ap (λ x. every_other true (rest_of (taken x))) v.1 ∙ ap (every_other true) r.2
    ∙ ap (λ x. every_other true (taken x)) (sym r.1)
keys_same (Fills t f) (effect.Operates u NoName g) i s w n = absurd w.1
keys_same (Moves m) (effect.Moves p) i s w n = refl
keys_same Stops effect.Stops i s w n = refl
keys_same action e i s w n = absurd w

numbers_same : (action : Action) (e : Effect) (i : Instruction) → ActsAs action e
    → number_fits (gives_of e) i ≡ number_acted action i
numbers_same (Makes t made.Pairs) (effect.Operates u NoName (gives.MayMake class.Dict)) i w = refl
numbers_same (Makes t made.Items) (effect.Operates u NoName (gives.Makes class.List)) i w = refl
numbers_same (Makes t made.Items) (effect.Operates u NoName (gives.Makes class.Tuple)) i w = refl
numbers_same (Makes t made.NoPairs) (effect.Operates u NoName (gives.Makes class.Dict)) i w = refl
numbers_same (Makes t made.Null) (effect.Operates u NoName (gives.Makes class.None)) i w = refl
numbers_same (Makes t (made.Truth b)) (effect.Operates u NoName (gives.Makes class.Bool)) i w = refl
numbers_same (Makes t made.Text) (effect.Operates u NoName gives.MakesText) i w = refl
numbers_same (Makes t made.IntOrTruth) (effect.Operates u NoName gives.MakesIntOrBool) i w = refl
numbers_same (Makes t made.Int) (effect.Operates u NoName (gives.Makes class.Int)) i w = refl
numbers_same (Makes t m) (effect.Operates u NoName g) i w = absurd w.1
numbers_same (Fills t filled.Items) (effect.Operates u NoName (gives.Leaves WantsList)) i w = refl
numbers_same (Fills t filled.Pairs) (effect.Operates u NoName (gives.Leaves WantsDict)) i w = refl
numbers_same (Fills t f) (effect.Operates u NoName g) i w = absurd w.1
numbers_same (Moves m) (effect.Moves p) i w = refl
numbers_same Stops effect.Stops i w = refl
numbers_same action e i w = absurd w

fault_same : (action : Action) (i : Instruction) (a : Arena) (s : State) → is_plain_data i.op ≡ true
    → ActsAs action (effect_of i.op) → MirrorsState a s → IsNotStuck (step i s goes_on)
    → fault_of i s ≡ fault_acted action i a
fault_same action i a s p w h n =
    let k : are_texts s.objects (keys_by (effect_of i.op) s.shape.entries)
    ≡ are_text_kinds a.kept (keys_acted action a.shape.entries) =
    ap (are_texts s.objects)
    (keys_same action (effect_of i.op) i s w n
    ∙ ap (λ y. keys_acted action y.entries) (sym h.shape))
    ∙ texts_same a.kept s.objects h.texts (keys_acted action a.shape.entries) in
    let m = numbers_same action (effect_of i.op) i w in
    ap
    (λ b. cond b
    (cond (are_texts s.objects (keys_by (effect_of i.op) s.shape.entries))
    (cond (number_fits (gives_of (effect_of i.op)) i) None (Some LargeNumber)) (Some OtherKey))
    (Some (OtherOpcode i.op))) p
    ∙ ap
    (λ b. cond b (cond (number_fits (gives_of (effect_of i.op)) i) None (Some LargeNumber))
    (Some OtherKey)) k
    ∙ ap
    (λ b. cond (are_text_kinds a.kept (keys_acted action a.shape.entries))
    (cond b None (Some LargeNumber)) (Some OtherKey)) m

-- some instruction is STOP
abbrev pub HasStop : List Instruction → Type 0
HasStop [] = ⊥
HasStop (i ∷ is) = (i.op ≡ op.Stop) ⊎ HasStop is

-- the pickle p was replayed up to the bytes `rest`, which are at this offset; these are its
-- objects, and no fault was found
pub record Stands (limit : ℕ) (p : List Instruction) (rest : List ℕ) (at : ℕ)
    (a : Arena) : Type 0 where
  pub after : List Instruction
  pub tail : List ℕ
  pub spelled : rest ≡ spellings after ++ tail
  pub allowed : All (IsAllowed limit) after
  pub stops : HasStop after
  pub state : State
  pub listed : List ℕ → List ℕ → Bool
  pub well : EndsWell listed (plain_run after state)
  pub run : plain_run p start ≡ plain_run after state
  pub fault : first_fault 0 p start ≡ first_fault at after state
  pub mirrors : MirrorsState a state

-- as Stands, with the next instruction
pub record StandsAt (limit : ℕ) (p : List Instruction) (rest : List ℕ) (at : ℕ) (a : Arena)
    (i : Instruction) : Type 0 where
  pub after : List Instruction
  pub tail : List ℕ
  pub spelled : rest ≡ spelling i ++ (spellings after ++ tail)
  pub here : IsAllowed limit i
  pub allowed : All (IsAllowed limit) after
  pub stops : (i.op ≡ op.Stop) ⊎ HasStop after
  pub state : State
  pub listed : List ℕ → List ℕ → Bool
  pub well : EndsWell listed (plain_run (i ∷ after) state)
  pub run : plain_run p start ≡ plain_run (i ∷ after) state
  pub fault : first_fault 0 p start ≡ first_fault at (i ∷ after) state
  pub mirrors : MirrorsState a state

-- the next instruction
pub stands_at : (limit : ℕ) (p : List Instruction) (rest : List ℕ) (at : ℕ) (a : Arena)
    → Stands limit p rest at a → (i : Instruction) × StandsAt limit p rest at a i
stands_at limit p rest at a h = by_after h.after h.spelled h.allowed h.stops h.well h.run h.fault
  where
    by_after : (is : List Instruction) → rest ≡ spellings is ++ h.tail → All (IsAllowed limit) is
        → HasStop is → EndsWell h.listed (plain_run is h.state)
        → plain_run p start ≡ plain_run is h.state
        → first_fault 0 p start ≡ first_fault at is h.state → (i : Instruction)
        × StandsAt limit p rest at a i
    by_after [] s l st w r f = absurd st
    by_after (i ∷ is) s l st w r f = (
      i,
      record {
        after = is;
        tail = h.tail;
        spelled = s ∙ append_assoc (spelling i) (spellings is) h.tail;
        here = All-head (IsAllowed limit) i is l;
        allowed = All-tail (IsAllowed limit) i is l;
        stops = st;
        state = h.state;
        listed = h.listed;
        well = w;
        run = r;
        fault = f;
        mirrors = h.mirrors;
      },
    )

module _ (limit : ℕ) (p : List Instruction) (rest : List ℕ) (at : ℕ) (a : Arena) (i : Instruction)
    (h : StandsAt limit p rest at a i) where
  finds : IsNotStuck (step i h.state goes_on)
  finds = not_stuck h.listed (step i h.state goes_on) (plain_run h.after) h.well

  -- it isn't plain
  pub other_opcode : is_plain_data i.op ≡ false
      → first_fault 0 p start ≡ Some (at, OtherOpcode i.op)
  other_opcode e = h.fault ∙ ap (λ b. fault_here
      (cond b (cond (are_texts h.state.objects (keys_by (effect_of i.op) h.state.shape.entries))
      (cond (number_fits (gives_of (effect_of i.op)) i) None (Some LargeNumber)) (Some OtherKey))
      (Some (OtherOpcode i.op))) at (fault_after (step i h.state goes_on)
      (first_fault (at + length (spelling i)) h.after))) e

  module _ (action : Action) (plain : is_plain_data i.op ≡ true)
      (acts : ActsAs action (effect_of i.op)) where
    fault_is : fault_of i h.state ≡ fault_acted action i a
    fault_is = fault_same action i a h.state plain acts h.mirrors finds

    -- it has a fault
    pub faulty : (f : Fault) → fault_acted action i a ≡ Some f
        → first_fault 0 p start ≡ Some (at, f)
    faulty f e = h.fault
        ∙ ap
        (λ o. fault_here
        o at (fault_after (step i h.state goes_on)
        (first_fault (at + length (spelling i)) h.after))) (fault_is ∙ e)

    -- it has none
    goes_by : fault_acted action i a ≡ None → first_fault 0 p start
        ≡ fault_after (step i h.state goes_on) (first_fault (at + length (spelling i)) h.after)
    goes_by e = h.fault
        ∙ ap
        (λ o. fault_here
        o at (fault_after (step i h.state goes_on)
        (first_fault (at + length (spelling i)) h.after))) (fault_is ∙ e)

    module _ (kinds : KindsAgree action i (kind_by_effect i)) (goes : action ≢ Stops) where
      -- nothing lacks
      pub lacks_nothing : (b : Breach) → acted action i a ≡ Err b → ⊥
      lacks_nothing b e = let r = mirrors_step i a h.state h.mirrors action acts kinds goes finds in
          let q = sym e ∙ r.1 in cc

      -- on, behind it
      pub stands_behind : (b : Arena) → (i.op ≢ op.Stop) → fault_acted action i a ≡ None
          → acted action i a ≡ Ok b → Stands limit p (spellings h.after ++ h.tail)
          (at + length (spelling i)) b
      stands_behind b z e o =
          let r = mirrors_step i a h.state h.mirrors action acts kinds goes finds in
          record {
            after = h.after;
            tail = h.tail;
            spelled = refl;
            allowed = h.allowed;
            stops = elim h.stops [ inl q ↦ absurd (z q) | inr q ↦ q ];
            state = r.2.0;
            listed = h.listed;
            well = subst (λ st. EndsWell h.listed (go_on st (plain_run h.after))) r.2.1 h.well;
            run = h.run ∙ ap (λ st. go_on st (plain_run h.after)) r.2.1;
            fault = goes_by e
                ∙ ap (λ st. fault_after st (first_fault (at + length (spelling i)) h.after)) r.2.1;
            mirrors = subst (λ c. MirrorsState c r.2.0) (ok_same r.0 b (sym r.1 ∙ o)) r.2.2;
          }

  -- STOP
  pub stops_here : is_plain_data i.op ≡ true → ActsAs Stops (effect_of i.op)
      → (q : ℕ × List (Entry ℕ)) × (top a.shape.entries ≡ Ok q)
      × (plain_run p start ≡ EndedBy
      (Stopped q.0 (record h.state { shape = record h.state.shape { entries = q.1 } })))
      × (first_fault 0 p start ≡ None)
  stops_here plain acts =
      let r = stops_at i h.state acts finds in (
        r.0,
        ap (λ y. top y.entries) h.mirrors.shape ∙ r.1,
        h.run ∙ ap (λ st. go_on st (plain_run h.after)) r.2,
        goes_by Stops plain acts (no_stop_fault (effect_of i.op) acts)
            ∙ ap (λ st. fault_after st (first_fault (at + length (spelling i)) h.after)) r.2,
      )
    where
      no_stop_fault : (e : Effect) → ActsAs Stops e → fault_acted Stops i a ≡ None
      no_stop_fault e w = refl
