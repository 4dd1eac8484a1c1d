-- What the policy says about an import, and which steps are refused.
use Rattle.pkops.specs.Operands.{pair_named}
use Rattle.std.proofs.Common.{◌≡◌, ℕ, ◌⊎◌, inl, inr, List, [], ◌∷◌, ◌++◌, Bool, true, false, cond}
use Rattle.std.proofs.Common.{Option, Some, None, Result, Ok, Err, option_map, refl, ◌∙◌, length}
use Rattle.std.proofs.Common.{arith, map, ◌≤◌}
use Rattle.std.specs.Prelude.{is_some, IsSome}
use Rattle.pkmachine.specs.Effects.{Operates, Names, NoName, OfArgument, OfOperands, Gives, Leaves}
use Rattle.pkmachine.specs.Effects.{Takes, Objects, Wanted}
use Rattle.pkstack.specs.Shape.{put, Breach, Entry, Item, Taken, and_then, operands}
use Rattle.pkops.specs.Spelling.{Instruction}
use Rattle.pkmachine.specs.Knowledge.{argument_asked, Known, Knowledge, Policy, Refusal, Lacks}
use Rattle.pkmachine.specs.Knowledge.{Progress, TooLarge, known_given, learn, within, WrongClass}
use Rattle.pkmachine.specs.Knowledge.{wrong_first, wrong_receiver, asked_of, operands_asked}
use Rattle.pkimport.specs.Import.{Asked, asks_more}
use Rattle.pkmachine.specs.Runs.{Text}
use Rattle.pkops.specs.Limits.{Bounds}
use Rattle.pkops.specs.declared.Reason.{Reason}
use Rattle.pkops.specs.declared.Reason.TheVariants as reason
use Rattle.pkmachine.specs.Private.Slots.{StandsIf, known, value_known}
use Rattle.pkmachine.specs.declared.operate.StepError.{StepError}
use Rattle.pkimport.specs.declared.import.Named.{Named}
use Rattle.pkimport.specs.Table.{named_asked}
use Rattle.pkmachine.specs.declared.held.Held.{Held}
use Rattle.pkmachine.specs.declared.value.Value.{Value}
use Rattle.pkmachine.specs.declared.value.Value.TheVariants.{Made}
use Rattle.std.specs.List.{slice_get}
use Rattle.pkmachine.specs.Private.StepErrors.{ruled, judged, IsRefusedWith, IsForMemory, MayGive}
use Rattle.pkmachine.specs.Private.StepErrors.{MayName, MayOperate, Proceeds, WellGiven}
use Rattle.pkstack.specs.Faults.{IsLack, WantsRoom}
use Rattle.pkstack.specs.Places.{HasFirst}
use Rattle.pkmachine.proofs.StepParts.Past.{within_past}

abbrev pub ruled_any : Policy → Option Asked → Result (Option Asked) Refusal
ruled_any p None = Ok None
ruled_any p (Some a) = ruled p a

argument_ruled : (p : Policy) (q : Option (List ℕ × List ℕ))
    → argument_asked p q ≡ and_then (argument_asked None q) (ruled_any p)
argument_ruled p (Some q) = refl
argument_ruled p None = refl

two_ruled : (p : Policy) (j k : Known)
    → operands_asked p j k ≡ and_then (operands_asked None j k) (ruled_any p)
two_ruled p (Some (Text m)) (Some (Text n)) = refl
two_ruled p None (Some (Text n)) = refl
two_ruled p _ _ = refl

-- an import is found without the policy, and then judged by it
pub asked_ruled : (p : Policy) (names : Names) (i : Instruction) (ks : List Known)
    → asked_of p names i ks ≡ and_then (asked_of None names i ks) (ruled_any p)
asked_ruled p OfArgument i ks = argument_ruled p (pair_named i)
asked_ruled p OfOperands i (j ∷ k ∷ []) = two_ruled p j k
asked_ruled p _ i _ = refl

module _ (p : Policy) (names : Names) (gives : Gives) (i : Instruction) (ks : List Known) where
  pub judged_wrong : wrong_receiver gives ks ≡ true → judged p names gives i ks ≡ Err WrongClass
  judged_wrong e = rw e refl

  module _ (f : wrong_receiver gives ks ≡ false) where
    pub judged_ok : (a : Option Asked) → asked_of None names i ks ≡ Ok a
        → judged p names gives i ks ≡ ruled_any p a
    judged_ok a e = rw (f, asked_ruled p names i ks, e) refl

    pub judged_err : (r : Refusal) → asked_of None names i ks ≡ Err r
        → judged p names gives i ks ≡ Err r
    judged_err r e = rw (f, asked_ruled p names i ks, e) refl

chosen : {A B E : Type 0} (b : Bool) (e : E) (x : Result A E) (f : A → Result B E) (y : A)
    → cond b (Err e) x ≡ Ok y → cond b (Err e) (and_then x f) ≡ f y
chosen true e x f y h = cc
chosen false e x f y h = rw h refl

unchosen : {A B E : Type 0} (b : Bool) (e : E) (x : Result A E) (f : A → Result B E) (r : E)
    → cond b (Err e) x ≡ Err r → cond b (Err e) (and_then x f) ≡ Err r
unchosen true e x f r h = cc
unchosen false e x f r h = rw h refl

module _ (p : Policy) (takes : Takes) (names : Names) (gives : Gives) (i : Instruction)
    (k : Knowledge) where
  pub learn_lacks : (b : Breach) → operands takes k.entries ≡ Err b
      → learn p (Operates takes names gives) i k ≡ Err (Lacks b)
  learn_lacks b e = rw e refl

  module _ (t : Taken Known) (e : operands takes k.entries ≡ Ok t) where
    pub learn_errs : (f : Refusal) → judged p names gives i t.operands ≡ Err f
        → learn p (Operates takes names gives) i k ≡ Err f
    learn_errs f g = rw e
        (unchosen (wrong_receiver gives t.operands) WrongClass
        (asked_of p names i t.operands) _ f g)

    pub learn_passes : (a : Option Asked) → judged p names gives i t.operands ≡ Ok a
        → learn p (Operates takes names gives) i k
        ≡ Ok
        (record {
          after = record {
            entries = put (known_given gives i) t.operands ++ t.below;
            memo = k.memo;
          };
          import = a;
        })
    learn_passes a g = rw e
        (chosen (wrong_receiver gives t.operands) WrongClass (asked_of p names i t.operands) _ a g)

  pub lack_errs : (r : Reason) → IsLack (operands takes k.entries) r
      → IsRefusedWith (learn p (Operates takes names gives) i k)
      (record { reason = r; pair = None })
  lack_errs r (b, e, g) = (Lacks b, learn_lacks b e, g, refl)

  pub judged_errs : (t : Taken Known) (d : StepError) → operands takes k.entries ≡ Ok t
      → IsRefusedWith (judged p names gives i t.operands) d
      → IsRefusedWith (learn p (Operates takes names gives) i k) d
  judged_errs t d e (f, g, h, j) = (f, learn_errs t e f g, h, j)

  -- no room for the object that the operation leaves
  pub room_errs : (l : Bounds) (t : Taken Known) (a : Option Asked) (v : Known)
      → operands takes k.entries ≡ Ok t → judged p names gives i t.operands ≡ Ok a
      → known_given gives i ≡ Some v → l.stack ≤ length t.below
      → IsRefusedWith (and_then (learn p (Operates takes names gives) i k) (within l 0))
      (record { reason = reason.TooLarge; pair = None })
  room_errs l t a v e g j h = (
    TooLarge,
    rw (learn_passes t e a g, j)
        (within_past l 0
        (record { after = record { entries = Item v ∷ t.below; memo = k.memo }; import = a })
        (inl (omega arith))),
    refl,
    refl,
  )

pub may_give : (gives : Gives) (i : Instruction) (v : Known) → known_given gives i ≡ Some v
    → MayGive gives
may_give (Leaves w) i v e = cc
may_give _ i v e = tt

pub may_name : (names : Names) (i : Instruction) (ks : List Known) (a : Asked)
    → asked_of None names i ks ≡ Ok (Some a) → MayName names
may_name NoName i ks a e = cc
may_name _ i ks a e = tt

none_asked : (b : Bool) (r : Refusal) (a : Asked) → cond b (Err r) (Ok None) ≡ Ok (Some a) → ⊥
none_asked true r a e = cc
none_asked false r a e = cc

-- an operation that has an import may list it
pub judged_name : (p : Policy) (names : Names) (gives : Gives) (i : Instruction) (ks : List Known)
    (us : List (List ℕ)) (n : Option Named) → IsSome n
    → judged p names gives i ks ≡ Ok (option_map (named_asked us) n) → MayName names
judged_name p NoName gives i ks us (Some n) s e =
    absurd (none_asked (wrong_receiver gives ks) WrongClass (named_asked us n) e)
judged_name p NoName gives i ks us None s e = cc
judged_name p _ gives i ks us n s e = tt

pub within_errs : (x : Result Progress Refusal) (l : Bounds) (n : ℕ) (d : StepError)
    → IsRefusedWith x d → IsRefusedWith (and_then x (within l n)) d
within_errs x l n d (f, e, g, h) = (f, rw e refl, g, h)

wrong_any : (ts : List (List ℕ)) (w : Wanted) (v : Value) (ks : List Known)
    → wrong_first w (value_known ts v ∷ []) ≡ wrong_first w (value_known ts v ∷ ks)
wrong_any ts w (Made c) ks = refl
wrong_any ts w _ ks = refl

pub wrong_head : {I : Type 0} (ts : List (List ℕ)) (w : Wanted) (vs : List (Held I))
    (v : Held I) → Some v ≡ slice_get vs 0
    → wrong_first w (known ts v ∷ []) ≡ wrong_first w (map (known ts) vs)
wrong_head ts w (u ∷ vs) v e = let f : v ≡ u = cc in
    rw f (wrong_any ts w u.value (map (known ts) vs))
wrong_head ts w [] v e = cc

pub wrong_none : {I : Type 0} (ts : List (List ℕ)) (w : Wanted) (vs : List (Held I))
    → None ≡ slice_get vs 0 → false ≡ wrong_first w (map (known ts) vs)
wrong_none ts w [] e = refl
wrong_none ts w (u ∷ vs) e = cc

given_some : {I : Type 0} (ts : List (List ℕ)) (v : Option (Held I)) (o : Option Known)
    → IsSome v → StandsIf ts v o → (k : Known) × (o ≡ Some k)
given_some ts (Some v) (Some k) s h = (k, refl)
given_some ts (Some v) None s h = absurd h
given_some ts None o s h = cc

pub given_none : {I : Type 0} (ts : List (List ℕ)) (v : Option (Held I)) (o : Option Known)
    → v ≡ None → StandsIf ts v o → o ≡ None
given_none ts None None e h = refl
given_none ts None (Some k) e h = absurd h
given_none ts (Some v) o e h = cc

some_named : (ts : List (List ℕ)) (a : Option Named)
    → is_some a ≡ is_some (option_map (named_asked ts) a)
some_named ts None = refl
some_named ts (Some a) = refl

-- an operation that found its operands
module _ (p : Policy) (takes : Takes) (names : Names) (gives : Gives) (i : Instruction)
    (k : Knowledge) (t : Taken Known) (us : List (List ℕ)) (a : Option Named)
    (found : operands takes k.entries ≡ Ok t)
    (fits : judged p names gives i t.operands ≡ Ok (option_map (named_asked us) a)) where
  pub does_pass : (new : List (Entry Known)) (before after : List Asked) (b : Bool)
      → new ≡ put (known_given gives i) t.operands ++ t.below
      → after ≡ asks_more (option_map (named_asked us) a) before → b ≡ is_some a →
      Proceeds (learn p (Operates takes names gives) i k)
      (record { entries = new; memo = k.memo }) before after b
  does_pass new before after b e f g = (
    option_map (named_asked us) a,
    rw e (learn_passes p takes names gives i k t found _ fits),
    f,
    g ∙ some_named us a,
  )

  pub unroomed : {I : Type 0} (ts : List (List ℕ)) (v : Option (Held I))
      → StandsIf ts v (known_given gives i) → (l : Bounds) (r : Reason) → IsSome v
      → WantsRoom l.stack (length t.below) r
      → IsRefusedWith (and_then (learn p (Operates takes names gives) i k) (within l 0))
      (record { reason = r; pair = None }) ⊎ (MayOperate names gives × IsForMemory
      (record { reason = r; pair = None }))
  unroomed ts v given l r s w =
      let (n, j) = given_some ts v (known_given gives i) s given in
      elim w [
        | inl u ↦ inl (rw u.0 (room_errs p takes names gives i k l t _ n found fits j u.1))
        | inr e ↦ inr (inr (may_give gives i n j), (e, refl))
      ]

-- an operation that leaves its receiver takes at least one object
pub left_there : (takes : Takes) (gives : Gives) (i : Instruction) → WellGiven gives takes
    → known_given gives i ≡ None → HasFirst takes
left_there takes (Leaves wanted) i w e = w
left_there takes _ i w e = cc

-- ---- an operation that takes nothing and imports nothing

no_receiver : (gives : Gives) → wrong_receiver gives [] ≡ false
no_receiver (Leaves wanted) = refl
no_receiver _ = refl

module _ (p : Policy) (takes : Takes) (names : Names) (gives : Gives) (i : Instruction)
    (k : Knowledge) (e : takes ≡ Objects 0) (f : names ≡ NoName) where
  nothing_taken : operands takes k.entries ≡ Ok (record { operands = []; below = k.entries })
  nothing_taken = rw e refl

  nothing_asked : judged p names gives i [] ≡ Ok None
  nothing_asked = rw (f, no_receiver gives) refl

  pub create_errs : (l : Bounds) (r : Reason) (v : Known) → known_given gives i ≡ Some v
      → WantsRoom l.stack (length k.entries) r → IsRefusedWith (and_then
      (learn p (Operates takes names gives) i k) (within l 0)) (record { reason = r; pair = None })
      ⊎ (MayOperate names gives × IsForMemory (record { reason = r; pair = None }))
  create_errs l r v j s =
      elim s [
        | inl u ↦ inl
            (rw u.0
            (room_errs p takes names gives i k l _ None v nothing_taken nothing_asked j u.1))
        | inr m ↦ inr (inr (may_give gives i v j), (m, refl))
      ]
