-- A plain step, of the objects kept and of the run.
use Rattle.std.proofs.Common.{◌≡◌, ◌≢◌, ℕ, suc, zero, ◌+◌, Bool, true, false, cond, List, [], ◌∷◌}
use Rattle.std.proofs.Common.{◌++◌, length, refl, sym, ap, ◌∙◌, subst, arith, Some, None}
use Rattle.std.proofs.Common.{length-append, Result, Ok, Err}
use Rattle.serde_json.specs.Data.{Data, boolean}
use Rattle.pkops.specs.Spelling.{Instruction}
use Rattle.pkops.specs.Operands.{names_bool, memo_number}
use Rattle.pkmachine.specs.declared.effect.Class.TheVariants as class
use Rattle.pkmachine.specs.Effects as effect
use Rattle.pkmachine.specs.declared.effect.Gives.{Gives}
use Rattle.pkmachine.specs.declared.effect.Gives.TheVariants as gives
use Rattle.pkmachine.specs.declared.effect.Names.TheVariants.{NoName}
use Rattle.pkmachine.specs.declared.effect.Wanted.TheVariants.{WantsList, WantsDict}
use Rattle.pkmachine.specs.Effects.{Effect, effect_of}
use Rattle.pkstack.specs.Shape.{Breach, Entry, Mark, Item, Shape, Taken, and_then, operands, moved}
use Rattle.pkstack.specs.Shape.{front, top}
use Rattle.pkmachine.specs.Runs.{ObjectClass, Text, Plain, Object, Did, State, Stepped, WentOn}
use Rattle.pkmachine.specs.Runs.{Raised, Stopped, Stuck, step, perform, operate_step, move_step}
use Rattle.pkmachine.specs.Runs.{stop_step, class_at, text, int_or_bool}
use Rattle.pkjson.specs.declared.action.Action.{Action}
use Rattle.pkjson.specs.declared.action.Action.TheVariants.{Makes, Fills, Moves, Stops}
use Rattle.pkjson.specs.declared.action.Made.{Made}
use Rattle.pkjson.specs.declared.action.Made.TheVariants as made
use Rattle.pkjson.specs.declared.action.Filled.{Filled}
use Rattle.pkjson.specs.declared.action.Filled.TheVariants as filled
use Rattle.pkjson.specs.Contents.{Kind, OfItems, OfPairs, OfValue, kind_by_effect}
use Rattle.pkjson.specs.Plain.{goes_on, is_known_text}
use Rattle.pkjson.specs.Private.Arena.{Kept, Arena, kept_by, kind_at, update, more_given}
use Rattle.pkjson.specs.Private.Arena.{is_text_kind}
use Rattle.pkjson.specs.Private.PlainActions.{picked, found_above, made_of, filled_of, kind_made}
use Rattle.pkjson.specs.Private.PlainActions.{acted, MakesSame, FillsSame, ActsAs}
use Rattle.pkjson.specs.Private.PlainActions.{KindsAgree}
use Rattle.pkjson.specs.Private.Mirrors.{AreBelow, EntriesBelow, CellsBelow, IsHeld, GivenBelow}
use Rattle.pkjson.specs.Private.Mirrors.{MirrorsState}
use Rattle.pkjson.proofs.Kept.EventsMirrored.{kind_update, mirrors_made, mirrors_received}
use Rattle.pkjson.proofs.Kept.OperandsTaken.{found_of, above_of, found_below, above_below}
use Rattle.pkjson.proofs.Kept.OperandsTaken.{above_first, moved_below, TakenBelow}

-- below a greater number
are_more : (n : ℕ) (xs : List ℕ) → AreBelow n xs → AreBelow (n + 1) xs
are_more n [] h = tt
are_more n (x ∷ xs) h = (omega (arith, h.0), are_more n xs h.1)

entries_more : (n : ℕ) (es : List (Entry ℕ)) → EntriesBelow n es → EntriesBelow (n + 1) es
entries_more n [] h = tt
entries_more n (Mark ∷ es) h = entries_more n es h
entries_more n (Item x ∷ es) h = (omega (arith, h.0), entries_more n es h.1)

cells_more : (n : ℕ) (cs : List (ℕ × ℕ)) → CellsBelow n cs → CellsBelow (n + 1) cs
cells_more n [] h = tt
cells_more n (c ∷ cs) h = (omega (arith, h.0), cells_more n cs h.1)

given_more : (n : ℕ) (ks : List Kept) → GivenBelow n ks → GivenBelow (n + 1) ks
given_more n [] h = tt
given_more n (k ∷ ks) h = (are_more n k.given h.0, given_more n ks h.1)

given_snoc : (n : ℕ) (ks : List Kept) (k : Kept) → GivenBelow n ks → AreBelow n k.given
    → GivenBelow n (ks ++ k ∷ [])
given_snoc n [] k h g = (g, tt)
given_snoc n (j ∷ ks) k h g = (h.0, given_snoc n ks k h.1 g)

are_append : (n : ℕ) (xs ys : List ℕ) → AreBelow n xs → AreBelow n ys → AreBelow n (xs ++ ys)
are_append n [] ys h g = g
are_append n (x ∷ xs) ys h g = (h.0, are_append n xs ys h.1 g)

are_kept : (n : ℕ) (kind : Kind) (xs : List ℕ) → AreBelow n xs → AreBelow n (kept_by kind xs)
are_kept n (OfValue v) xs h = tt
are_kept n kind xs h = h

given_update : (n : ℕ) (ks : List Kept) (r : ℕ) (xs : List ℕ) → GivenBelow n ks → AreBelow n xs
    → GivenBelow n (update ks r (more_given xs))
given_update n [] r xs h g = tt
given_update n (k ∷ ks) zero xs h g =
    (are_kept n k.kind (k.given ++ xs) (are_append n k.given xs h.0 g), h.1)
given_update n (k ∷ ks) (suc r) xs h g = (h.0, given_update n ks r xs h.1 g)

length_update : {A : Type 0} (xs : List A) (n : ℕ) (f : A → A) → length (update xs n f) ≡ length xs
length_update (x ∷ xs) (suc n) f = ap suc (length_update xs n f)
length_update xs n f = refl

-- which are texts
texts_snoc : (ks : List Kept) (rs : List Object) (k : Kept) (r : Object) → length ks ≡ length rs
    → ((n : ℕ) → is_text_kind (kind_at ks n) ≡ is_known_text (class_at rs n))
    → is_text_kind (Some k.kind) ≡ is_known_text (Some r.class_of) → (n : ℕ)
    → is_text_kind (kind_at (ks ++ k ∷ []) n) ≡ is_known_text (class_at (rs ++ r ∷ []) n)
texts_snoc [] [] k r l h e zero = e
texts_snoc [] [] k r l h e (suc n) = refl
texts_snoc (j ∷ ks) (q ∷ rs) k r l h e zero = h 0
texts_snoc (j ∷ ks) (q ∷ rs) k r l h e (suc n) =
    texts_snoc ks rs k r (omega (arith, l)) (λ m. h (suc m)) e n
texts_snoc ks rs k r l h e n = absurd (omega (arith, l))

-- the state after an object was made, and after one was filled
abbrev after_making : Instruction → Taken ℕ → ObjectClass → State → State
after_making i v c s = record {
  shape = record { entries = Item (length s.objects) ∷ v.below; memo = s.shape.memo };
  objects = s.objects ++ record { class_of = c; made = true } ∷ [];
  events = s.events ++ Did i v.operands (Some (length s.objects)) ∷ [];
}

abbrev after_filling : Instruction → Taken ℕ → State → State
after_filling i v s = record {
  shape = record { entries = front v.operands ++ v.below; memo = s.shape.memo };
  objects = s.objects;
  events = s.events ++ Did i v.operands None ∷ [];
}

making : (i : Instruction) (a : Arena) (s : State) (v : Taken ℕ) (k : Kind) (c : ObjectClass)
    → kind_by_effect i ≡ k → is_text_kind (Some k) ≡ is_known_text (Some c) → MirrorsState a s
    → TakenBelow (length a.kept) v → MirrorsState (made_of k v a) (after_making i v c s)
making i a s v k c q e h b =
    let n : length (a.kept ++ record { kind = k; given = kept_by k v.operands } ∷ [])
    ≡ length a.kept + 1 = length-append a.kept _ in
    record {
      shape = ap (λ z. record { entries = Item z ∷ v.below; memo = a.shape.memo }) h.numbers
          ∙ ap (λ z. record { entries = Item (length s.objects) ∷ v.below; memo = z.memo }) h.shape;
      held = rw n
          (record {
            entries = (omega arith, entries_more (length a.kept) v.below b.1);
            memo = cells_more (length a.kept) a.shape.memo h.held.memo;
          });
      closed = rw n
          (given_snoc (length a.kept + 1) a.kept _ (given_more (length a.kept) a.kept h.closed)
          (are_kept (length a.kept + 1) k v.operands (are_more (length a.kept) v.operands b.0)));
      numbers = omega (
        arith,
        n,
        length-append s.objects (record { class_of = c; made = true } ∷ []),
        h.numbers,
      );
      texts = texts_snoc a.kept s.objects _ _ h.numbers h.texts e;
      objects = rw q at (mirrors_made a.kept s.events i v.operands (length s.objects)
          (sym h.numbers) h.objects);
    }

filling : (i : Instruction) (a : Arena) (s : State) (r : ℕ) (xs : List ℕ) (es : List (Entry ℕ))
    → MirrorsState a s → TakenBelow (length a.kept) (record { operands = r ∷ xs; below = es })
    → MirrorsState (filled_of (record { operands = r ∷ xs; below = es }) a)
    (after_filling i (record { operands = r ∷ xs; below = es }) s)
filling i a s r xs es h b =
    let n = length_update a.kept r (more_given xs) in
    record {
      shape = ap (λ z. record { entries = Item r ∷ es; memo = z.memo }) h.shape;
      held = rw n (record { entries = (b.0.0, b.1); memo = h.held.memo });
      closed = rw n (given_update (length a.kept) a.kept r xs h.closed b.0.1);
      numbers = n ∙ h.numbers;
      texts = λ m. ap is_text_kind (kind_update a.kept r xs m) ∙ h.texts m;
      objects = mirrors_received a.kept s.events i r xs b.0.0 h.objects;
    }

-- the step finds what it needs
abbrev pub IsNotStuck : Stepped → Type 0
IsNotStuck (Stuck b) = ⊥
IsNotStuck (WentOn s) = Unit {0}
IsNotStuck (Raised s) = Unit {0}
IsNotStuck (Stopped r s) = Unit {0}

no_text : (b : Bool) (x : Bool) (y : Data) → is_text_kind (Some (OfValue y)) ≡ false
    → is_text_kind (Some (OfValue (cond b (boolean x) y))) ≡ false
no_text true x y e = refl
no_text false x y e = e

-- the step went on, and the objects kept after it are those of the state
abbrev pub WentAlike : Arena → Stepped → Type 0
WentAlike b st = (t : State) × (st ≡ WentOn t) × MirrorsState b t

module _ (i : Instruction) (a : Arena) (s : State) (h : MirrorsState a s) where
  went : (v : Taken ℕ) (k : Kind) (c : ObjectClass) → kind_by_effect i ≡ k
      → is_text_kind (Some k) ≡ is_known_text (Some c) → TakenBelow (length a.kept) v
      → (u : Taken ℕ) × (◌≡◌ {A = Result (Taken ℕ) Breach} (Ok v) (Ok u))
      × WentAlike (made_of k u a) (WentOn (after_making i v c s))
  went v k c q e b = (v, refl, (_, refl, making i a s v k c q e h b))

  made_alike : (m : Made) (g : Gives) → MakesSame m g → kind_by_effect i ≡ kind_made m i
      → (x : Result (Taken ℕ) Breach) → ((v : Taken ℕ) → x ≡ Ok v → TakenBelow (length a.kept) v)
      → IsNotStuck (operate_step NoName g i goes_on s x)
      → (v : Taken ℕ) × (x ≡ Ok v) × WentAlike (made_of (kind_made m i) v a)
      (operate_step NoName g i goes_on s x)
  made_alike made.Items (gives.Makes class.List) w q (Ok v) b n =
      went v OfItems (Plain class.List) q refl (b v refl)
  made_alike made.Items (gives.Makes class.Tuple) w q (Ok v) b n =
      went v OfItems (Plain class.Tuple) q refl (b v refl)
  made_alike made.NoPairs (gives.Makes class.Dict) w q (Ok v) b n =
      went v OfPairs (Plain class.Dict) q refl (b v refl)
  made_alike made.Pairs (gives.MayMake class.Dict) w q (Ok v) b n =
      went v OfPairs (Plain class.Dict) q refl (b v refl)
  made_alike made.Null (gives.Makes class.None) w q (Ok v) b n =
      went v (kind_made made.Null i) (Plain class.None) q refl (b v refl)
  made_alike (made.Truth z) (gives.Makes class.Bool) w q (Ok v) b n =
      went v (kind_made (made.Truth z) i) (Plain class.Bool) q refl (b v refl)
  made_alike made.Text gives.MakesText w q (Ok v) b n =
      went v (kind_made made.Text i) (Text (text i)) q refl (b v refl)
  made_alike made.IntOrTruth gives.MakesIntOrBool w q (Ok v) b n =
      went v (kind_made made.IntOrTruth i) (Plain (int_or_bool i)) q
      (no_text (names_bool i) _ _ refl) (b v refl)
  made_alike made.Int (gives.Makes class.Int) w q (Ok v) b n =
      went v (kind_made made.Int i) (Plain class.Int) q refl (b v refl)
  made_alike m g w q (Err r) b n = absurd n
  made_alike m g w q (Ok v) b n = absurd w

  filled_alike : (f : Filled) (g : Gives) → FillsSame f g → (x : Result (Taken ℕ) Breach)
      → ((v : Taken ℕ) → x ≡ Ok v → TakenBelow (length a.kept) v ×
      ((r : ℕ) × (xs : List ℕ) × (fs : List (Entry ℕ)) × (v ≡ record
      { operands = r ∷ xs; below = fs }))) → IsNotStuck (operate_step NoName g i goes_on s x)
      → (v : Taken ℕ) × (x ≡ Ok v) × WentAlike (filled_of v a) (operate_step NoName g i goes_on s x)
  filled_alike filled.Items (gives.Leaves WantsList) w (Ok v) b n = let j = b v refl in (
    v,
    refl,
    (
      _,
      refl,
      rw j.1.3
          (filling i a s j.1.0 j.1.1 j.1.2 h (subst (TakenBelow (length a.kept)) j.1.3 j.0)),
    ),
  )
  filled_alike filled.Pairs (gives.Leaves WantsDict) w (Ok v) b n = let j = b v refl in (
    v,
    refl,
    (
      _,
      refl,
      rw j.1.3
          (filling i a s j.1.0 j.1.1 j.1.2 h (subst (TakenBelow (length a.kept)) j.1.3 j.0)),
    ),
  )
  filled_alike f g w (Err r) b n = absurd n
  filled_alike f g w (Ok v) b n = absurd w

  moved_alike : (x : Result (Shape ℕ) Breach)
      → ((g : Shape ℕ) → x ≡ Ok g → IsHeld (length a.kept) g) → IsNotStuck (move_step s x)
      → (g : Shape ℕ) × (x ≡ Ok g) × WentAlike (record { shape = g; kept = a.kept }) (move_step s x)
  moved_alike (Ok g) b n = (
    g,
    refl,
    (
      _,
      refl,
      record {
        shape = refl;
        held = b g refl;
        closed = h.closed;
        numbers = h.numbers;
        texts = h.texts;
        objects = h.objects;
      },
    ),
  )
  moved_alike (Err r) b n = absurd n

  -- an instruction that isn't STOP, where it finds what it needs
  abbrev ActsAlike : Action → Stepped → Type 0
  ActsAlike action st = (b : Arena) × (acted action i a ≡ Ok b) × WentAlike b st

  by_effect : (action : Action) (e : Effect) → ActsAs action e
      → KindsAgree action i (kind_by_effect i) → (action ≢ Stops)
      → IsNotStuck (perform e i s goes_on) → ActsAlike action (perform e i s goes_on)
  by_effect (Makes tk m) (effect.Operates u NoName g) w q z n =
      let found_here : (v : Taken ℕ) → operands u s.shape.entries ≡ Ok v
      → picked tk a.shape.entries ≡ Ok v = λ v e. ap (λ y. picked tk y.entries) h.shape
      ∙ found_of tk u s.shape.entries v w.0 e in
      let r = made_alike m g w.1 q (operands u s.shape.entries)
      (λ v e. found_below (length a.kept) tk a.shape.entries v h.held.entries (found_here v e))
      n in (
        made_of (kind_made m i) r.0 a,
        ap (λ y. and_then y (λ u. Ok (made_of (kind_made m i) u a))) (found_here r.0 r.1),
        r.2,
      )
  by_effect (Fills tk f) (effect.Operates u NoName g) w q z n =
      let found_here : (v : Taken ℕ) → operands u s.shape.entries ≡ Ok v
      → found_above tk a.shape.entries ≡ Ok v = λ v e.
      ap (λ y. found_above tk y.entries) h.shape ∙ above_of tk u s.shape.entries v w.0 e in
      let r = filled_alike f g w.1 (operands u s.shape.entries)
      (λ v e. (
        above_below (length a.kept) tk a.shape.entries v h.held.entries (found_here v e),
        above_first tk a.shape.entries v (found_here v e),
      )) n in
      (filled_of r.0 a, ap (λ y. and_then y (λ u. Ok (filled_of u a))) (found_here r.0 r.1), r.2)
  by_effect (Moves m) (effect.Moves p) w q z n =
      let same_move : moved p (memo_number i) s.shape
      ≡ moved m (memo_number i) a.shape = ap (λ y. moved y (memo_number i) s.shape)
      (sym w) ∙ ap (λ y. moved m (memo_number i) y) (sym h.shape) in
      let r = moved_alike (moved p (memo_number i) s.shape)
      (λ g e. moved_below (length a.kept) m (memo_number i) a.shape g h.held
      (sym same_move ∙ e)) n in (
        record { shape = r.0; kept = a.kept },
        ap (λ y. and_then y (λ g. Ok (record { shape = g; kept = a.kept }))) (sym same_move ∙ r.1),
        r.2,
      )
  by_effect Stops e w q z n = absurd (z refl)
  by_effect action e w q z n = absurd w

  pub mirrors_step : (action : Action) → ActsAs action (effect_of i.op)
      → KindsAgree action i (kind_by_effect i) → (action ≢ Stops) → IsNotStuck (step i s goes_on)
      → (b : Arena) × (acted action i a ≡ Ok b) × WentAlike b (step i s goes_on)
  mirrors_step action w q z n = by_effect action (effect_of i.op) w q z n

stopped_at : (s : State) (x : Result (ℕ × List (Entry ℕ)) Breach) → IsNotStuck (stop_step s x)
    → (p : ℕ × List (Entry ℕ)) × (x ≡ Ok p)
    × (stop_step s x ≡ Stopped p.0 (record s { shape = record s.shape { entries = p.1 } }))
stopped_at s (Ok p) n = (p, refl, refl)
stopped_at s (Err b) n = absurd n

by_stop : (e : Effect) (i : Instruction) (s : State) → ActsAs Stops e
    → IsNotStuck (perform e i s goes_on) → (p : ℕ × List (Entry ℕ)) × (top s.shape.entries ≡ Ok p)
    × (perform e i s goes_on ≡ Stopped p.0 (record s { shape = record s.shape { entries = p.1 } }))
by_stop effect.Stops i s w n = stopped_at s (top s.shape.entries) n
by_stop e i s w n = absurd w

-- STOP takes the top
pub stops_at : (i : Instruction) (s : State) → ActsAs Stops (effect_of i.op)
    → IsNotStuck (step i s goes_on) → (p : ℕ × List (Entry ℕ)) × (top s.shape.entries ≡ Ok p)
    × (step i s goes_on ≡ Stopped p.0 (record s { shape = record s.shape { entries = p.1 } }))
stops_at i s w n = by_stop (effect_of i.op) i s w n
