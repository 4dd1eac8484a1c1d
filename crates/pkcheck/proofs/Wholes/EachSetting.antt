-- The runs under each setting of old strings are among those under Unknown.
use Rattle.std.proofs.Common.{◌≡◌, ℕ, zero, suc, Bool, true, false, cond, ltb, List, [], ◌∷◌, ◌++◌}
use Rattle.std.proofs.Common.{length, map, Option, None, Some, Result, Ok, Err, refl, sym, ap}
use Rattle.std.proofs.Common.{subst, ◌∙◌, arith}
use Rattle.std.specs.Prelude.{unwrap_or}
use Rattle.std.specs.List.{list_all}
use Rattle.std.specs.Char.{is_ascii}
use Rattle.std.proofs.lemmas.Bool.{le-ltb}
use Rattle.std.proofs.lemmas.List.{length-map, map-append}
use Rattle.pkops.specs.OldBytes.{old_bytes}
use Rattle.pkops.specs.Operands.{memo_number}
use Rattle.pkops.specs.Spelling.{Instruction}
use Rattle.pkops.specs.declared.Op.{Op}
use Rattle.pkops.specs.declared.Op.TheVariants as op
use Rattle.pkmachine.specs.declared.old_strings.OldStrings.{OldStrings}
use Rattle.pkmachine.specs.declared.old_strings.OldStrings.TheVariants.{Unknown, Ascii, Bytes}
use Rattle.pkmachine.specs.declared.effect.Class.TheVariants as class
use Rattle.pkmachine.specs.declared.effect.Names.{Names}
use Rattle.pkmachine.specs.declared.effect.Names.TheVariants.{NoName}
use Rattle.pkmachine.specs.declared.effect.Gives.{Gives}
use Rattle.pkmachine.specs.declared.effect.Gives.TheVariants.{Makes, MakesIntOrBool, MakesText}
use Rattle.pkmachine.specs.declared.effect.Gives.TheVariants.{MayMake, Answers, Leaves}
use Rattle.pkstack.specs.declared.Takes.TheVariants.{Objects}
use Rattle.pkmachine.specs.Covers.{imports_of}
use Rattle.pkmachine.specs.Effects.{Effect, Operates, Moves, Stops, Raises, effect_as, effect_of}
use Rattle.pkmachine.specs.Effects.{answers, is_old_string}
use Rattle.pkstack.specs.Shape.{Breach, Entry, Shape, Taken, moved, operands, put, top}
use Rattle.pkmachine.specs.Runs.{Event, Did, Import, Foreign, Go, Named, NoImport, NotTexts, Object}
use Rattle.pkmachine.specs.Runs.{ObjectClass, Outcome, Pair, Plain, Raise, Raised, State, Stepped}
use Rattle.pkmachine.specs.Runs.{Stopped, Stuck, Text, WentOn, answered, asks, class_at, come_of}
use Rattle.pkmachine.specs.Runs.{effect_asks, given, int_or_bool, made_new, move_step, named}
use Rattle.pkmachine.specs.Runs.{operate_step, operated, perform, start, step_as, stop_step, text}
use Rattle.pkmachine.specs.Runs.{with_answer}
use Rattle.pkmachine.specs.RowRuns.{Afresh, Behind, next_from, run_row, sequences_of}
use Rattle.pkmachine.specs.WholeRuns.{AllListed, Ended, EndedBy, EndsWell, Reached, first_outcome}
use Rattle.pkmachine.specs.WholeRuns.{go_on, outcomes_after, run_as}
use Rattle.pkcheck.proofs.Wholes.NextPickle.{cleared}
use Rattle.pkcheck.proofs.Wholes.RunSteps.{kept, perform_unused, same_some}
use Rattle.pkcheck.specs.EachSetting.{SoundInEach}

old_answers : (o : Op) → is_old_string o ≡ true → effect_of o ≡ answers (Objects 0)
old_answers op.String e = refl
old_answers op.BinString e = refl
old_answers op.ShortBinString e = refl
old_answers _ e = cc

abbrev classes : List Object → List ObjectClass
classes objects = map (λ (o : Object). o.class_of) objects

-- the states are the same, except for which objects were answered
record Same (s t : State) : Type 0 where
  shape : s.shape ≡ t.shape
  events : s.events ≡ t.events
  objects : classes s.objects ≡ classes t.objects

abbrev SameStep : Stepped → Stepped → Type 0
SameStep (WentOn s) (WentOn t) = Same s t
SameStep (Raised s) (Raised t) = Same s t
SameStep (Stopped r s) (Stopped q t) = Same s t
SameStep (Stuck b) (Stuck c) = Unit {0}
SameStep _ _ = ⊥

abbrev SameEnd : Ended → Ended → Type 0
SameEnd (Reached s) (Reached t) = Same s t
SameEnd (EndedBy x) (EndedBy y) = SameStep x y
SameEnd _ _ = ⊥

-- ---- objects of the same classes

class_same : (xs ys : List Object) (n : ℕ) → classes xs ≡ classes ys → class_at xs n ≡ class_at ys n
class_same [] [] n e = refl
class_same (x ∷ xs) (y ∷ ys) zero e = let same : x.class_of ≡ y.class_of = cc in ap Some same
class_same (x ∷ xs) (y ∷ ys) (suc n) e = let same : classes xs ≡ classes ys = cc in
    class_same xs ys n same
class_same _ _ n e = cc

classes_same : (xs ys : List Object) (ns : List ℕ) → classes xs ≡ classes ys
    → map (class_at xs) ns ≡ map (class_at ys) ns
classes_same xs ys [] e = refl
classes_same xs ys (n ∷ ns) e = ap (λ c. c ∷ map (class_at xs) ns) (class_same xs ys n e)
    ∙ ap (λ cs. class_at ys n ∷ cs) (classes_same xs ys ns e)

length_same : (xs ys : List Object) → classes xs ≡ classes ys → length xs ≡ length ys
length_same xs ys e = sym (length-map xs (λ (o : Object). o.class_of)) ∙ ap length e
    ∙ length-map ys (λ (o : Object). o.class_of)

more_same : (xs ys : List Object) (a b : Object) → a.class_of ≡ b.class_of → classes xs ≡ classes ys
    → classes (xs ++ a ∷ []) ≡ classes (ys ++ b ∷ [])
more_same xs ys a b k e =
    map-append (λ (o : Object). o.class_of) xs (a ∷ []) ∙ ap (λ cs. cs ++ a.class_of ∷ []) e
    ∙ ap (λ c. classes ys ++ c ∷ []) k
    ∙ sym (map-append (λ (o : Object). o.class_of) ys (b ∷ []))

-- ---- one step

abbrev SameGiven : Option ℕ × List Object → Option ℕ × List Object → Type 0
SameGiven x y = (x.0 ≡ y.0) × (classes x.1 ≡ classes y.1)

abbrev state : Shape ℕ → List Object → List Event → State
state h objects events = record { shape = h; objects = objects; events = events }

module _ (xs ys : List Object) (e : classes xs ≡ classes ys) where
  made_same : (kind : ObjectClass) → SameGiven (made_new kind xs) (made_new kind ys)
  made_same kind = (ap Some (length_same xs ys e), more_same xs ys _ _ refl e)

  by_place : (b : Bool) (n : ℕ) (kind : ObjectClass)
      → SameGiven (cond b (Some n, xs) (Some (length xs), with_answer kind xs))
      (cond b (Some n, ys) (Some (length xs), with_answer kind ys))
  by_place true n kind = (refl, e)
  by_place false n kind = (refl, more_same xs ys _ _ refl e)

  answered_same : (n : ℕ) (kind : ObjectClass) → SameGiven (answered n kind xs) (answered n kind ys)
  answered_same n kind = subst
      (λ k. SameGiven (answered n kind xs)
      (cond (ltb n k) (Some n, ys) (Some k, with_answer kind ys))) (length_same xs ys e)
      (by_place (ltb n (length xs)) n kind)

  given_same : (gives : Gives) (i : Instruction) (n : ℕ) (kind : ObjectClass)
      → SameGiven (given gives i n kind xs) (given gives i n kind ys)
  given_same (Makes k) i n kind = made_same (Plain k)
  given_same MakesIntOrBool i n kind = made_same (Plain (int_or_bool i))
  given_same MakesText i n kind = made_same (Text (text i))
  given_same (MayMake k) i n kind = made_same (Plain k)
  given_same Answers i n kind = answered_same n kind
  given_same (Leaves w) i n kind = (refl, e)

  -- an object that the machine makes could have been answered
  pushed_same : (kind : ObjectClass) → SameGiven (made_new kind xs) (answered (length ys) kind ys)
  pushed_same kind = rw (le-ltb (length ys) (length ys) (omega arith))
      (ap Some (length_same xs ys e), more_same xs ys _ _ refl e)

  module _ (h : Shape ℕ) where
    -- what an operation leaves on the stack
    put_same : (x y : Option ℕ × List Object) (i : Instruction) (taken : Taken ℕ) (es : List Event)
        → SameGiven x y →
        Same
        (record {
          shape = record {
            entries = put x.0 taken.operands ++ taken.below;
            memo = h.memo;
          };
          objects = x.1;
          events = es ++ Did i taken.operands x.0 ∷ [];
        })
        (record {
          shape = record { entries = put y.0 taken.operands ++ taken.below; memo = h.memo };
          objects = y.1;
          events = es ++ Did i taken.operands y.0 ∷ [];
        })
    put_same x y i taken es g = record {
      shape = ap (λ o. record { entries = put o taken.operands ++ taken.below; memo = h.memo }) g.0;
      events = ap (λ o. es ++ Did i taken.operands o ∷ []) g.0;
      objects = g.1;
    }

    come_same : (b : Bool) (gives : Gives) (i : Instruction) (taken : Taken ℕ) (o : Outcome)
        (es : List Event) → SameStep (come_of b gives i taken o (state h xs es))
        (come_of b gives i taken o (state h ys es))
    come_same true gives i taken Raise es = record { shape = refl; events = refl; objects = e }
    come_same true gives i taken (Go n kind) es =
        put_same _ _ i taken es (given_same gives i n kind)
    come_same false gives i taken o es = put_same _ _ i taken es (given_same gives i 0 Foreign)

    operated_same : (nm : Named) (gives : Gives) (i : Instruction) (taken : Taken ℕ) (o : Outcome)
        (es : List Event) → SameStep (operated nm gives i taken o (state h xs es))
        (operated nm gives i taken o (state h ys es))
    operated_same NoImport gives i taken o es = come_same (asks gives) gives i taken o es
    operated_same (Pair m n) gives i taken o es =
        come_same (asks gives) gives i taken o (es ++ Import m n ∷ [])
    operated_same NotTexts gives i taken o es = record { shape = refl; events = refl; objects = e }

    operate_same : (names : Names) (gives : Gives) (i : Instruction) (o : Outcome) (es : List Event)
        (x : Result (Taken ℕ) Breach) → SameStep (operate_step names gives i o (state h xs es) x)
        (operate_step names gives i o (state h ys es) x)
    operate_same names gives i o es (Ok taken) =
        subst
        (λ cs. SameStep
        (operated (named names i (map (class_at xs) taken.operands)) gives i taken o
        (state h xs es)) (operated (named names i cs) gives i taken o (state h ys es)))
        (classes_same xs ys taken.operands e)
        (operated_same (named names i (map (class_at xs) taken.operands)) gives i taken o es)
    operate_same names gives i o es (Err b) = tt

    move_same : (es : List Event) (x : Result (Shape ℕ) Breach)
        → SameStep (move_step (state h xs es) x) (move_step (state h ys es) x)
    move_same es (Ok k) = record { shape = refl; events = refl; objects = e }
    move_same es (Err b) = tt

    stop_same : (es : List Event) (x : Result (ℕ × List (Entry ℕ)) Breach)
        → SameStep (stop_step (state h xs es) x) (stop_step (state h ys es) x)
    stop_same es (Ok t) = record { shape = refl; events = refl; objects = e }
    stop_same es (Err b) = tt

    perform_same : (f : Effect) (i : Instruction) (o : Outcome) (es : List Event)
        → SameStep (perform f i (state h xs es) o) (perform f i (state h ys es) o)
    perform_same (Operates takes names gives) i o es =
        operate_same names gives i o es (operands takes h.entries)
    perform_same (Moves m) i o es = move_same es (moved m (memo_number i) h)
    perform_same Stops i o es = stop_same es (top h.entries)
    perform_same Raises i o es = record { shape = refl; events = refl; objects = e }

    -- what an old string decodes to could have been answered
    abbrev Matches : Effect → Instruction → Outcome → List Event → Type 0
    Matches f i o es = (q : Outcome) × SameStep (perform f i (state h xs es) o)
        (perform (Operates (Objects 0) NoName Answers) i (state h ys es) q)

    makes_matches : (gives : Gives) (kind : ObjectClass) (i : Instruction) (o : Outcome)
        (es : List Event) → asks gives ≡ false → given gives i 0 Foreign xs ≡ made_new kind xs
        → Matches (Operates (Objects 0) NoName gives) i o es
    makes_matches gives kind i o es silent makes = (
      Go (length ys) kind,
      rw silent
          (put_same _ _ i (record { operands = []; below = h.entries }) es
          (subst (λ g. SameGiven g (answered (length ys) kind ys)) (sym makes)
          (pushed_same kind))),
    )

    ascii_matches : (b : Bool) (i : Instruction) (o : Outcome) (es : List Event)
        → Matches (cond b (Operates (Objects 0) NoName MakesText) Raises) i o es
    ascii_matches true i o es = makes_matches MakesText (Text (text i)) i o es refl refl
    ascii_matches false i o es = (Raise, record { shape = refl; events = refl; objects = e })

    step_matches : (setting : OldStrings) (b : Bool) (i : Instruction) (o : Outcome)
        (es : List Event) → is_old_string i.op ≡ b → (q : Outcome)
        × SameStep (step_as setting i (state h xs es) o) (step_as Unknown i (state h ys es) q)
    step_matches Unknown b i o es is = (o, perform_same (effect_of i.op) i o es)
    step_matches Ascii false i o es is = rw is (o, perform_same (effect_of i.op) i o es)
    step_matches Bytes false i o es is = rw is (o, perform_same (effect_of i.op) i o es)
    step_matches Ascii true i o es is = rw (is, old_answers i.op is)
        (ascii_matches (list_all is_ascii (unwrap_or (old_bytes i) [])) i o es)
    step_matches Bytes true i o es is = rw (is, old_answers i.op is)
        (makes_matches (Makes class.Bytes) (Plain class.Bytes) i o es refl refl)

-- ---- whole runs

module _ (setting : OldStrings) where
  steps : (s t : State) (i : Instruction) (o : Outcome) → Same s t
      → (q : Outcome) × SameStep (step_as setting i s o) (step_as Unknown i t q)
  steps s t i o w =
      subst (λ z. (q : Outcome) × SameStep (step_as setting i s o) (step_as Unknown i z q))
      (λ j. record { shape = w.shape j; objects = t.objects; events = w.events j })
      (step_matches s.objects t.objects w.objects s.shape setting
      (is_old_string i.op) i o s.events refl)

  -- a run whose first outcome is this one if the step asks
  begins : (b : Bool) (i : Instruction) (is : List Instruction) (t : State) (q : Outcome)
      (os : List Outcome) → effect_asks (effect_of i.op) ≡ b
      → (qs : List Outcome)
      × (run_as Unknown (i ∷ is) qs t ≡ go_on (step_as Unknown i t q) (run_as Unknown is os))
  begins true i is t q os e = (q ∷ os, rw e refl)
  begins false i is t q os e =
      (os, rw (e, kept os, perform_unused (effect_of i.op) i t (first_outcome os) q e) refl)

  -- every run of these instructions has one like it
  abbrev HaveLike : List Instruction → Type 0
  HaveLike is = (os : List Outcome) (s t : State) → Same s t
      → (qs : List Outcome) × SameEnd (run_as setting is os s) (run_as Unknown is qs t)

  follows : (is : List Instruction) → HaveLike is → (os : List Outcome) (x y : Stepped)
      → SameStep x y → (qs : List Outcome) × SameEnd (go_on x (run_as setting is os))
      (go_on y (run_as Unknown is qs))
  follows is on os (WentOn s) (WentOn t) w = on os s t w
  follows is on os (Raised s) (Raised t) w = ([], w)
  follows is on os (Stopped r s) (Stopped q t) w = ([], w)
  follows is on os (Stuck b) (Stuck c) w = ([], w)
  follows is on os _ _ w = absurd w

  runs : (is : List Instruction) → HaveLike is
  runs [] os s t w = ([], w)
  runs (i ∷ is) os s t w =
      let (q, step) = steps s t i (first_outcome os) w in
      let (qs, on) = follows is (runs is) (outcomes_after (effect_asks (effect_as setting i)) os) _
      _ step in
      let (all, same) = begins (effect_asks (effect_of i.op)) i is t q qs refl in
      (all, subst (λ z. SameEnd (run_as setting (i ∷ is) os s) z) (sym same) on)

  -- ---- rows

  -- a run of these pickles that gets to a state has one like it
  abbrev HaveRowLike : List (List Instruction) → Type 0
  HaveRowLike ps = (oss : List (List Outcome)) (s t u : State) → Same s t
      → run_row setting ps oss s ≡ Some u → (qss : List (List Outcome)) × (v : State)
      × (run_row Unknown ps qss t ≡ Some v) × Same u v

  none_come : (u : State) → None ≡ Some u → ⊥
  none_come u e = cc

  cleared_same : (s t : State) → Same s t → Same (cleared s) (cleared t)
  cleared_same s t w = record {
    shape = ap (λ (k : Shape ℕ). record { entries = []; memo = k.memo }) w.shape;
    events = w.events;
    objects = w.objects;
  }

  next_like : (ps : List (List Instruction)) → HaveRowLike ps → (oss : List (List Outcome))
      (x y : Ended) (u : State) → SameEnd x y → next_from x (run_row setting ps oss) ≡ Some u
      → (qss : List (List Outcome)) × (v : State)
      × (next_from y (run_row Unknown ps qss) ≡ Some v) × Same u v
  next_like ps like oss (EndedBy (Stopped r s)) (EndedBy (Stopped q t)) u w e =
      like oss (cleared s) (cleared t) u (cleared_same s t w) e
  next_like ps like oss (EndedBy (Stopped r s)) _ u w e = absurd w
  next_like ps like oss _ y u w e = absurd (none_come u e)

  rows : (ps : List (List Instruction)) → HaveRowLike ps
  rows [] oss s t u w e = ([], t, refl, subst (λ x. Same x t) (same_some s u e) w)
  rows (p ∷ ps) [] s t u w e = absurd (none_come u e)
  rows (p ∷ ps) (os ∷ oss) s t u w e =
      let (qs, same) = runs p os s t w in
      let (qss, v, comes, like) = next_like ps (rows ps) oss _ _ u same e in
      (qs ∷ qss, v, comes, like)

  module _ (list : List ℕ → List ℕ → Bool) where
    listed : (s t : State) → Same s t → AllListed list (imports_of t.events)
        → AllListed list (imports_of s.events)
    listed s t w h = subst (λ es. AllListed list (imports_of es)) (sym w.events) h

    ends_well : (x y : Ended) → SameEnd x y → EndsWell list y → EndsWell list x
    ends_well (Reached s) (Reached t) w h = listed s t w h
    ends_well (EndedBy (Raised s)) (EndedBy (Raised t)) w h = listed s t w h
    ends_well (EndedBy (Stopped r s)) (EndedBy (Stopped q t)) w h =
        (ap (λ (k : Shape ℕ). k.entries) w.shape ∙ h.0, listed s t w h.1)
    ends_well (EndedBy (WentOn s)) (EndedBy (WentOn t)) w h = absurd h
    ends_well (EndedBy (Stuck b)) (EndedBy (Stuck c)) w h = absurd h
    ends_well _ _ w h = absurd w

alike : Same start start
alike = record { shape = refl; events = refl; objects = refl }

pub sound_in_each : SoundInEach
sound_in_each setting Afresh is list sound = λ os.
    let (qs, same) = runs setting is os start start alike in
    ends_well setting list _ _ same (sound qs)
sound_in_each setting (Behind pickles) is list sound = λ first os came.
    let (qss, other, also, like) = rows setting (sequences_of pickles) came.0 start start first
    alike came.1 in
    let (qs, same) = runs setting is os first other like in
    ends_well setting list _ _ same (sound other qs (qss, also))
