-- A step in two states that differ in their memos alone.
use Rattle.std.proofs.Common.{◌≡◌, ℕ, Bool, true, List, [], ◌∷◌, map, Result, Ok, Err, refl, sym}
use Rattle.std.proofs.Common.{subst}
use Rattle.pkops.specs.Spelling.{Instruction}
use Rattle.pkmachine.specs.declared.effect.Names.{Names}
use Rattle.pkmachine.specs.declared.effect.Gives.{Gives}
use Rattle.pkmachine.specs.Effects.{Effect, Operates, Moves, Stops, Raises}
use Rattle.pkstack.specs.declared.Move.TheVariants.{PushesMark, Pops, PopsMark, Duplicates, Stores}
use Rattle.pkstack.specs.declared.Move.TheVariants.{StoresNext, Fetches, NoOp, Extends}
use Rattle.pkstack.specs.Shape.{Breach, Entry, Item, Taken, and_then, slice, operands, top, popped}
use Rattle.pkmachine.specs.Runs.{Import, State, Outcome, Raise, Stepped, WentOn, Raised, Stopped}
use Rattle.pkmachine.specs.Runs.{Stuck, Named, NoImport, Pair, NotTexts, class_at, named}
use Rattle.pkmachine.specs.Runs.{with_event, asks, come_of, operated, move_step, stop_step}
use Rattle.pkmachine.specs.Runs.{operate_step, perform}
use Rattle.pkmachine.specs.WholeRuns.{Ended, go_on}
use Rattle.pkcheck.specs.Ends.{IsFree, SameHistory, SameEnd}

-- the same state with another memo
abbrev pub with_memo : List (ℕ × ℕ) → State → State
with_memo m s = record s { shape = record s.shape { memo = m } }

-- the same step in both, their memos aside, which stay
abbrev pub SameStep : List (ℕ × ℕ) → State → Stepped → Stepped → Type 0
SameStep m s (WentOn a) (WentOn b) = (a.shape.memo ≡ s.shape.memo) × (b ≡ with_memo m a)
SameStep m s (Raised a) (Raised b) = SameHistory a b
SameStep m s (Stopped x a) (Stopped y b) = (x ≡ y) × (a.shape.entries ≡ b.shape.entries)
    × SameHistory a b
SameStep m s (Stuck r) st = Unit {0}
SameStep m s st tt' = ⊥

come_same : (b : Bool) (gives : Gives) (i : Instruction) (t : Taken ℕ) (o : Outcome)
    (m : List (ℕ × ℕ)) (r s : State) → s.shape.memo ≡ r.shape.memo
    → SameStep m r (come_of b gives i t o s) (come_of b gives i t o (with_memo m s))
come_same true gives i t Raise m r s e = record { objects = refl; events = refl }
come_same b gives i t o m r s e = (e, refl)

operated_same : (n : Named) (gives : Gives) (i : Instruction) (t : Taken ℕ) (o : Outcome)
    (m : List (ℕ × ℕ)) (s : State) → SameStep m s (operated n gives i t o s)
    (operated n gives i t o (with_memo m s))
operated_same NoImport gives i t o m s = come_same (asks gives) gives i t o m s s refl
operated_same (Pair x y) gives i t o m s = come_same (asks gives) gives i t o m s
    (with_event (Import x y) s) refl
operated_same NotTexts gives i t o m s = record { objects = refl; events = refl }

operate_same : (names : Names) (gives : Gives) (i : Instruction) (o : Outcome) (m : List (ℕ × ℕ))
    (s : State) (x : Result (Taken ℕ) Breach) → SameStep m s (operate_step names gives i o s x)
    (operate_step names gives i o (with_memo m s) x)
operate_same names gives i o m s (Ok t) = operated_same
    (named names i (map (class_at s.objects) t.operands)) gives i t o m s
operate_same names gives i o m s (Err r) = tt

-- a step that doesn't look at the memo
abbrev pub IsBlind : Effect → Type 0
IsBlind (Moves Stores) = ⊥
IsBlind (Moves StoresNext) = ⊥
IsBlind (Moves Fetches) = ⊥
IsBlind e = Unit {0}

popped_same : (es : List (Entry ℕ)) (m : List (ℕ × ℕ)) (s : State)
    → SameStep m s (move_step s (popped es s.shape))
    (move_step (with_memo m s) (popped es (with_memo m s).shape))
popped_same [] m s = tt
popped_same (e ∷ es) m s = (refl, refl)

cut_same : {A : Type 0} (x : Result A Breach) (f : A → List (Entry ℕ)) (m : List (ℕ × ℕ))
    (s : State)
    → SameStep m s
    (move_step s (and_then x (λ t. Ok (record { entries = f t; memo = s.shape.memo }))))
    (move_step (with_memo m s) (and_then x (λ t. Ok (record { entries = f t; memo = m }))))
cut_same (Ok t) f m s = (refl, refl)
cut_same (Err r) f m s = tt

stop_same : (x : Result (ℕ × List (Entry ℕ)) Breach) (m : List (ℕ × ℕ)) (s : State)
    → SameStep m s (stop_step s x) (stop_step (with_memo m s) x)
stop_same (Ok t) m s = (refl, refl, record { objects = refl; events = refl })
stop_same (Err r) m s = tt

pub perform_same : (e : Effect) (i : Instruction) (o : Outcome) (m : List (ℕ × ℕ)) (s : State)
    → IsBlind e → SameStep m s (perform e i s o) (perform e i (with_memo m s) o)
perform_same (Operates takes names gives) i o m s h =
    operate_same names gives i o m s (operands takes s.shape.entries)
perform_same (Moves PushesMark) i o m s h = (refl, refl)
perform_same (Moves Pops) i o m s h = popped_same s.shape.entries m s
perform_same (Moves PopsMark) i o m s h = cut_same (slice s.shape.entries []) (λ t. t.below) m s
perform_same (Moves Duplicates) i o m s h = cut_same (top s.shape.entries)
    (λ t. Item t.0 ∷ s.shape.entries) m s
perform_same (Moves NoOp) i o m s h = (refl, refl)
perform_same (Moves Extends) i o m s h = tt
perform_same Stops i o m s h = stop_same (top s.shape.entries) m s
perform_same Raises i o m s h = record { objects = refl; events = refl }
perform_same e i o m s h = absurd h

-- where the runs after the same step are alike, so are these
pub step_on : (m : List (ℕ × ℕ)) (s : State) (a b : Stepped) (f g : State → Ended)
    → SameStep m s a b
    → ((t : State) → t.shape.memo ≡ s.shape.memo → IsFree (f t) → SameEnd (f t) (g (with_memo m t)))
    → IsFree (go_on a f) → SameEnd (go_on a f) (go_on b g)
step_on m s (WentOn a) (WentOn b) f g h on free =
    subst (λ t. SameEnd (f a) (g t)) (sym h.1) (on a h.0 free)
step_on m s (Raised a) (Raised b) f g h on free = h
step_on m s (Stopped x a) (Stopped y b) f g h on free = h
step_on m s (Stuck r) st f g h on free = absurd free
step_on m s st other' f g h on free = absurd h
