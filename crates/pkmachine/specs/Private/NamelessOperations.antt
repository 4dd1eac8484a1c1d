-- What an operation that imports nothing does to the stack. It doesn't depend on the texts or the
-- memo.
use Rattle.std.specs.Prelude.{ℕ, ◌≡◌, ◌≤◌, ◌∷◌, IfErr, List, None, OnErr, OnOk, Result, false}
use Rattle.std.specs.Prelude.{length, map}
use Rattle.pkmachine.specs.declared.held.Held.{Held}
use Rattle.pkmachine.specs.declared.value.Value.{Value}
use Rattle.pkmachine.specs.Effects.{Effect}
use Rattle.pkops.specs.Spelling.{Instruction}
use Rattle.pkops.specs.Limits.{Bounds}
use Rattle.pkops.specs.declared.Op.{Op}
use Rattle.pkops.specs.declared.Reason.{Reason}
use Rattle.pkstack.specs.Places.{ItemsFrom, above, below}
use Rattle.pkstack.specs.Shape.{Entry, Item}
use Rattle.pkmachine.specs.Knowledge.{Known, Policy, learn}
use Rattle.pkimport.specs.Import.{Asked}
use Rattle.pkmachine.specs.Private.Steps.{IsStepFault}
use Rattle.pkmachine.specs.Private.StepErrors.{Proceeds}
use Rattle.pkmachine.specs.Private.Slots.{Sees, seen}
use Rattle.pkmachine.specs.Following.{Follower}
use Rattle.pkmachine.specs.Private.Items.{FollowsEffect, item_of}

-- the effect turns the old entries into the new, and lists no import
abbrev pub Replaces : {I : Type 0} → Effect → List (Entry (Held I)) → List (Entry (Held I)) → Type 0
Replaces e old new =
    (ts : List (List ℕ))
    → Sees ts old (seen ts old)
    → (p : Policy) (i : Instruction) (m : List (ℕ × Known)) (listed : List Asked)
    → Proceeds (learn p e i (record { entries = seen ts old; memo = m }))
    (record { entries = seen ts new; memo = m }) listed listed false

-- what is known about the objects stays true
abbrev pub StaysSeen : {I : Type 0} → List (Entry (Held I)) → List (Entry (Held I)) → Type 0
StaysSeen old new =
    (ts : List (List ℕ)) → Sees ts old (seen ts old) → Sees ts new (seen ts new)

-- the operation is refused for this reason
abbrev pub IsReplaceFault : {I : Type 0} → Bounds → Effect → List (Entry (Held I)) → Reason → Type 0
IsReplaceFault limits e old r =
    (ts : List (List ℕ))
    → Sees ts old (seen ts old)
    → (p : Policy) (i : Instruction) (m : List (ℕ × Known))
    → IsStepFault p limits e i (record { entries = seen ts old; memo = m }) r None

-- what an operation that imports nothing answers, and what it does to the stack; the domain follows
pub record HasOperated {A I D : Type 0} (follows : Follower I D) (limits : Bounds) (op : Op)
    (e : Effect) (old : List (Entry (Held I))) (was : D) (new : List (Entry (Held I))) (is : D)
    (answer : Result A Reason) : Type 0 where
  pub ok : OnOk answer (Replaces e old new)
  pub followed : OnOk answer (FollowsEffect follows op e old was new is)
  pub sees : OnOk answer (StaysSeen old new)
  pub room : OnOk answer (length new ≤ limits.stack)
  pub kept : OnErr answer (new ≡ old)
  pub err : IfErr answer (IsReplaceFault limits e old)

-- what an operation that imports nothing does to the stack if its operands are there; the domain
-- follows
pub record HasReplaced {I D : Type 0} (follows : Follower I D) (op : Op) (e : Effect)
    (old : List (Entry (Held I))) (was : D) (new : List (Entry (Held I))) (is : D) : Type 0 where
  pub ok : Replaces e old new
  pub followed : FollowsEffect follows op e old was new is
  pub sees : StaysSeen old new
  pub fewer : length new ≤ length old

-- the topmost objects, so many, were replaced with one about which this is known; the domain
-- follows
pub record MakesOf {I D : Type 0} (follows : Follower I D) (op : Op) (count : ℕ) (v : Value)
    (old : List (Entry (Held I))) (was : D) (new : List (Entry (Held I))) (is : D) : Type 0 where
  pub place : ℕ
  pub item : I
  pub from : ItemsFrom count place old
  pub made : new ≡ Item (record { value = v; item = item }) ∷ below place old
  pub given : (i : Instruction) → i.op ≡ op
      → item ≡ follows.given was i (map item_of (above place old))
  pub after : (i : Instruction) → i.op ≡ op
      → is ≡ follows.after was i (map item_of (above place old))
