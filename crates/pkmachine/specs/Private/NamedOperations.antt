-- What an operation that may import a pair does to the stack and the import table. It doesn't
-- depend on the memo.
use Rattle.std.specs.Prelude.{ℕ, ◌≡◌, ◌≤◌, Bool, IfErr, IfOk, List, OnErr, OnOk, Option, Result}
use Rattle.std.specs.Prelude.{length}
use Rattle.std.specs.Borrow.{Bor}
use Rattle.pkmachine.specs.declared.operate.StepError.{StepError}
use Rattle.pkmachine.specs.declared.held.Held.{Held}
use Rattle.pkmachine.specs.Effects.{Effect}
use Rattle.pkmachine.specs.Knowledge.{Known, Knowledge, Policy, learn}
use Rattle.pkmachine.specs.Private.Steps.{IsStepFault}
use Rattle.pkmachine.specs.Private.StepErrors.{Proceeds, pair_of_error}
use Rattle.pkimport.specs.Table.{Noted}
use Rattle.pkmachine.specs.Private.Asking.{Spells}
use Rattle.pkmachine.specs.Private.Slots.{Sees, seen}
use Rattle.pkstack.specs.Shape.{Entry}
use Rattle.pkops.specs.Limits.{Bounds}
use Rattle.pkops.specs.declared.Op.{Op}
use Rattle.pkmachine.specs.Following.{Follower}
use Rattle.pkmachine.specs.Private.Items.{FollowsEffect}
use Rattle.pkops.specs.Spelling.{Instruction}

-- the entries of the stack, and the import table
pub record StackAndTable (I : Type 0) : Type 0 where
  pub entries : List (Entry (Held I))
  pub table : Noted

-- the entries refer only to texts in the table
abbrev pub AreSeen : {I : Type 0} → StackAndTable I → Type 0
AreSeen here = Sees here.table.texts here.entries (seen here.table.texts here.entries)

-- what is known, with this memo
abbrev pub known_with : {I : Type 0} → List (ℕ × Known) → StackAndTable I → Knowledge
known_with memo here = record { entries = seen here.table.texts here.entries; memo = memo }

-- what the operation answers, and what it does to the stack and the table, for every instruction
-- that spells these names; the domain follows
pub record HasImported {I D : Type 0} (follows : Follower I D) (p : Policy) (limits : Bounds)
    (op : Op) (e : Effect) (names : Option (Bor (List ℕ) × Bor (List ℕ)))
    (old : StackAndTable I) (was : D) (new : StackAndTable I) (is : D)
    (answer : Result Bool StepError) : Type 0 where
  pub ok : (i : Instruction) → Spells names i → (memo : List (ℕ × Known))
      → IfOk answer (Proceeds (learn p e i (known_with memo old)) (known_with memo new)
      old.table.asked new.table.asked)
  pub followed : OnOk answer (FollowsEffect follows op e old.entries was new.entries is)
  pub sees : OnOk answer (AreSeen new)
  pub texts : new.table.texts ≡ old.table.texts
  pub room : OnOk answer (length new.entries ≤ limits.stack)
  pub kept : OnErr answer ((new.entries ≡ old.entries) × (new.table ≡ old.table))
  pub err : (i : Instruction) → Spells names i → (memo : List (ℕ × Known))
      → IfErr answer (λ d. IsStepFault p limits e i (known_with memo old) d.reason
      (pair_of_error d))
