-- What pushing a text does to the stack and the import table.
use Rattle.std.specs.Prelude.{ℕ, ◌≡◌, ◌≤◌, ◌∷◌, Err, IfErr, List, Ok, OnOk, Result, Some, length}
use Rattle.std.specs.Prelude.{suc}
use Rattle.pkops.specs.declared.Reason.{Reason}
use Rattle.pkops.specs.declared.Reason.TheVariants as reason
use Rattle.pkops.specs.declared.Reason.TheVariants.{TooLarge}
use Rattle.pkmachine.specs.declared.new_text.NotPushed.{NotPushed}
use Rattle.pkmachine.specs.declared.new_text.NotPushed.TheVariants.{Full, OutOfMemory}
use Rattle.pkstack.specs.Faults.{WantsRoom}
use Rattle.pkmachine.specs.Private.NamedOperations.{AreSeen, StackAndTable}
use Rattle.pkmachine.specs.Private.Slots.{seen}
use Rattle.pkmachine.specs.Private.Items.{items_on}
use Rattle.pkimport.specs.Table.{HasMoreTexts}
use Rattle.pkmachine.specs.Runs.{Text}
use Rattle.pkstack.specs.Shape.{Item}

-- the reason for a text that isn't pushed
abbrev pub reason_for : NotPushed → Reason
reason_for Full = TooLarge
reason_for OutOfMemory = reason.OutOfMemory

-- the answer with its reason
abbrev pub with_reason : {A : Type 0} → Result A NotPushed → Result A Reason
with_reason (Ok x) = Ok x
with_reason (Err why) = Err (reason_for why)

-- the text is appended to the table, and its number is on top of the stack, with this item
pub record HasPushedText {A I : Type 0} (item : I) (limit : ℕ) (text : List ℕ)
    (old new : StackAndTable I) (answer : Result A Reason) : Type 0 where
  pub ok : OnOk answer (seen new.table.texts new.entries
      ≡ Item (Some (Text text)) ∷ seen old.table.texts old.entries)
  pub has : OnOk answer (items_on new.entries ≡ Item item ∷ items_on old.entries)
  pub sees : OnOk answer (AreSeen new)
  pub grows : OnOk answer (HasMoreTexts old.table.texts new.table.texts)
  pub count : OnOk answer (length new.table.texts ≡ suc (length old.table.texts))
  pub asked : OnOk answer (new.table.asked ≡ old.table.asked)
  pub room : OnOk answer (length new.entries ≤ limit)
  pub err : IfErr answer (λ r. (new.entries ≡ old.entries) × (new.table ≡ old.table)
      × WantsRoom limit (length old.entries) r)
