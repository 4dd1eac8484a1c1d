-- What contracts see of the machine.
use Rattle.std.specs.Prelude.{ℕ, suc, ◌++◌, Bool, true, false, List, [], Option, Some, None}
use Rattle.pkops.specs.Limits.{Bounds}
use Rattle.pkops.specs.declared.Reason.{Reason}
use Rattle.pkops.specs.declared.Reason.TheVariants.{ImportOffList}
use Rattle.pkmachine.specs.Effects.{Effect, Operates, Stops, MakesText, OldStrings}
use Rattle.pkmachine.specs.declared.memo.Memo.{Memo}
use Rattle.pkmachine.specs.declared.memo.Memo.TheVariants.{Fresh, Kept}
use Rattle.pkmachine.specs.declared.stepping.Moved.{Moved}
use Rattle.pkmachine.specs.declared.stepping.Moved.TheVariants.{On, Import, Stopped}
use Rattle.pkmachine.specs.Knowledge.{Knowledge, Refusal, OffList, nothing_known}
use Rattle.pkimport.specs.Import.{Asked, AskedPair}

-- the knowledge, the limits, the decoding of old strings, the imports so far, the pair that was off
-- the list, the reason of the refusal, whether STOP was accepted, and the number of texts in the
-- table
pub record View : Type 0 where
  pub knowledge : Knowledge
  pub limits : Bounds
  pub old_strings : OldStrings
  pub imports : List Asked
  pub off : Option Asked
  pub refused : Option Reason
  pub stopped : Bool
  pub texts : ℕ

-- a new machine
abbrev pub fresh : OldStrings → Bounds → View
fresh setting limits = record {
  knowledge = nothing_known;
  limits = limits;
  old_strings = setting;
  imports = [];
  off = None;
  refused = None;
  stopped = false;
  texts = 0;
}

-- the machine at the start of the next pickle: a new one, or the same with an empty stack
abbrev pub restarted : Memo → View → View
restarted Fresh view = fresh view.old_strings view.limits
restarted Kept view = record view {
  knowledge = record { entries = []; memo = view.knowledge.memo };
  stopped = false;
}

-- the imports outside the machine after a restart; with a fresh memo, those of the machine are
-- moved there
abbrev pub moved_apart : Memo → List Asked → List Asked → List Asked
moved_apart Fresh apart own = apart ++ own
moved_apart Kept apart own = apart

-- what a step reports: STOP, an import, or neither
abbrev pub moved_as : Effect → Option Asked → Moved
moved_as Stops import = Stopped
moved_as effect (Some asked) = Import
moved_as effect None = On

-- the step reports STOP
abbrev pub stopped_by : Moved → Bool
stopped_by Stopped = true
stopped_by _ = false

-- the number of texts after a step that goes on: one more if it made one
abbrev pub texts_after : Effect → ℕ → ℕ
texts_after (Operates takes names MakesText) count = suc count
texts_after _ count = count

-- the pair that is off the list
abbrev pub off_pair : Refusal → Option Asked
off_pair (OffList module_name name) = Some (AskedPair module_name name)
off_pair _ = None

-- a machine with this refusal, if any, names a pair that is off the list
abbrev pub has_off_list : Option Reason → Bool
has_off_list (Some ImportOffList) = true
has_off_list _ = false
