-- The pairs and limits of a list file, as reported to C.
use Rattle.std.specs.Prelude.{◌++◌, ◌&&◌, nat_le, Bool, if◌then◌else◌, List, [], ◌∷◌, ℕ}
use Rattle.std.specs.Prelude.{Option, Some, codes, is_some}
use Rattle.toml.specs.Data.{Data, string, table, array, Items, no_items, item, Members, no_members}
use Rattle.toml.specs.Data.{member}
use Rattle.pkops.specs.Limits.{Bounds, greatest}
use Rattle.pkimport.specs.Import.{Asked, AskedPair}
use Rattle.pklist.specs.ListFile.{value_in}
use Rattle.pklist.specs.declared.CostLimits.{CostLimits}
use Rattle.pkguard.specs.declared.said.Said.{Said}
use Rattle.pkguard.specs.declared.settings.Settings.{Settings}

-- the pair of a module and one of its names
abbrev pub pair_in : List ℕ → Data → List Asked
pair_in module_name (string name) = AskedPair module_name name ∷ []
pair_in module_name _ = []

-- the pairs of a module, in the order of its array
abbrev pub pairs_among : List ℕ → Items → List Asked
pairs_among module_name no_items = []
pairs_among module_name (item value rest) =
    pair_in module_name value ++ pairs_among module_name rest

-- the pairs of a module
abbrev pub pairs_of : List ℕ → Data → List Asked
pairs_of module_name (array names) = pairs_among module_name names
pairs_of module_name _ = []

-- the pairs of each module, in the order of the modules
abbrev pub pairs_at : Members → List Asked
pairs_at no_members = []
pairs_at (member module_name names rest) = pairs_of module_name names ++ pairs_at rest

-- the pairs of a table `imports`
abbrev pub pairs_in : Option Data → List Asked
pairs_in (Some (table modules)) = pairs_at modules
pairs_in _ = []

-- each name of a table `substitutes` with its substitute, in the byte order of the names
abbrev pub substitutes_at : Members → List Asked
substitutes_at no_members = []
substitutes_at (member name value rest) = pair_in name value ++ substitutes_at rest

-- those of a document
abbrev pub substitutes_in : Option Data → List Asked
substitutes_in (Some (table substitutes)) = substitutes_at substitutes
substitutes_in _ = []

-- 1 if it is so, otherwise 0
abbrev pub flag : Bool → ℕ
flag is = if is then 1 else 0

-- which keys a document has, whose defaults depend on who reads it
abbrev pub said_by : (limits : Option Data) → CostLimits → Said
said_by limits costs = record {
  limits = flag (is_some limits);
  numbers = flag (is_some (value_in (codes "numbers") limits));
  levels = flag (is_some costs.levels);
  weight = flag (is_some costs.weight);
  work = flag (is_some costs.work);
  clash = flag (is_some costs.clash);
  memory = flag (is_some costs.memory);
  build = flag (is_some costs.builds);
}

-- the limits are within the greatest ones without large data
abbrev pub are_usual : Bounds → Bool
are_usual limits =
    nat_le limits.counted greatest.counted && nat_le limits.stack greatest.stack
    && nat_le limits.memo greatest.memo

-- the settings with these limits, and defaults otherwise
abbrev pub settings_with : Bounds → Settings
settings_with limits = record {
  size = 64;
  counted = limits.counted;
  stack = limits.stack;
  memo = limits.memo;
  passed = limits.passed;
  numbers = limits.numbers;
  old_strings = 0;
  row_memo = 0;
  large = if are_usual limits then 0 else 1;
  sorted = 0;
}
