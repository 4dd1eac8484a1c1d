-- The pairs of a list file, indexed by module.
use Rattle.std.specs.Prelude.{◌≡◌, Bool, false, Option, Some, None, String}
use Rattle.std.specs.BTreeMap.{BTreeMap, get_by_text}
use Rattle.std.specs.BTreeSet.{BTreeSet, contains_text}
use Rattle.std.specs.declared.alloc.Global.{Global}
use Rattle.toml.specs.Data.{Data}
use Rattle.pklist.specs.ListFile.{Text, lists_in}

-- the names of each module
abbrev pub Index : Type 0
Index = BTreeMap (String Global) (BTreeSet (String Global))

-- the module is present and has this name
abbrev pub has_text : Option (BTreeSet (String Global)) → Text → Bool
has_text (Some names) n = contains_text names n
has_text None n = false

-- the set has exactly these names
abbrev pub HasJust : BTreeSet (String Global) → (Text → Bool) → Type 0
HasJust set is = (n : Text) → contains_text set n ≡ is n

-- the index has exactly the pairs of this table `imports`
abbrev pub Indexes : Index → Option Data → Type 0
Indexes index imports = (m n : Text) → has_text (get_by_text index m) n ≡ lists_in imports m n
