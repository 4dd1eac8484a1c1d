-- How an excess is printed.
use Rattle.std.specs.Prelude.{List, ℕ, ◌++◌, codes, decimal}
use Rattle.pkload.specs.declared.checking.Costly.{Costly}
use Rattle.pkload.specs.declared.tolls.Excess.{Excess}
use Rattle.pkload.specs.declared.tolls.Excess.TheVariants.{DeepKey, HeavyKeys, ManyKeys}
use Rattle.pkload.specs.declared.tolls.Excess.TheVariants.{MuchMemory, BuildsImport, OutOfMemory}

-- the name of a reason
abbrev pub excess_name : Excess → List ℕ
excess_name DeepKey = codes "DeepKey"
excess_name HeavyKeys = codes "HeavyKeys"
excess_name ManyKeys = codes "ManyKeys"
excess_name MuchMemory = codes "MuchMemory"
excess_name BuildsImport = codes "BuildsImport"
excess_name OutOfMemory = codes "OutOfMemory"

-- `at P: REASON`
abbrev pub costly_text : Costly → List ℕ
costly_text costly =
    codes "at " ++ (decimal costly.at ++ (codes ": " ++ excess_name costly.excess))
