-- How a refusal is printed.
use Rattle.std.specs.Prelude.{ℕ, List, [], ◌++◌, codes, decimal, string_bytes, Option, Some}
use Rattle.pkops.specs.Printed.{refusal_text}
use Rattle.pkimport.specs.declared.import.Asked.{Asked}
use Rattle.pkimport.specs.declared.import.Asked.TheVariants.{Pair}
use Rattle.pkcheck.specs.declared.checking.No.{No}
use Rattle.pkcheck.specs.declared.row_of_pickles.NoAll.{NoAll}
use Rattle.pkimport.specs.Quoted.{quoted}

-- an import off the list: `("MODULE","NAME")`
abbrev pub pair_text : Option Asked → List ℕ
pair_text (Some (Pair key name)) =
    codes "("
    ++ (quoted (string_bytes key) ++ (codes "," ++ (quoted (string_bytes name) ++ codes ")")))
pair_text _ = []

-- `at P: REASON`, then the import if it is off the list
abbrev pub no_text : No → List ℕ
no_text refused =
    refusal_text (record { at = refused.at; reason = refused.reason }) ++ pair_text refused.pair

-- `in pickle K at P: REASON`
abbrev pub no_all_text : NoAll → List ℕ
no_all_text refused =
    codes "in pickle " ++ (decimal refused.pickle ++ (codes " " ++ no_text refused.no))
