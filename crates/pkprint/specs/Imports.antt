-- The imports of a pickle: a line for each, then the line of the verdict.
use Rattle.std.specs.Prelude.{ℕ, List, [], ◌++◌, codes, Result, Ok, Err}
use Rattle.std.specs.List.{flat_map}
use Rattle.pkimport.specs.Import.{Asked, AskedPair, AskedUnknown}
use Rattle.pkcheck.specs.declared.Yes.{Yes}
use Rattle.pkcheck.specs.declared.No.{No}
use Rattle.pkimport.specs.Quoted.{quoted}
use Rattle.pkprint.specs.Verdict.{verdict_line}

-- `"MODULE" "NAME"`, or `unknown` if the pickle does not show the pair
abbrev pub import_line : Asked → List ℕ
import_line (AskedPair key name) = quoted key ++ (codes " " ++ (quoted name ++ codes "\n"))
import_line AskedUnknown = codes "unknown\n"

-- the lines of the imports for a yes, none for a no
abbrev pub import_lines : Result Yes No → List ℕ
import_lines (Ok accepted) = flat_map import_line accepted.imports
import_lines (Err refused) = []

-- everything printed for an answer
abbrev pub imports_text : Result Yes No → List ℕ
imports_text answer = import_lines answer ++ verdict_line answer
