-- What a pickle requests: imports, as pairs of a module and a name.
use Rattle.std.specs.Prelude.{ℕ, ◌&&◌, Bool, false, true, List, [], ◌∷◌, ◌++◌, Option, Some, None}
use Rattle.std.specs.Cmp.Lexicographic.{pointwise}
use Rattle.std.specs.Str.{bytes_eq}
use Rattle.std.specs.String.{string_bytes}
use Rattle.pkimport.specs.declared.import.Asked.{Asked as RustAsked}
use Rattle.pkimport.specs.declared.import.Asked.TheVariants as rust
use Rattle.pkimport.specs.declared.import.Import.{Import as RustImport}
use Rattle.pkimport.specs.declared.import.Import.TheVariants as lent

-- an import as the checker lists it: a pair, or Unknown if the pair isn't known
pub data Asked : Type 0 where
  AskedPair : List ℕ → List ℕ → Asked
  AskedUnknown : Asked

-- an import, from the bytes of its names
abbrev pub asked_shown : RustAsked → Asked
asked_shown (rust.Pair m n) = AskedPair (string_bytes m) (string_bytes n)
asked_shown rust.Unknown = AskedUnknown

-- like asked_shown, for a borrowed import
abbrev pub import_shown : RustImport → Asked
import_shown (lent.Pair m n) = AskedPair m.now n.now
import_shown lent.Unknown = AskedUnknown

-- the same pair, or both unknown
abbrev pub same_asked : Asked → Asked → Bool
same_asked (AskedPair m n) (AskedPair p q) = bytes_eq m p && bytes_eq n q
same_asked AskedUnknown AskedUnknown = true
same_asked (AskedPair m n) AskedUnknown = false
same_asked AskedUnknown (AskedPair m n) = false

-- the same imports in the same order
abbrev pub same_imports : List Asked → List Asked → Bool
same_imports = pointwise same_asked

-- the imports, followed by this one if there is one
abbrev pub asks_more : Option Asked → List Asked → List Asked
asks_more None listed = listed
asks_more (Some a) listed = listed ++ a ∷ []

-- the pair of an import, if it is known
abbrev pub pair_shown : Option Asked → Option (List ℕ × List ℕ)
pair_shown (Some (AskedPair m n)) = Some (m, n)
pair_shown (Some AskedUnknown) = None
pair_shown None = None
