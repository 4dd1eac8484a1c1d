-- What an import table holds: the texts that a pickle made, and the imports that it requested.
use Rattle.std.specs.Prelude.{◌≡◌, ℕ, ◌<◌, List, [], ◌++◌, Option, Some, None, get_or, ⊤}
use Rattle.pkimport.specs.declared.import.Named.{Named}
use Rattle.pkimport.specs.declared.import.Named.TheVariants as named
use Rattle.pkimport.specs.Import.{Asked, AskedPair, AskedUnknown}

-- the texts, and the imports in order
pub record Noted : Type 0 where
  pub texts : List (List ℕ)
  pub asked : List Asked

-- the import of a name, given the texts
abbrev pub named_asked : List (List ℕ) → Named → Asked
named_asked ts named.Unknown = AskedUnknown
named_asked ts (named.Made m n) = AskedPair (get_or ts m []) (get_or ts n [])
named_asked ts (named.Written m n) = AskedPair m.now n.now

-- the name refers only to the first `count` texts
abbrev pub IsNamed : ℕ → Named → Type 0
IsNamed count (named.Made m n) = (m < count) × (n < count)
IsNamed count name = ⊤

-- like IsNamed, if there is a name
abbrev pub IsNamedIf : ℕ → Option Named → Type 0
IsNamedIf count (Some name) = IsNamed count name
IsNamedIf count None = ⊤

-- the new table of texts begins with the old one
pub record HasMoreTexts (before after : List (List ℕ)) : Type 0 where
  pub more : List (List ℕ)
  pub is : after ≡ before ++ more
