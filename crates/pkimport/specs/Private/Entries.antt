-- The entries of an import table: each refers to two texts, or to two names written beside them.
use Rattle.std.specs.Prelude.{◌≡◌, ℕ, ◌<◌, List, [], ◌∷◌, Option, Some, None, get_or, length, ⊤}
use Rattle.pkimport.specs.declared.import_table.ListedImport.{ListedImport}
use Rattle.pkimport.specs.declared.import_table.ListedImport.TheVariants as entry
use Rattle.pkimport.specs.Import.{Asked, AskedPair, AskedUnknown}
use Rattle.pkimport.specs.Table.{HasMoreTexts}

-- the import of an entry, given the texts and the names written beside them
abbrev pub entry_asked : List (List ℕ) → List (List ℕ) → ListedImport → Asked
entry_asked ts ws entry.Unknown = AskedUnknown
entry_asked ts ws (entry.Made m n) = AskedPair (get_or ts m []) (get_or ts n [])
entry_asked ts ws (entry.Written m n) = AskedPair (get_or ws m []) (get_or ws n [])

-- the entry refers only to the first `made` texts and the first `written` names
abbrev pub IsEntry : ℕ → ℕ → ListedImport → Type 0
IsEntry made written entry.Unknown = ⊤
IsEntry made written (entry.Made m n) = (m < made) × (n < made)
IsEntry made written (entry.Written m n) = (m < written) × (n < written)

-- all entries refer only to these
abbrev pub AreEntries : ℕ → ℕ → List ListedImport → Type 0
AreEntries made written [] = ⊤
AreEntries made written (e ∷ es) = IsEntry made written e × AreEntries made written es

-- if `copies` has a number for a text, the name with that number in `written` equals the text
abbrev pub AreCopies : List (Option ℕ) → List (List ℕ) → List (List ℕ) → Type 0
AreCopies copies texts written =
    (number copy : ℕ) → get_or copies number None ≡ Some copy →
    (copy < length written) × (get_or written copy [] ≡ get_or texts number [])

-- the copies stay valid, and names are only appended
pub record KeepsCopies (texts : List (List ℕ)) (old new : List (Option ℕ))
    (before after : List (List ℕ)) : Type 0 where
  pub copies : AreCopies new texts after
  pub count : length new ≡ length old
  pub grows : HasMoreTexts before after
