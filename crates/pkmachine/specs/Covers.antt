-- Which states of runs the checker's knowledge covers, and what a step of the checker means in each
-- of them.
use Rattle.std.specs.Prelude.{◌≡◌, ℕ, ◌<◌, ⊤, true, ◌⊎◌, List, [], ◌∷◌, ◌++◌, length, Option, Some}
use Rattle.std.specs.Prelude.{None, slice_get}
use Rattle.pkstack.specs.Shape.{Entry, Mark, Item, Shape}
use Rattle.pkmachine.specs.Runs.{Object, State, Event, Import, Did, Stepped, WentOn, Raised}
use Rattle.pkmachine.specs.Runs.{Stopped, Stuck}
use Rattle.pkmachine.specs.Knowledge.{Known, Knowledge, Progress}
use Rattle.pkimport.specs.Import.{Asked, AskedPair, AskedUnknown}

-- two lists of the same length whose elements are related by R, one by one
abbrev pub Pointwise : {A B : Type 0} → (A → B → Type 0) → List A → List B → Type 0
Pointwise R [] [] = ⊤
Pointwise R (x ∷ xs) (y ∷ ys) = R x y × Pointwise R xs ys
Pointwise R _ _ = ⊥

-- two marks, or two items related by R
abbrev pub AlikeEntry : {A B : Type 0} → (A → B → Type 0) → Entry A → Entry B → Type 0
AlikeEntry R Mark Mark = ⊤
AlikeEntry R (Item x) (Item y) = R x y
AlikeEntry R _ _ = ⊥

-- two memo entries with the same number, whose items are related by R
abbrev pub AlikeCell : {A B : Type 0} → (A → B → Type 0) → ℕ × A → ℕ × B → Type 0
AlikeCell R a b = (a.0 ≡ b.0) × R a.1 b.1

-- marks and items at the same places, and memo entries under the same numbers
pub record Alike {A B : Type 0} (R : A → B → Type 0) (a : Shape A) (b : Shape B) : Type 0 where
  pub entries : Pointwise (AlikeEntry R) a.entries b.entries
  pub memo : Pointwise (AlikeCell R) a.memo b.memo

-- this is the number of one of the objects
abbrev pub IsObject : List Object → ℕ → Type 0
IsObject objects number = number < length objects

-- what is known about the object with this number is true: it has this class, and the machine made
-- it; if nothing is known, U holds of it
abbrev pub TrueBy : (List Object → ℕ → Type 0) → List Object → Known → ℕ → Type 0
TrueBy U objects None number = U objects number
TrueBy U objects (Some kind) number =
    slice_get objects number ≡ Some (record { class_of = kind; made = true })

-- the knowledge covers the state, and U holds of each object about which nothing is known: marks,
-- items and memo numbers are where it says, and everything known about the items is true
abbrev pub CoversBy : (List Object → ℕ → Type 0) → Knowledge → State → Type 0
CoversBy U known state = Alike (TrueBy U state.objects) known state.shape

-- the knowledge covers the state; an object about which nothing is known may be any object
abbrev pub TrueOf : List Object → Known → ℕ → Type 0
TrueOf = TrueBy IsObject

abbrev pub Covers : Knowledge → State → Type 0
Covers = CoversBy IsObject

-- the imported pairs, in order
abbrev pub imports_of : List Event → List (List ℕ × List ℕ)
imports_of [] = []
imports_of (Import module_name name ∷ events) = (module_name, name) ∷ imports_of events
imports_of (Did instruction operands result ∷ events) = imports_of events

-- exactly this import was made; an unknown import may be any one pair
abbrev pub IsAsked : Option Asked → List (List ℕ × List ℕ) → Type 0
IsAsked None pairs = pairs ≡ []
IsAsked (Some (AskedPair module_name name)) pairs = pairs ≡ (module_name, name) ∷ []
IsAsked (Some AskedUnknown) pairs =
    (module_name : List ℕ) × (name : List ℕ) × (pairs ≡ (module_name, name) ∷ [])

-- the events extend the earlier ones, and the new ones contain exactly this import
pub record Adds (import : Option Asked) (before after : List Event) : Type 0 where
  pub added : List Event
  pub grown : after ≡ before ++ added
  pub asked : IsAsked import (imports_of added)

-- the events after a step that raises. They contain the import. If its pair isn't known, they may
-- contain none, because the operands may not both be text
abbrev pub AddsRaising : Option Asked → List Event → List Event → Type 0
AddsRaising import before after =
    Adds import before after ⊎ ((import ≡ Some AskedUnknown) × Adds None before after)

-- the step makes this import
abbrev pub Asks : Option Asked → State → Stepped → Type 0
Asks import state (WentOn after) = Adds import state.events after.events
Asks import state (Raised after) = AddsRaising import state.events after.events
Asks import state (Stopped result after) = (import ≡ None) × (after.events ≡ state.events)
Asks import state (Stuck breach) = ⊥

-- what a step of a run does from a covered state if the checker accepts the instruction: it isn't
-- stuck, its new state is covered, its import is the one listed, and STOP takes the only object
abbrev pub Follows : Progress → State → Stepped → Type 0
Follows progress state (WentOn after) =
    Covers progress.after after × Adds progress.import state.events after.events
Follows progress state (Stopped result after) =
    (state.shape.entries ≡ Item result ∷ [])
    × (progress.after.entries ≡ [])
    × Covers progress.after after
    × (progress.import ≡ None)
    × (after.events ≡ state.events)
Follows progress state (Raised after) =
    AddsRaising progress.import state.events after.events
Follows progress state (Stuck breach) = ⊥
