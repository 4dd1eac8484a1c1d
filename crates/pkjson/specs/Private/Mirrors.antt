-- When the arena matches the state of a run.
use Rattle.std.specs.Prelude.{◌≡◌, ◌<◌, ℕ, List, [], ◌∷◌, length}
use Rattle.pkstack.specs.Shape.{Entry, Mark, Item, Shape}
use Rattle.pkmachine.specs.Runs.{Event, State, class_at}
use Rattle.pkjson.specs.Contents.{kinds, all_given}
use Rattle.pkjson.specs.Plain.{is_known_text}
use Rattle.pkjson.specs.Private.Arena.{Kept, Arena, kind_at, given_at, kept_in, is_text_kind}

-- each object has the kind that the events say, and keeps what they say it was given
pub record Mirrors (ks : List Kept) (es : List Event) : Type 0 where
  pub kinds : (n : ℕ) → kind_at ks n ≡ kinds es n
  pub given : (n : ℕ) → given_at ks n ≡ kept_in (kind_at ks n) (all_given n es)

-- all numbers are below n
abbrev pub AreBelow : ℕ → List ℕ → Type 0
AreBelow n [] = Unit {0}
AreBelow n (x ∷ xs) = (x < n) × AreBelow n xs

-- all entries have numbers below n
abbrev pub EntriesBelow : ℕ → List (Entry ℕ) → Type 0
EntriesBelow n [] = Unit {0}
EntriesBelow n (Mark ∷ es) = EntriesBelow n es
EntriesBelow n (Item x ∷ es) = (x < n) × EntriesBelow n es

-- all cells have numbers below n
abbrev pub CellsBelow : ℕ → List (ℕ × ℕ) → Type 0
CellsBelow n [] = Unit {0}
CellsBelow n (c ∷ cs) = (c.1 < n) × CellsBelow n cs

-- the stack and the memo hold only existing objects
pub record IsHeld (n : ℕ) (h : Shape ℕ) : Type 0 where
  pub entries : EntriesBelow n h.entries
  pub memo : CellsBelow n h.memo

-- objects were given only existing objects
abbrev pub GivenBelow : ℕ → List Kept → Type 0
GivenBelow n [] = Unit {0}
GivenBelow n (k ∷ ks) = AreBelow n k.given × GivenBelow n ks

-- the arena matches the state
pub record MirrorsState (a : Arena) (s : State) : Type 0 where
  pub shape : a.shape ≡ s.shape
  pub held : IsHeld (length a.kept) a.shape
  pub closed : GivenBelow (length a.kept) a.kept
  pub numbers : length a.kept ≡ length s.objects
  pub texts : (n : ℕ) → is_text_kind (kind_at a.kept n) ≡ is_known_text (class_at s.objects n)
  pub objects : Mirrors a.kept s.events
