-- The objects of a plain run, with their kinds and what each was given.
use Rattle.std.specs.Prelude.{ℕ, zero, suc, Bool, true, false, cond, List, [], ◌∷◌, ◌++◌, Option}
use Rattle.std.specs.Prelude.{Some, None, option_map, slice_get}
use Rattle.serde_json.specs.Data.{string}
use Rattle.pkstack.specs.Shape.{Shape}
use Rattle.pkjson.specs.Unfolds.{Heap}
use Rattle.pkjson.specs.Contents.{Kind, OfItems, OfPairs, OfValue, held_by}

-- what an object keeps of what it is given; a scalar keeps nothing
abbrev pub kept_by : Kind → List ℕ → List ℕ
kept_by OfItems xs = xs
kept_by OfPairs xs = xs
kept_by (OfValue v) xs = []

-- an object: its kind, and what it keeps of what it was given
pub record Kept : Type 0 where
  pub kind : Kind
  pub given : List ℕ

-- the stack and the memo, which hold object numbers, and the objects by number
pub record Arena : Type 0 where
  pub shape : Shape ℕ
  pub kept : List Kept

-- the empty arena
abbrev pub no_object : Arena
no_object = record { shape = record { entries = []; memo = [] }; kept = [] }

-- the kind of an object
abbrev pub kind_at : List Kept → ℕ → Option Kind
kind_at ks n = option_map (λ k. k.kind) (slice_get ks n)

-- what an object keeps, if it exists
abbrev pub kept_in : Option Kind → List ℕ → List ℕ
kept_in (Some kind) xs = kept_by kind xs
kept_in None xs = xs

-- what an object was given
abbrev pub given_in : Option Kept → List ℕ
given_in (Some k) = k.given
given_in None = []

-- what object n was given
abbrev pub given_at : List Kept → ℕ → List ℕ
given_at ks n = given_in (slice_get ks n)

-- what each object contains
abbrev pub holds : List Kept → Heap
holds ks n = option_map (held_by (kind_at ks) (given_at ks n)) (kind_at ks n)

-- the object after it receives more
abbrev pub more_given : List ℕ → Kept → Kept
more_given xs k = record { kind = k.kind; given = kept_by k.kind (k.given ++ xs) }

-- the list with its nth item replaced by f of it
abbrev pub update : {A : Type 0} → List A → ℕ → (A → A) → List A
update [] n f = []
update (x ∷ xs) zero f = f x ∷ xs
update (x ∷ xs) (suc n) f = x ∷ update xs n f

-- the first object receives the others
abbrev pub received : List ℕ → List Kept → List Kept
received [] ks = ks
received (r ∷ xs) ks = update ks r (more_given xs)

-- the kind is a text
abbrev pub is_text_kind : Option Kind → Bool
is_text_kind (Some (OfValue (string t))) = true
is_text_kind k = false

-- all these objects are texts
abbrev pub are_text_kinds : List Kept → List ℕ → Bool
are_text_kinds ks [] = true
are_text_kinds ks (n ∷ ns) = cond (is_text_kind (kind_at ks n)) (are_text_kinds ks ns) false
