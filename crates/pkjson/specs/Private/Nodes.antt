-- The contents of objects in their final state.
use Rattle.std.specs.Prelude.{◌≡◌, ℕ, ◌<◌, List, [], ◌∷◌, length, map, All, Option, Some, None, Vec}
use Rattle.std.specs.Prelude.{option_map, slice_get, string_bytes}
use Rattle.std.specs.Borrow.{Bor}
use Rattle.std.proofs.Common.{◌≡◌, ℕ, List, length, Vec, Global}
use Rattle.std.specs.Ordering.{nat_cmp}
use Rattle.std.specs.Cmp.Lexicographic.{slice_cmp}
use Rattle.std.specs.declared.cmp.Ordering.TheVariants.{Greater}
use Rattle.serde_json.specs.Data.{null, boolean, number, string}
use Rattle.serde_json.specs.Find.{of_integer}
use Rattle.pkjson.specs.declared.node.Node.{Node}
use Rattle.pkjson.specs.declared.node.Node.TheVariants.{Null, Bool, Int, Text, List as Items, Dict}
use Rattle.pkjson.specs.declared.objects.Object.{Object}
use Rattle.pkjson.specs.declared.objects.Object.TheVariants as object
use Rattle.pkjson.specs.declared.settled.Settled.{Settled}
use Rattle.pkjson.specs.Unfolds.{Content, Scalar, Sequence, Pairs, Heap}

-- members as values, whatever memory holds their keys
abbrev pub named_members : List (Bor (List ℕ) × ℕ) → List (List ℕ × ℕ)
named_members ps = map (λ p. (p.0.now, p.1)) ps

-- the contents of a node
abbrev pub content : Node → Content
content Null = Scalar null
content (Bool b) = Scalar (boolean b)
content (Int i) = Scalar (number (of_integer i))
content (Text t) = Scalar (string t.now)
content (Items v) = Sequence v.now
content (Dict v) = Pairs (named_members v.now)

-- the members at a place among those of all dicts, if they are there
abbrev pub members_in : Option (Vec (Bor (List ℕ) × ℕ) Global) → List (Bor (List ℕ) × ℕ)
members_in (Some v) = v.items
members_in None = []

-- the members of a dict that was given these: none if these are none, and else those at this place
abbrev pub members_of : List ℕ → List (Vec (Bor (List ℕ) × ℕ) Global) → ℕ → List (Bor (List ℕ) × ℕ)
members_of [] dicts place = []
members_of (x ∷ xs) dicts place = members_in (slice_get dicts place)

-- the bytes or numbers, lent
abbrev pub lent : {A : Type 0} → A → Bor A
lent a = record { ref_ptr = (0, 0); now = a }

-- what the object holds; the members of a dict that was given some are at this place
abbrev pub node_of : List (Vec (Bor (List ℕ) × ℕ) Global) → ℕ → Object → Node
node_of dicts place (object.Items v) = Items (lent v.items)
node_of dicts place (object.Single n) = Items (lent (n ∷ []))
node_of dicts place (object.Pairs v) = Dict (lent (members_of v.items dicts place))
node_of dicts place object.Null = Null
node_of dicts place (object.Bool b) = Bool b
node_of dicts place (object.Int i) = Int i
node_of dicts place (object.Lent t) = Text t
node_of dicts place (object.Decoded t) = Text (lent (string_bytes t))

-- what the objects hold
abbrev pub nodes_from : List (Vec (Bor (List ℕ) × ℕ) Global) → List Object → List ℕ → List Node
nodes_from dicts [] ps = []
nodes_from dicts (o ∷ os) [] = node_of dicts 0 o ∷ nodes_from dicts os []
nodes_from dicts (o ∷ os) (p ∷ ps) = node_of dicts p o ∷ nodes_from dicts os ps

-- what all objects hold
abbrev pub nodes_of : Settled → List Node
nodes_of s = nodes_from s.dicts.items s.objects.now s.places.items

-- the number of objects
abbrev pub size : Settled → ℕ
size s = length s.objects.now

-- what each object contains
abbrev pub heap_of : List Node → Heap
heap_of ns x = option_map content (slice_get ns x)

-- what each settled object contains
abbrev pub heap : Settled → Heap
heap s = heap_of (nodes_of s)

-- the node refers only to numbers below n
abbrev pub IsBelow : ℕ → Node → Type 0
IsBelow n (Items v) = All (λ x. x < n) v.now
IsBelow n (Dict v) = All (λ p. p.1 < n) v.now
IsBelow n m = Unit {0}

-- each node refers only to existing objects
unfoldable pub IsClosed : Settled → Type 0
IsClosed s = (x : ℕ) (m : Node) → slice_get (nodes_of s) x ≡ Some m → IsBelow (size s) m

-- all keys are greater than this one
abbrev pub AllAbove : List ℕ → List (List ℕ × ℕ) → Type 0
AllAbove k [] = Unit {0}
AllAbove k (p ∷ ps) = (slice_cmp nat_cmp p.0 k ≡ Greater) × AllAbove k ps

-- the keys are strictly ascending
abbrev pub Ascending : List (List ℕ × ℕ) → Type 0
Ascending [] = Unit {0}
Ascending (p ∷ ps) = AllAbove p.0 ps × Ascending ps

-- the keys of a dict are ascending
abbrev pub IsOrdered : Node → Type 0
IsOrdered (Dict v) = Ascending (named_members v.now)
IsOrdered n = Unit {0}

-- the keys of each dict are ascending
unfoldable pub AreOrdered : Settled → Type 0
AreOrdered s = (x : ℕ) (n : Node) → slice_get (nodes_of s) x ≡ Some n → IsOrdered n

-- the second node holds what the first one does
pub record Shows (m n : Node) : Type 0 where
  pub content : content m ≡ content n
  pub below : (k : ℕ) → IsBelow k m → IsBelow k n
  pub ordered : IsOrdered m → IsOrdered n

-- the node is what the object with number x holds
pub record IsNode (s : Settled) (x : ℕ) (n : Node) : Type 0 where
  pub held : heap s x ≡ Some (content n)
  pub below : IsClosed s → IsBelow (size s) n
  pub ordered : AreOrdered s → IsOrdered n
