-- Objects in their final state.
use Rattle.std.specs.Prelude.{◌≡◌, ◌<◌, ℕ, List, [], ◌∷◌, ◌++◌, All, length, Vec}
use Rattle.std.specs.Borrow.{Bor}
use Rattle.std.proofs.Common.{◌≡◌, ℕ, List, length, Vec, Global}
use Rattle.pkjson.specs.declared.node.Node.{Node}
use Rattle.pkjson.specs.declared.objects.Object.{Object}
use Rattle.pkjson.specs.declared.objects.Object.TheVariants.{Pairs}
use Rattle.pkjson.specs.Contents.{held_by}
use Rattle.pkjson.specs.Private.Arena.{Kept, kind_at}
use Rattle.pkjson.specs.Private.Nodes.{content, IsBelow, IsOrdered}
use Rattle.pkjson.specs.Private.Ranks.{AreMembers}

-- each object was given only objects with numbers below n
abbrev pub AreGivenBelow : ℕ → List Kept → Type 0
AreGivenBelow n ks = All (λ k. All (λ x. x < n) k.given) ks

-- the node has what the object contains
pub record Settles (all : List Kept) (k : Kept) (node : Node) : Type 0 where
  pub content : content node ≡ held_by (kind_at all) k.given k.kind
  pub below : IsBelow (length all) node
  pub ordered : IsOrdered node

-- each node has what its object contains
abbrev pub AreSettled : List Kept → List Kept → List Node → Type 0
AreSettled all [] [] = Unit {0}
AreSettled all (k ∷ ks) (n ∷ ns) = Settles all k n × AreSettled all ks ns
AreSettled all ks ns = ⊥

-- the members of a dict that was given these are added, unless these are none
abbrev pub AddsMembers : List Kept → ℕ → List ℕ
    → (old new : List (Vec (Bor (List ℕ) × ℕ) Global)) → Type 0
AddsMembers all n [] old new = new ≡ old
AddsMembers all n (x ∷ xs) old new =
    (d : Vec (Bor (List ℕ) × ℕ) Global) × (new ≡ old ++ d ∷ []) × AreMembers all n (x ∷ xs) d.items

-- if the object is a dict that was given some, its members are added
abbrev pub Adds : List Kept → ℕ → Object → (old new : List (Vec (Bor (List ℕ) × ℕ) Global)) → Type 0
Adds all n (Pairs v) old new = AddsMembers all n v.items old new
Adds all n o old new = new ≡ old
