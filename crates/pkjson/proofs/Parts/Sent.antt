-- What is sent of the parts makes what is sent of the whole.
use Rattle.std.proofs.lemmas.List.{length-map, drop_all}
use Rattle.std.proofs.Common.{◌≡◌, ℕ, suc, ◌+◌, ◌<◌, ◌≤◌, ℤ, Bool, false, List, [], ◌∷◌, length}
use Rattle.std.proofs.Common.{drop, get_or, refl, ap, subst, Option, Some, None, add-one, drop-cons}
use Rattle.std.specs.Prelude.{option_map, slice_get}
use Rattle.std.specs.Borrow.{Bor}
use Rattle.std.proofs.Props.{props}
use mathlib.Core.HLevel.{Π_prop}
use Rattle.serde.specs.Event as event
use Rattle.serde.specs.Event.{Log, Logs}
use Rattle.serde.specs.declared.name.Case.TheVariants.{AsIs}
use Rattle.serde_json.specs.Data.{Num, Data, null, boolean, number, string, array, object, Items}
use Rattle.serde_json.specs.Data.{no_items, item, Members, no_members, member}
use Rattle.serde_json.specs.Events.{SendsItems, SendsMembers, items_len, members_len, number_event}
use Rattle.serde_json.specs.Find.{of_integer}
use Rattle.serde_json.specs.Sent.{IsTextOf}
use Rattle.serde_json.specs.Written.{has_float}
use Rattle.serde_json.proofs.FreeTexts.{text_of_value}
use Rattle.pkjson.proofs.Parts.NodesHeld.{Holds}
use Rattle.pkjson.specs.declared.node.Node.{Node}
use Rattle.pkjson.specs.declared.node.Node.TheVariants as node
use Rattle.pkjson.specs.Unfolds.{Scalar, Sequence, Pairs, Heap, UnfoldItems, UnfoldMembers}
use Rattle.pkjson.specs.Private.Nodes.{IsBelow, IsClosed, content, heap, named_members, nodes_of}
use Rattle.pkjson.specs.Private.Nodes.{size}
use Rattle.pkjson.specs.declared.settled.Settled.{Settled}
use Rattle.pkjson.specs.Private.Parts.{IsArrayText, IsObjectText, IsPartBelow, IsPartText}
use Rattle.pkjson.specs.Private.Parts.{SendsPart}
use Rattle.pkjson.specs.Private.Sends.{IsCompact, Sends, SendsArray, SendsObject}
use Rattle.pkjson.specs.declared.writing.Part.{Part}
use Rattle.pkjson.specs.declared.writing.Part.TheVariants as part
use Rattle.pkjson.proofs.Values.NoFloats.{floatless_in, integer_floatless, items_floatless}
use Rattle.pkjson.proofs.Values.NoFloats.{members_floatless}

module _ {h : Heap} {x : ℕ} (old new : Log) where
  pub sends_null : Holds h x (Scalar null) → Logs old new event.nothing → Sends h x old new
  unfolding Sends
  sends_null e t = (null, e.is, t)

  pub sends_bool : {b : Bool} → Holds h x (Scalar (boolean b)) → Logs old new (event.boolean b)
      → Sends h x old new
  unfolding Sends
  sends_bool {b} e t = (boolean b, e.is, t)

  pub sends_text : {s : List ℕ} → Holds h x (Scalar (string s)) → Logs old new (event.text s)
      → Sends h x old new
  unfolding Sends
  sends_text {s} e t = (string s, e.is, t)

  pub sends_int : (z : ℤ) (n : Num) → Holds h x (Scalar (number (of_integer z)))
      → n ≡ of_integer z → Logs old new (number_event n) → Sends h x old new
  unfolding Sends
  sends_int z n e is t = (
    number (of_integer z),
    e.is,
    subst (λ m. Logs old new (number_event m)) is t,
  )

  pub sends_array : {xs : List ℕ} → Holds h x (Sequence xs) → SendsArray h xs old new
      → Sends h x old new
  unfolding Sends SendsArray
  sends_array {xs} e w = (array w.0, (xs, e.is, w.1), w.2)

  pub sends_object : {ps : List (List ℕ × ℕ)} → Holds h x (Pairs ps) → SendsObject h ps old new
      → Sends h x old new
  unfolding Sends SendsObject
  sends_object {ps} e w = (object w.0, (ps, e.is, w.1), w.2)

pub named_length : (ps : List (Bor (List ℕ) × ℕ)) → length (named_members ps) ≡ length ps
named_length ps = length-map ps _

module _ (h : Heap) where
  items_length : (xs : List ℕ) (vs : Items) → UnfoldItems h xs vs → items_len vs ≡ length xs
  items_length [] no_items u = refl
  items_length (x ∷ xs) (item v vs) u = ap suc (items_length xs vs u.1)
  items_length xs vs u = absurd u

  members_length : (ps : List (List ℕ × ℕ)) (ms : Members) → UnfoldMembers h ps ms
      → members_len ms ≡ length ps
  members_length [] no_members u = refl
  members_length (p ∷ ps) (member k v ms) u = ap suc (members_length ps ms u.2)
  members_length ps ms u = absurd u

  -- whatever ends an array well from its n-th item on ends it well from the first one on
  abbrev pub ItemsSoFar : List ℕ → ℕ → Log → Log → Type 0
  ItemsSoFar xs n first here = (end : Log) (vs : Items) → UnfoldItems h (drop n xs) vs
      → SendsItems vs here end → (ws : Items) × UnfoldItems h xs ws × SendsItems ws first end

  pub no_items_sent : (xs : List ℕ) (first : Log) → ItemsSoFar xs 0 first first
  no_items_sent xs first = λ end vs u s. (vs, u, s)

  pub item_sent : (xs : List ℕ) (n : ℕ) (first here mid : Log) → n < length xs
      → ItemsSoFar xs n first here → Sends h (get_or xs n 0) here mid
      → ItemsSoFar xs (n + 1) first mid
  unfolding Sends
  item_sent xs n first here mid l far w = λ end vs u s. far end (item w.0 vs)
      (rw (drop-cons xs n 0 l) (w.1, rw add-one at u)) (mid, w.2, s)

  pub array_sent : (xs : List ℕ) (n : ℕ) (old first here end : Log) → length xs ≤ n
      → Logs old first (event.seq_begins (Some (length xs))) → ItemsSoFar xs n first here
      → Logs here end event.seq_ends → SendsArray h xs old end
  unfolding SendsArray
  array_sent xs n old first here end all begins far ends =
      let w = far end no_items (rw (drop_all n xs all) tt) ends in
      (w.0, w.1, (first, rw (items_length xs w.0 w.1) begins, w.2))

  -- the same of an object and its members
  abbrev pub MembersSoFar : List (Bor (List ℕ) × ℕ) → ℕ → Log → Log → Type 0
  MembersSoFar ps n first here = (end : Log) (ms : Members)
      → UnfoldMembers h (named_members (drop n ps)) ms → SendsMembers ms here end
      → (ws : Members) × UnfoldMembers h (named_members ps) ws × SendsMembers ws first end

  pub no_members_sent : (ps : List (Bor (List ℕ) × ℕ)) (first : Log) → MembersSoFar ps 0 first first
  no_members_sent ps first = λ end ms u s. (ms, u, s)

  pub member_sent : (ps : List (Bor (List ℕ) × ℕ)) (n : ℕ) (d : Bor (List ℕ) × ℕ)
      (first here keyed mid : Log) → n < length ps → MembersSoFar ps n first here
      → Logs here keyed (event.field_key (get_or ps n d).0.now AsIs)
      → Sends h (get_or ps n d).1 keyed mid → MembersSoFar ps (n + 1) first mid
  unfolding Sends
  member_sent ps n d first here keyed mid l far key w = λ end ms u s.
      far end (member (get_or ps n d).0.now w.0 ms)
      (rw (drop-cons ps n d l) (refl, w.1, rw add-one at u)) (keyed, mid, key, w.2, s)

  pub object_sent : (ps : List (Bor (List ℕ) × ℕ)) (n : ℕ) (old first here end : Log)
      → length ps ≤ n → Logs old first (event.map_begins (Some (length ps)))
      → MembersSoFar ps n first here → Logs here end event.map_ends
      → SendsObject h (named_members ps) old end
  unfolding SendsObject
  object_sent ps n old first here end all begins far ends =
      let w = far end no_members (rw (drop_all n ps all) tt) ends in (
        w.0,
        w.1,
        (first, rw (members_length (named_members ps) w.0 w.1, named_length ps) begins, w.2),
      )

-- whether each object names only objects that there are is a proposition
below_prop : (n : ℕ) (m : Node) → IsProp (IsBelow n m)
below_prop n (node.List v) = Prim.hlevel props
below_prop n _ = Prim.hlevel props

-- so is whether a part does
pub part_below_prop : (n : ℕ) (p : Part) → IsProp (IsPartBelow n p)
part_below_prop n (part.Object x) = Prim.hlevel props
part_below_prop n p = Prim.hlevel props

pub closed_prop : (s : Settled) → IsProp (IsClosed s)
unfolding IsClosed
closed_prop s = Π_prop (λ x. Π_prop (λ m. Π_prop (λ e. below_prop (size s) m)))

-- no node is a float
node_floatless : (n : Node) (d : Data) → content n ≡ Scalar d → has_float d ≡ false
node_floatless node.Null d e = let is : null ≡ d = cc in subst (λ v. has_float v ≡ false) is refl
node_floatless (node.Bool b) d e = let is : boolean b ≡ d = cc in
    subst (λ v. has_float v ≡ false) is refl
node_floatless (node.Int z) d e = let is : number (of_integer z) ≡ d = cc in
    subst (λ v. has_float v ≡ false) is (integer_floatless z)
node_floatless (node.Text t) d e = let is : string t.now ≡ d = cc in
    subst (λ v. has_float v ≡ false) is refl
node_floatless n d e = absurd cc

heap_floatless : (o : Option Node) (d : Data) → option_map content o ≡ Some (Scalar d)
    → has_float d ≡ false
heap_floatless None d e = absurd cc
heap_floatless (Some n) d e = node_floatless n d cc

module _ (s : Settled) where
  scalars_floatless : (x : ℕ) (d : Data) → heap s x ≡ Some (Scalar d) → has_float d ≡ false
  scalars_floatless x d e = heap_floatless (slice_get (nodes_of s) x) d e

  -- what is printed of the events of a part is its text
  pub compact : (p : Part) (text : List ℕ)
      → ((log : Log) × SendsPart (heap s) p (Some []) log × IsTextOf log text)
      → IsPartText (heap s) p text
  unfolding Sends IsCompact SendsArray IsArrayText SendsObject IsObjectText
  compact (part.Object x) text w = (
    w.1.0,
    w.1.1,
    text_of_value w.1.0 w.0 text w.1.2 w.2
        (floatless_in (heap s) scalars_floatless x w.1.0 w.1.1),
  )
  compact (part.Items xs) text w = (
    w.1.0,
    w.1.1,
    text_of_value (array w.1.0) w.0 text w.1.2 w.2
        (items_floatless (heap s) scalars_floatless xs.now w.1.0 w.1.1),
  )
  compact (part.Members ps) text w = (
    w.1.0,
    w.1.1,
    text_of_value (object w.1.0) w.0 text w.1.2 w.2
        (members_floatless (heap s) scalars_floatless (named_members ps.now) w.1.0 w.1.1),
  )
