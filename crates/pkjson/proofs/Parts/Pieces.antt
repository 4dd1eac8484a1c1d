-- What is written of the parts makes what is written of the whole.
use Rattle.std.proofs.Common.{◌≡◌, ℕ, zero, suc, ◌+◌, ◌-◌, ◌<◌, ◌≤◌, Bool, true, false, List, []}
use Rattle.std.proofs.Common.{◌∷◌, ◌++◌, length, take, drop, get_or, Option, refl, sym}
use Rattle.std.proofs.Common.{ap, ◌∙◌, subst, arith, append_assoc, append-nil, length-append}
use Rattle.std.specs.Prelude.{nat_lt, slice_range}
use Rattle.std.specs.Io.KnownBytes.{Appends}
use Rattle.std.proofs.Math.Seq.{take-add}
use Rattle.std.proofs.lemmas.Bool.{lt-ltb}
use Rattle.std.specs.List.{drop-map}
use Rattle.std.proofs.lemmas.List.{take_at, take-map}
use Rattle.std.proofs.lemmas.List.Edits.{length-between}
use Rattle.serde_json.specs.Data.{array, object, string, Items, no_items, item, Members, no_members}
use Rattle.serde_json.specs.Data.{member}
use Rattle.serde_json.specs.Written.{comma_if, compact_text, items_text, members_text}
use Rattle.pkcheck.specs.Appended.{appends_none, appends_then}
use Rattle.pkjson.specs.Unfolds.{Sequence, Pairs, Heap, UnfoldItems, UnfoldMembers}
use Rattle.pkjson.specs.Private.Nodes.{named_members}
use Rattle.pkjson.specs.Private.Parts.{IsArrayText, IsObjectText}
use Rattle.pkjson.specs.Private.Pieces.{Writes, WritesItems, WritesMembers, items_inside}
use Rattle.pkjson.specs.Private.Pieces.{members_inside}
use Rattle.pkjson.specs.Private.Sends.{IsCompact}
use Rattle.pkjson.proofs.Parts.NodesHeld.{Holds, Member, no_member}
use Rattle.pkjson.proofs.Parts.Sent.{named_length}

-- the last of four lists stands apart
last_apart : (a b c d : List ℕ) → a ++ (b ++ (c ++ d)) ≡ (a ++ (b ++ c)) ++ d
last_apart a b c d =
    ap (λ (l : List ℕ). a ++ l) (sym (append_assoc b c d)) ∙ sym (append_assoc a (b ++ c) d)

items_closed : (later : Bool) (vs : Items) → items_text later vs ≡ items_inside later vs ++ 93 ∷ []
items_closed later no_items = refl
items_closed later (item v vs) =
    ap (λ (l : List ℕ). comma_if later ++ (compact_text v ++ l)) (items_closed true vs)
    ∙ last_apart (comma_if later) (compact_text v) (items_inside true vs) (93 ∷ [])

members_closed : (later : Bool) (ms : Members)
    → members_text later ms ≡ members_inside later ms ++ 125 ∷ []
members_closed later no_members = refl
members_closed later (member k v ms) =
    ap
    (λ (l : List ℕ). comma_if later
    ++ (compact_text (string k) ++ 58 ∷ (compact_text v ++ l)))
    (members_closed true ms)
    ∙ ap
    (λ (l : List ℕ). comma_if later ++ (compact_text (string k) ++ 58 ∷ l))
    (sym (append_assoc (compact_text v) (members_inside true ms) (125 ∷ [])))
    ∙ last_apart (comma_if later) (compact_text (string k))
    (58 ∷ (compact_text v ++ members_inside true ms)) (125 ∷ [])

-- a text without its first and its last byte
inside_is : (a b : ℕ) (t : List ℕ)
    → slice_range (a ∷ (t ++ b ∷ [])) 1 (length (a ∷ (t ++ b ∷ [])) - 1) ≡ t
inside_is a b t = take_at t (b ∷ []) _ (omega (arith, length-append t (b ∷ [])))

inside_of : (a b : ℕ) (t text : List ℕ) → text ≡ a ∷ (t ++ b ∷ [])
    → slice_range text 1 (length text - 1) ≡ t
inside_of a b t text e =
    ap (λ (l : List ℕ). slice_range l 1 (length l - 1)) e ∙ inside_is a b t

two_long : (a b : ℕ) (t text : List ℕ) → text ≡ a ∷ (t ++ b ∷ []) → 2 ≤ length text
two_long a b t text e = omega (arith, ap length e, length-append t (b ∷ []))

array_closed : (vs : Items) → compact_text (array vs) ≡ 91 ∷ (items_inside false vs ++ 93 ∷ [])
array_closed vs = ap (λ (l : List ℕ). 91 ∷ l) (items_closed false vs)

object_closed : (ms : Members)
    → compact_text (object ms) ≡ 123 ∷ (members_inside false ms ++ 125 ∷ [])
object_closed ms = ap (λ (l : List ℕ). 123 ∷ l) (members_closed false ms)

-- a list that is known to be longer
grown : {A : Type 0} (xs : List A) (n m : ℕ) → n < m → take m xs ≡ take n xs ++ slice_range xs n m
grown xs n m l = let e : m ≡ n + (m - n) = omega (arith, l) in
    ap (λ k. take k xs) e ∙ take-add n (m - n) xs

-- one after the other
abbrev both : Items → Items → Items
both no_items ws = ws
both (item v vs) ws = item v (both vs ws)

abbrev both_members : Members → Members → Members
both_members no_members ws = ws
both_members (member k v vs) ws = member k v (both_members vs ws)

-- whether a comma stands before what follows these
abbrev items_later : Bool → Items → Bool
items_later later no_items = later
items_later later (item v vs) = items_later true vs

abbrev members_later : Bool → Members → Bool
members_later later no_members = later
members_later later (member k v vs) = members_later true vs

both_inside : (later : Bool) (vs ws : Items) → items_inside later (both vs ws)
    ≡ items_inside later vs ++ items_inside (items_later later vs) ws
both_inside later no_items ws = refl
both_inside later (item v vs) ws =
    ap (λ (l : List ℕ). comma_if later ++ (compact_text v ++ l)) (both_inside true vs ws)
    ∙ last_apart (comma_if later) (compact_text v) (items_inside true vs)
    (items_inside (items_later true vs) ws)

both_members_inside : (later : Bool) (vs ws : Members)
    → members_inside later (both_members vs ws)
    ≡ members_inside later vs ++ members_inside (members_later later vs) ws
both_members_inside later no_members ws = refl
both_members_inside later (member k v vs) ws =
    let rest = members_inside (members_later true vs) ws in
    ap
    (λ (l : List ℕ). comma_if later
    ++ (compact_text (string k) ++ 58 ∷ (compact_text v ++ l)))
    (both_members_inside true vs ws)
    ∙ ap
    (λ (l : List ℕ). comma_if later ++ (compact_text (string k) ++ 58 ∷ l))
    (sym (append_assoc (compact_text v) (members_inside true vs) rest))
    ∙ last_apart (comma_if later) (compact_text (string k))
    (58 ∷ (compact_text v ++ members_inside true vs)) rest

items_later_true : (vs : Items) → items_later true vs ≡ true
items_later_true no_items = refl
items_later_true (item v vs) = items_later_true vs

members_later_true : (vs : Members) → members_later true vs ≡ true
members_later_true no_members = refl
members_later_true (member k v vs) = members_later_true vs

-- a list of one
single : {A : Type 0} (xs : List A) (d : A) → length xs ≡ 1 → xs ≡ get_or xs 0 d ∷ []
single (x ∷ []) d e = refl
single xs d e = absurd (omega (arith, e))

-- some of the members by their keys
pub named_some : (ps : List Member) (n m : ℕ)
    → named_members (slice_range ps n m) ≡ slice_range (named_members ps) n m
named_some ps n m = sym (take-map _ (m - n) (drop n ps))
    ∙ ap (λ (l : List (List ℕ × ℕ)). take (m - n) l) (sym (drop-map _ n ps))

module _ (h : Heap) where
  unfold_both : (xs ys : List ℕ) (vs ws : Items) → UnfoldItems h xs vs → UnfoldItems h ys ws
      → UnfoldItems h (xs ++ ys) (both vs ws)
  unfold_both [] ys no_items ws u t = t
  unfold_both (x ∷ xs) ys (item v vs) ws u t = (u.0, unfold_both xs ys vs ws u.1 t)
  unfold_both xs ys vs ws u t = absurd u

  unfold_both_members : (xs ys : List (List ℕ × ℕ)) (vs ws : Members) → UnfoldMembers h xs vs
      → UnfoldMembers h ys ws → UnfoldMembers h (xs ++ ys) (both_members vs ws)
  unfold_both_members [] ys no_members ws u t = t
  unfold_both_members (x ∷ xs) ys (member k v vs) ws u t =
      (u.0, u.1, unfold_both_members xs ys vs ws u.2 t)
  unfold_both_members xs ys vs ws u t = absurd u

  -- the comma before the first of these stands apart
  items_apart : (xs : List ℕ) (vs : Items) (later : Bool) → 0 < length xs → UnfoldItems h xs vs
      → items_inside later vs ≡ comma_if later ++ items_inside false vs
  items_apart (x ∷ xs) (item v vs) later l u = refl
  items_apart [] vs later l u = absurd (omega (arith, l))
  items_apart (x ∷ xs) no_items later l u = absurd u

  members_apart : (xs : List (List ℕ × ℕ)) (vs : Members) (later : Bool) → 0 < length xs
      → UnfoldMembers h xs vs
      → members_inside later vs ≡ comma_if later ++ members_inside false vs
  members_apart (x ∷ xs) (member k v vs) later l u = refl
  members_apart [] vs later l u = absurd (omega (arith, l))
  members_apart (x ∷ xs) no_members later l u = absurd u

  -- it stands there if there are some before
  items_begun : (n : ℕ) (xs : List ℕ) (vs : Items) → n ≤ length xs → UnfoldItems h (take n xs) vs
      → items_later false vs ≡ nat_lt 0 n
  items_begun zero xs no_items l u = refl
  items_begun (suc n) (x ∷ xs) (item v vs) l u =
      items_later_true vs ∙ sym (lt-ltb 0 (suc n) (omega arith))
  items_begun (suc n) [] vs l u = absurd (omega (arith, l))
  items_begun n xs vs l u = absurd u

  members_begun : (n : ℕ) (xs : List (List ℕ × ℕ)) (vs : Members) → n ≤ length xs
      → UnfoldMembers h (take n xs) vs → members_later false vs ≡ nat_lt 0 n
  members_begun zero xs no_members l u = refl
  members_begun (suc n) (x ∷ xs) (member k v vs) l u =
      members_later_true vs ∙ sym (lt-ltb 0 (suc n) (omega arith))
  members_begun (suc n) [] vs l u = absurd (omega (arith, l))
  members_begun n xs vs l u = absurd u

  module _ (n m : ℕ) (a b c d : Option (List ℕ)) where
    pub more_items : (xs : List ℕ) → n < m → m ≤ length xs → WritesItems h (take n xs) a b
        → Appends b c (comma_if (nat_lt 0 n)) → WritesItems h (slice_range xs n m) c d
        → WritesItems h (take m xs) a d
    unfolding WritesItems
    more_items xs l k w p s =
        let some : 0 < length (slice_range xs n m) = omega (arith, l, length-between xs n m k) in
        let begun = items_begun n xs w.0 (omega (arith, l, k)) w.1 in
        let is = both_inside false w.0 s.0 ∙ ap (λ (t : List ℕ). items_inside false w.0 ++ t)
        (items_apart (slice_range xs n m) s.0 (items_later false w.0) some s.1
        ∙ ap (λ later. comma_if later ++ items_inside false s.0) begun) in (
          both w.0 s.0,
          rw (grown xs n m l) (unfold_both (take n xs) (slice_range xs n m) w.0 s.0 w.1 s.1),
          rw is (appends_then a b d (items_inside false w.0) _ w.2
              (appends_then b c d (comma_if (nat_lt 0 n)) (items_inside false s.0) p s.2)),
        )

    more_pairs : (xs : List (List ℕ × ℕ)) → n < m → m ≤ length xs
        → WritesMembers h (take n xs) a b → Appends b c (comma_if (nat_lt 0 n))
        → WritesMembers h (slice_range xs n m) c d → WritesMembers h (take m xs) a d
    unfolding WritesMembers
    more_pairs xs l k w p s =
        let some : 0 < length (slice_range xs n m) = omega (arith, l, length-between xs n m k) in
        let begun = members_begun n xs w.0 (omega (arith, l, k)) w.1 in
        let is = both_members_inside false w.0 s.0
        ∙ ap (λ (t : List ℕ). members_inside false w.0 ++ t)
        (members_apart (slice_range xs n m) s.0 (members_later false w.0) some s.1
        ∙ ap (λ later. comma_if later ++ members_inside false s.0) begun) in (
          both_members w.0 s.0,
          subst (λ ys. UnfoldMembers h ys (both_members w.0 s.0)) (sym (grown xs n m l))
              (unfold_both_members (take n xs) (slice_range xs n m) w.0 s.0 w.1 s.1),
          rw is (appends_then a b d (members_inside false w.0) _ w.2
              (appends_then b c d (comma_if (nat_lt 0 n)) (members_inside false s.0) p s.2)),
        )

    pub more_members : (ps : List Member) → n < m → m ≤ length ps
        → WritesMembers h (take n (named_members ps)) a b → Appends b c (comma_if (nat_lt 0 n))
        → WritesMembers h (named_members (slice_range ps n m)) c d
        → WritesMembers h (take m (named_members ps)) a d
    more_members ps l k w p s =
        more_pairs (named_members ps) l (omega (arith, k, named_length ps)) w p
        (subst (λ qs. WritesMembers h qs c d) (named_some ps n m) s)

  -- before the first, and behind the last
  pub no_items_written : (a : Option (List ℕ)) → WritesItems h [] a a
  unfolding WritesItems
  no_items_written a = (no_items, tt, appends_none a)

  pub no_members_written : (a : Option (List ℕ)) → WritesMembers h [] a a
  unfolding WritesMembers
  no_members_written a = (no_members, tt, appends_none a)

  -- one alone
  pub one_item : (xs : List ℕ) (a b : Option (List ℕ)) → length xs ≡ 1
      → Writes h (get_or xs 0 0) a b → WritesItems h xs a b
  unfolding Writes WritesItems
  one_item xs a b l w = (
    item w.0 no_items,
    subst (λ ys. UnfoldItems h ys (item w.0 no_items)) (sym (single xs 0 l)) (w.1, tt),
    subst (λ (t : List ℕ). Appends a b t) (sym (append-nil (compact_text w.0))) w.2,
  )

  one_pair : (k : List ℕ) (x : ℕ) (a b c : Option (List ℕ))
      → Appends a b (compact_text (string k) ++ 58 ∷ []) → Writes h x b c
      → WritesMembers h ((k, x) ∷ []) a c
  unfolding Writes WritesMembers
  one_pair k x a b c p w =
      let key = compact_text (string k) in
      let is = append_assoc key (58 ∷ []) (compact_text w.0)
      ∙ ap (λ (t : List ℕ). key ++ 58 ∷ t) (sym (append-nil (compact_text w.0))) in (
        member k w.0 no_members,
        (refl, w.1, tt),
        rw is at (appends_then a b c (key ++ 58 ∷ []) (compact_text w.0) p w.2),
      )

  pub one_member : (ps : List Member) (a b c : Option (List ℕ)) → length ps ≡ 1
      → Appends a b (compact_text (string (get_or ps 0 no_member).0.now) ++ 58 ∷ [])
      → Writes h (get_or ps 0 no_member).1 b c → WritesMembers h (named_members ps) a c
  one_member ps a b c l p w =
      rw (single ps no_member l) (one_pair _ _ a b c p w)

  -- a part by its text
  pub whole_written : (x : ℕ) (text : List ℕ) (a b : Option (List ℕ)) → IsCompact h x text
      → Appends a b text → Writes h x a b
  unfolding IsCompact Writes
  whole_written x text a b c p = (c.0, c.1, subst (λ (t : List ℕ). Appends a b t) c.2 p)

  pub array_long : (xs text : List ℕ) → IsArrayText h xs text → 2 ≤ length text
  unfolding IsArrayText
  array_long xs text c = two_long 91 93 _ text (c.2 ∙ array_closed c.0)

  pub object_long : (ps : List (List ℕ × ℕ)) (text : List ℕ) → IsObjectText h ps text
      → 2 ≤ length text
  unfolding IsObjectText
  object_long ps text c = two_long 123 125 _ text (c.2 ∙ object_closed c.0)

  pub array_written : (xs text : List ℕ) (a b : Option (List ℕ)) → IsArrayText h xs text
      → Appends a b (slice_range text 1 (length text - 1)) → WritesItems h xs a b
  unfolding IsArrayText WritesItems
  array_written xs text a b c p = (
    c.0,
    c.1,
    rw (inside_of 91 93 (items_inside false c.0) text (c.2 ∙ array_closed c.0)) at p,
  )

  pub object_written : (ps : List (List ℕ × ℕ)) (text : List ℕ) (a b : Option (List ℕ))
      → IsObjectText h ps text → Appends a b (slice_range text 1 (length text - 1))
      → WritesMembers h ps a b
  unfolding IsObjectText WritesMembers
  object_written ps text a b c p = (
    c.0,
    c.1,
    rw (inside_of 123 125 (members_inside false c.0) text (c.2 ∙ object_closed c.0)) at p,
  )

-- the whole between its brackets
module _ {h : Heap} {x : ℕ} (a b c d : Option (List ℕ)) where
  pub list_written : {xs : List ℕ} → Holds h x (Sequence xs) → Appends a b (91 ∷ [])
      → WritesItems h xs b c → Appends c d (93 ∷ []) → Writes h x a d
  unfolding Writes WritesItems
  list_written {xs} e p w q = (
    array w.0,
    (xs, e.is, w.1),
    rw (array_closed w.0) (appends_then a b d (91 ∷ []) _ p
        (appends_then b c d (items_inside false w.0) (93 ∷ []) w.2 q)),
  )

  pub dict_written : {ps : List (List ℕ × ℕ)} → Holds h x (Pairs ps) → Appends a b (123 ∷ [])
      → WritesMembers h ps b c → Appends c d (125 ∷ []) → Writes h x a d
  unfolding Writes WritesMembers
  dict_written {ps} e p w q = (
    object w.0,
    (ps, e.is, w.1),
    rw (object_closed w.0) (appends_then a b d (123 ∷ []) _ p
        (appends_then b c d (members_inside false w.0) (125 ∷ []) w.2 q)),
  )
