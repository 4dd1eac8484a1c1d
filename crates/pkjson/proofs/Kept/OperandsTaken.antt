-- What is taken from the stack, and that it is of objects that there are.
use Rattle.std.proofs.lemmas.Option.{same_Some}
use Rattle.std.proofs.Common.{◌≡◌, ℕ, zero, suc, ◌<◌, Bool, true, false, cond, List, [], ◌∷◌}
use Rattle.std.proofs.Common.{length, Option, Some, None, Result, Ok, Err, refl, sym, ap, ◌∙◌}
use Rattle.std.proofs.Common.{subst}
use Rattle.std.specs.Ordering.{nat_cmp, match_ordering, is_eq}
use Rattle.std.specs.declared.cmp.Ordering.{Ordering}
use Rattle.std.specs.declared.cmp.Ordering.TheVariants.{Less, Equal, Greater}
use Rattle.pkstack.specs.declared.Takes.{Takes as TakesOf}
use Rattle.pkstack.specs.declared.Takes.TheVariants as takes
use Rattle.pkstack.specs.Shape.{Breach, Entry, Mark, Item, Shape, Taken, and_then, unless, breaks}
use Rattle.pkstack.specs.Shape.{items, slice, operands, top, stored, recalled, fetched, popped}
use Rattle.pkstack.specs.Shape.{moved}
use Rattle.pkstack.specs.declared.Move.{Move}
use Rattle.pkstack.specs.declared.Move.TheVariants as move
use Rattle.pkjson.specs.declared.action.Takes.{Takes}
use Rattle.pkjson.specs.declared.action.Takes.TheVariants.{Objects, Slice}
use Rattle.pkjson.specs.Private.PlainActions.{picked, found_above, TakesSame, TakesAbove}
use Rattle.pkjson.specs.Plain.{rest_of}
use Rattle.pkjson.specs.Private.Mirrors.{AreBelow, EntriesBelow, CellsBelow, IsHeld}

pub ok_same : {A : Type 0} (a b : A) → ◌≡◌ {A = Result A Breach} (Ok a) (Ok b) → a ≡ b
ok_same a b e = cc

-- an answer that follows from another
pub then_ok : {A B : Type 0} (x : Result A Breach) (f : A → Result B Breach) (b : B)
    → and_then x f ≡ Ok b → (a : A) × (x ≡ Ok a) × (f a ≡ Ok b)
then_ok (Ok a) f b e = (a, refl, e)
then_ok (Err r) f b e = cc

unless_ok : {A : Type 0} (o : Option Breach) (x : Result A Breach) (v : A) → unless o x ≡ Ok v
    → x ≡ Ok v
unless_ok None x v e = e
unless_ok (Some b) x v e = cc

pub found_of : (t : Takes) (u : TakesOf) (es : List (Entry ℕ)) (v : Taken ℕ) → TakesSame t u
    → operands u es ≡ Ok v → picked t es ≡ Ok v
found_of (Objects k) (takes.Objects n) es v h e = subst (λ z. items z es [] ≡ Ok v) h e
found_of Slice (takes.Slice rule) es v h e = let i = then_ok (slice es [])
    (λ t. unless (breaks rule t.operands) (Ok t)) v e in
    i.1 ∙ unless_ok (breaks rule i.0.operands) (Ok i.0) v i.2
found_of t u es v h e = absurd h

items_more : (k : ℕ) (es : List (Entry ℕ)) (above : List ℕ)
    → items (suc k) es above ≡ and_then (items k es above) (λ t. items 1 t.below t.operands)
items_more (suc k) (Item x ∷ es) above = items_more k es (x ∷ above)
items_more k es above = refl

pub above_of : (t : Takes) (u : TakesOf) (es : List (Entry ℕ)) (v : Taken ℕ) → TakesAbove t u
    → operands u es ≡ Ok v → found_above t es ≡ Ok v
above_of (Objects k) (takes.Objects n) es v h e = sym (items_more k es [])
    ∙ subst (λ z. items z es [] ≡ Ok v) h e
above_of Slice (takes.SliceAndReceiver rule) es v h e =
    let i = then_ok (slice es [])
    (λ t. and_then (items 1 t.below t.operands) (λ u. unless (breaks rule t.operands) (Ok u))) v
    e in
    let j = then_ok (items 1 i.0.below i.0.operands)
    (λ u. unless (breaks rule i.0.operands) (Ok u)) v i.2 in
    ap (λ x. and_then x (λ t. items 1 t.below t.operands)) i.1 ∙ j.1
    ∙ unless_ok (breaks rule i.0.operands) (Ok j.0) v j.2
above_of t u es v h e = absurd h

-- below a number
abbrev pub TakenBelow : ℕ → Taken ℕ → Type 0
TakenBelow n v = AreBelow n v.operands × EntriesBelow n v.below

items_below : (n k : ℕ) (es : List (Entry ℕ)) (above : List ℕ) (v : Taken ℕ) → EntriesBelow n es
    → AreBelow n above → items k es above ≡ Ok v → TakenBelow n v
items_below n zero es above v h g e = subst (TakenBelow n) (ok_same _ v e) (g, h)
items_below n (suc k) (Item x ∷ es) above v h g e = items_below n k es (x ∷ above) v h.1 (h.0, g) e
items_below n (suc k) es above v h g e = cc

slice_below : (n : ℕ) (es : List (Entry ℕ)) (above : List ℕ) (v : Taken ℕ) → EntriesBelow n es
    → AreBelow n above → slice es above ≡ Ok v → TakenBelow n v
slice_below n (Item x ∷ es) above v h g e = slice_below n es (x ∷ above) v h.1 (h.0, g) e
slice_below n (Mark ∷ es) above v h g e = subst (TakenBelow n) (ok_same _ v e) (g, h)
slice_below n [] above v h g e = cc

pub found_below : (n : ℕ) (t : Takes) (es : List (Entry ℕ)) (v : Taken ℕ) → EntriesBelow n es
    → picked t es ≡ Ok v → TakenBelow n v
found_below n (Objects k) es v h e = items_below n k es [] v h tt e
found_below n Slice es v h e = slice_below n es [] v h tt e

pub above_below : (n : ℕ) (t : Takes) (es : List (Entry ℕ)) (v : Taken ℕ) → EntriesBelow n es
    → found_above t es ≡ Ok v → TakenBelow n v
above_below n t es v h e =
    let i = then_ok (picked t es) (λ t. items 1 t.below t.operands) v e in
    let b = found_below n t es i.0 h i.1 in
    items_below n 1 i.0.below i.0.operands v b.1 b.0 i.2

pub top_below : (n : ℕ) (es : List (Entry ℕ)) (p : ℕ × List (Entry ℕ)) → EntriesBelow n es
    → top es ≡ Ok p → p.0 < n
top_below n (Item x ∷ es) p h e = subst (λ z. z.0 < n) (ok_same _ p e) h.0
top_below n es p h e = cc

pop_below : (n : ℕ) (es : List (Entry ℕ)) (h g : Shape ℕ) → EntriesBelow n es → CellsBelow n h.memo
    → popped es h ≡ Ok g → IsHeld n g
pop_below n [] h g b m e = cc
pop_below n (Mark ∷ es) h g b m e = subst (IsHeld n) (ok_same _ g e)
    (record { entries = b; memo = m })
pop_below n (Item x ∷ es) h g b m e = subst (IsHeld n) (ok_same _ g e)
    (record { entries = b.1; memo = m })

put_below : (n k x : ℕ) (o : Ordering) (c : ℕ × ℕ) (cs ds : List (ℕ × ℕ)) → x < n
    → CellsBelow n (c ∷ cs) → CellsBelow n ds → CellsBelow n
    (match_ordering o ((k, x) ∷ c ∷ cs) ((c.0, x) ∷ cs) (c ∷ ds))
put_below n k x Less c cs ds l h g = (l, h)
put_below n k x Equal c cs ds l h g = (l, h.1)
put_below n k x Greater c cs ds l h g = (h.0, g)

stored_below : (n k x : ℕ) (cs : List (ℕ × ℕ)) → x < n → CellsBelow n cs
    → CellsBelow n (stored k x cs)
stored_below n k x [] l h = (l, tt)
stored_below n k x (c ∷ cs) l h = put_below n k x (nat_cmp k c.0) c cs (stored k x cs) l h
    (stored_below n k x cs l h.1)

cond_below : (n : ℕ) (b : Bool) (y x : ℕ) (o : Option ℕ) → y < n → (o ≡ Some x → x < n)
    → cond b (Some y) o ≡ Some x → x < n
cond_below n true y x o l f e = subst (λ z. z < n) (same_Some y x e) l
cond_below n false y x o l f e = f e

recalled_below : (n k x : ℕ) (cs : List (ℕ × ℕ)) → CellsBelow n cs → recalled k cs ≡ Some x → x < n
recalled_below n k x [] h e = cc
recalled_below n k x (c ∷ cs) h e = cond_below n (is_eq (nat_cmp k c.0)) c.1 x (recalled k cs) h.0
    (recalled_below n k x cs h.1) e

fetch_below : (n k : ℕ) (o : Option ℕ) (h g : Shape ℕ) → IsHeld n h → ((x : ℕ) → o ≡ Some x → x < n)
    → fetched o k h ≡ Ok g → IsHeld n g
fetch_below n k None h g b f e = cc
fetch_below n k (Some x) h g b f e = subst (IsHeld n) (ok_same _ g e)
    (record { entries = (f x refl, b.entries); memo = b.memo })

pub moved_below : (n : ℕ) (m : Move) (k : ℕ) (h g : Shape ℕ) → IsHeld n h
    → moved m k h ≡ Ok g → IsHeld n g
moved_below n move.PushesMark k h g b e = subst (IsHeld n) (ok_same _ g e)
    (record { entries = b.entries; memo = b.memo })
moved_below n move.Pops k h g b e = pop_below n h.entries h g b.entries b.memo e
moved_below n move.PopsMark k h g b e =
    let i = then_ok (slice h.entries []) (λ t. Ok (record h { entries = t.below })) g e in
    subst (IsHeld n) (ok_same _ g i.2)
    (record { entries = (slice_below n h.entries [] i.0 b.entries tt i.1).1; memo = b.memo })
moved_below n move.Duplicates k h g b e =
    let i = then_ok (top h.entries) (λ t. Ok (record h { entries = Item t.0 ∷ h.entries })) g e in
    subst (IsHeld n) (ok_same _ g i.2)
    (record { entries = (top_below n h.entries i.0 b.entries i.1, b.entries); memo = b.memo })
moved_below n move.Stores k h g b e =
    let i = then_ok (top h.entries) (λ t. Ok (record h { memo = stored k t.0 h.memo })) g e in
    subst (IsHeld n) (ok_same _ g i.2)
    (record {
      entries = b.entries;
      memo = stored_below n k i.0.0 h.memo (top_below n h.entries i.0 b.entries i.1) b.memo;
    })
moved_below n move.StoresNext k h g b e =
    let i = then_ok (top h.entries)
    (λ t. Ok (record h { memo = stored (length h.memo) t.0 h.memo })) g e in
    subst (IsHeld n) (ok_same _ g i.2)
    (record {
      entries = b.entries;
      memo = stored_below n (length h.memo) i.0.0 h.memo
          (top_below n h.entries i.0 b.entries i.1) b.memo;
    })
moved_below n move.Fetches k h g b e = fetch_below n k (recalled k h.memo) h g b
    (λ x q. recalled_below n k x h.memo b.memo q) e
moved_below n move.NoOp k h g b e = subst (IsHeld n) (ok_same _ g e) b
moved_below n move.Extends k h g b e = cc

items_one : (es : List (Entry ℕ)) (above : List ℕ) (v : Taken ℕ) → items 1 es above ≡ Ok v
    → (r : ℕ) × (fs : List (Entry ℕ)) × (v ≡ record { operands = r ∷ above; below = fs })
items_one (Item r ∷ es) above v e = (r, es, sym (ok_same _ v e))
items_one es above v e = cc

-- what receives the rest stands first
pub above_first : (t : Takes) (es : List (Entry ℕ)) (v : Taken ℕ) → found_above t es ≡ Ok v
    → (r : ℕ) × (xs : List ℕ) × (fs : List (Entry ℕ))
    × (v ≡ record { operands = r ∷ xs; below = fs })
above_first t es v e =
    let i = then_ok (picked t es) (λ t. items 1 t.below t.operands) v e in
    let j = items_one i.0.below i.0.operands v i.2 in
    (j.0, i.0.operands, j.1, j.2)

-- and behind it what is taken without it
pub above_rest : (t : Takes) (es : List (Entry ℕ)) (v : Taken ℕ) → found_above t es ≡ Ok v
    → (w : Taken ℕ) × (picked t es ≡ Ok w) × (rest_of v.operands ≡ w.operands)
above_rest t es v e =
    let i = then_ok (picked t es) (λ t. items 1 t.below t.operands) v e in
    let j = items_one i.0.below i.0.operands v i.2 in
    (i.0, i.1, ap (λ u. rest_of u.operands) j.2)
