-- A line that is read byte by byte, as the loops over escapes read it.
use Rattle.std.proofs.Common.{◌≡◌, ℕ, ◌+◌, ◌<◌, ◌≤◌, Bool, true, false, cond, List, [], ◌∷◌, ◌++◌}
use Rattle.std.proofs.Common.{length, drop, get_or, Option, Some, None, refl, sym, ap, subst, ◌∙◌}
use Rattle.std.proofs.Common.{append_assoc, arith, add-one, drop-cons, IfSome, is_some, option_map}
use Rattle.std.proofs.Common.{option_and_then, append-nil, length-drop}
use Rattle.std.proofs.lemmas.List.{nil_from_length}

-- where a line may end, where each byte leads and which item it completes, and how items are
-- written
pub record Machine : Type 1 where
  pub Point : Type 0
  pub ended : Point → Bool
  pub step : Point → ℕ → Option (Point × Option ℕ)
  pub write : List ℕ → List ℕ
  pub one : ℕ → List ℕ
  pub more : (item : ℕ) (items : List ℕ) → write (item ∷ items) ≡ one item ++ write items

-- items behind the one that just ended, if one did
abbrev pub with_item : Option ℕ → List ℕ → List ℕ
with_item None items = items
with_item (Some item) items = item ∷ items

pub alike : {A : Type 0} (a b : Option A) → ((x : A) → a ≡ Some x → b ≡ Some x)
    → ((x : A) → b ≡ Some x → a ≡ Some x) → a ≡ b
alike (Some x) b forth back = sym (forth x refl)
alike None None forth back = refl
alike None (Some x) forth back = back x refl

pub mapped : {A B : Type 0} (f : A → B) (o : Option A) (y : B) → option_map f o ≡ Some y
    → (x : A) × (o ≡ Some x) × (f x ≡ y)
mapped f None y e = absurd cc
mapped f (Some x) y e = (x, refl, cc)

pub mapped_some : {A B : Type 0} (f : A → B) (o : Option A) → is_some (option_map f o) ≡ is_some o
mapped_some f None = refl
mapped_some f (Some x) = refl

some_ended : (b : Bool) → let end : Option (List ℕ) = cond b (Some []) None in is_some end ≡ b
some_ended true = refl
some_ended false = refl

module _ (m : Machine) where
  -- the items that bytes complete, from a state on; none if they end inside one
  unfoldable pub items_from : m.Point → List ℕ → Option (List ℕ)
  items_from state [] = cond (m.ended state) (Some []) None
  items_from state (byte ∷ bytes) =
      option_and_then (λ next. option_map (with_item next.1) (items_from next.0 bytes))
      (m.step state byte)

  -- what the bytes after a step complete, behind what it completed
  abbrev behind : List ℕ → Option (m.Point × Option ℕ) → Option (List ℕ)
  behind bytes stepped =
      option_and_then (λ next. option_map (with_item next.1) (items_from next.0 bytes)) stepped

  -- ---- a byte in front

  nothing_added : (read : Option (List ℕ)) → option_map (with_item None) read ≡ read
  nothing_added None = refl
  nothing_added (Some items) = refl

  -- a byte leads to a state, and completes no item
  pub passes : (state next : m.Point) (byte : ℕ) (bytes : List ℕ)
      → m.step state byte ≡ Some (next, None)
      → items_from state (byte ∷ bytes) ≡ items_from next bytes
  unfolding items_from
  passes state next byte bytes e = rw e (nothing_added (items_from next bytes))

  -- a byte completes an item
  pub completes : (state next : m.Point) (byte item : ℕ) (bytes : List ℕ)
      → m.step state byte ≡ Some (next, Some item)
      → items_from state (byte ∷ bytes) ≡ option_map (with_item (Some item)) (items_from next bytes)
  unfolding items_from
  completes state next byte item bytes e = rw e refl

  -- ---- what holds of all that is read

  -- what holds at the end, and before each step if it holds behind it, holds of what is read
  module _ (P : m.Point → (bytes items : List ℕ) → Type 0)
      (at_end : (state : m.Point) → m.ended state ≡ true → P state [] [])
      (leads : (state : m.Point) (byte : ℕ) (bytes items : List ℕ) → IfSome (m.step state byte)
      (λ next. P next.0 bytes items → P state (byte ∷ bytes) (with_item next.1 items))) where
    ends_so : (state : m.Point) (items : List ℕ) (b : Bool) → m.ended state ≡ b
        → cond b (Some []) None ≡ Some items → P state [] items
    ends_so state items false is e = absurd cc
    ends_so state items true is e =
        let none : [] ≡ items = cc in subst (λ (xs : List ℕ). P state [] xs) none (at_end state is)

    leads_so : (state : m.Point) (byte : ℕ) (bytes all : List ℕ)
        (stepped : Option (m.Point × Option ℕ)) → ((items : List ℕ) → IfSome stepped
        (λ next. P next.0 bytes items → P state (byte ∷ bytes) (with_item next.1 items)))
        → ((next : m.Point) (items : List ℕ) → items_from next bytes ≡ Some items
        → P next bytes items) → behind bytes stepped ≡ Some all → P state (byte ∷ bytes) all
    leads_so state byte bytes all None leads ih e = absurd cc
    leads_so state byte bytes all (Some (next, item)) leads ih e =
        let read = mapped (with_item item) (items_from next bytes) all e in
        subst (λ (xs : List ℕ). P state (byte ∷ bytes) xs) read.2
        (leads read.0 (ih next read.0 read.1))

    pub read_so : (bytes : List ℕ) (state : m.Point) (items : List ℕ)
        → items_from state bytes ≡ Some items → P state bytes items
    unfolding items_from
    read_so [] state items e = ends_so state items (m.ended state) refl e
    read_so (byte ∷ bytes) state items e =
        leads_so state byte bytes items (m.step state byte) (leads state byte bytes)
        (read_so bytes) e

  -- ---- the loop

  at_place : (state : m.Point) (line : List ℕ) (i : ℕ) → i < length line
      → items_from state (drop i line) ≡ behind (drop (i + 1) line) (m.step state (get_or line i 0))
  unfolding items_from
  at_place state line i lt = rw (drop-cons line i 0, add-one) refl

  ends : (state : m.Point) (line : List ℕ) (i : ℕ) → length line ≤ i
      → items_from state (drop i line) ≡ cond (m.ended state) (Some []) None
  unfolding items_from
  ends state line i le = ap (items_from state)
      (nil_from_length (drop i line) (omega (arith, length-drop i line)))

  pub stops : (state : m.Point) (line : List ℕ) (i : ℕ) → i < length line
      → None ≡ m.step state (get_or line i 0) → items_from state (drop i line) ≡ None
  stops state line i lt e = at_place state line i lt ∙ rw (← e) refl

  goes_on : (state next : m.Point) (item : Option ℕ) (line : List ℕ) (i : ℕ) → i < length line
      → Some (next, item) ≡ m.step state (get_or line i 0)
      → items_from state (drop i line)
      ≡ option_map (with_item item) (items_from next (drop (i + 1) line))
  goes_on state next item line i lt e = at_place state line i lt ∙ rw (← e) refl

  pub some_goes_on : (state next : m.Point) (item : Option ℕ) (line : List ℕ) (i : ℕ)
      → i < length line → Some (next, item) ≡ m.step state (get_or line i 0)
      → is_some (items_from next (drop (i + 1) line)) ≡ is_some (items_from state (drop i line))
  some_goes_on state next item line i lt e =
      sym (ap is_some (goes_on state next item line i lt e)
      ∙ mapped_some (with_item item) (items_from next (drop (i + 1) line)))

  pub some_at_end : (state : m.Point) (line : List ℕ) (i : ℕ) (whole : Bool) → length line ≤ i
      → is_some (items_from state (drop i line)) ≡ whole → m.ended state ≡ whole
  some_at_end state line i whole le e =
      sym (some_ended (m.ended state)) ∙ (ap is_some (sym (ends state line i le)) ∙ e)

  -- ---- the loop that writes the items

  -- what was written, and then what is still to come
  abbrev pub joined : List ℕ → Option (List ℕ) → Option (List ℕ)
  joined front rest = option_map (λ items. front ++ m.write items) rest

  abbrev item_written : Option ℕ → List ℕ
  item_written None = []
  item_written (Some item) = m.one item

  joins : (front : List ℕ) (item : Option ℕ) (rest : Option (List ℕ))
      → joined front (option_map (with_item item) rest) ≡ joined (front ++ item_written item) rest
  joins front None None = refl
  joins front None (Some items) =
      ap (λ (t : List ℕ). Some (t ++ m.write items)) (sym (append-nil front))
  joins front (Some item) None = refl
  joins front (Some item) (Some items) = ap (λ (t : List ℕ). Some t)
      (ap (λ (t : List ℕ). front ++ t) (m.more item items)
      ∙ sym (append_assoc front (m.one item) (m.write items)))

  -- one step of the loop
  pub kept_on : (front : List ℕ) (state next : m.Point) (item : Option ℕ) (line : List ℕ) (i : ℕ)
      (all : Option (List ℕ)) → i < length line → Some (next, item) ≡ m.step state (get_or line i 0)
      → joined front (items_from state (drop i line)) ≡ all
      → joined (front ++ item_written item) (items_from next (drop (i + 1) line)) ≡ all
  kept_on front state next item line i all lt e kept =
      sym (joins front item (items_from next (drop (i + 1) line)))
      ∙ (ap (joined front) (sym (goes_on state next item line i lt e)) ∙ kept)

  pub kept_last : (front : List ℕ) (state : m.Point) (line : List ℕ) (i : ℕ)
      (all : Option (List ℕ)) → length line ≤ i
      → joined front (items_from state (drop i line)) ≡ all
      → joined front (cond (m.ended state) (Some []) None) ≡ all
  kept_last front state line i all le kept = ap (joined front) (sym (ends state line i le)) ∙ kept
