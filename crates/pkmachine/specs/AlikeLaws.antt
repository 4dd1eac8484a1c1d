-- Laws of stacks and memos that are alike: moves and operations keep them alike, and fail alike.
use Rattle.std.proofs.Common.{◌≡◌, ℕ, zero, suc, true, false, cond, not, List, [], ◌∷◌, ◌++◌}
use Rattle.std.proofs.Common.{length, Option, Some, None, Result, Ok, Err, refl, ap, subst}
use Rattle.std.specs.Ordering.{nat_cmp, match_ordering, is_eq}
use Rattle.std.specs.declared.cmp.Ordering.TheVariants.{Less, Equal, Greater}
use Rattle.std.specs.BTreeMap.{insert_entry}
use Rattle.pkstack.specs.declared.SliceRule.{SliceRule}
use Rattle.pkstack.specs.declared.SliceRule.TheVariants.{EvenSlice, FullSlice}
use Rattle.pkstack.specs.declared.Takes.{Takes}
use Rattle.pkstack.specs.declared.Takes.TheVariants.{Objects, Slice, SliceAndReceiver}
use Rattle.pkstack.specs.declared.Move.{Move}
use Rattle.pkstack.specs.declared.Move.TheVariants.{PushesMark, Pops, PopsMark, Duplicates, Stores}
use Rattle.pkstack.specs.declared.Move.TheVariants.{StoresNext, Fetches, NoOp, Extends}
use Rattle.pkstack.specs.Shape.{Breach, Odd, Entry, Mark, Item, Shape, Taken, and_then, unless}
use Rattle.pkstack.specs.Shape.{is_even, items, slice, breaks, operands, front, top, stored}
use Rattle.pkstack.specs.Shape.{recalled, fetched, popped, moved}
use Rattle.pkmachine.specs.Covers.{Pointwise, AlikeEntry, AlikeCell, Alike}

abbrev pub SameResult : {X Y : Type 0} → (X → Y → Type 0) → Result X Breach → Result Y Breach
    → Type 0
SameResult P (Ok x) (Ok y) = P x y
SameResult P (Err r) (Err q) = r ≡ q
SameResult P (Ok x) (Err q) = ⊥
SameResult P (Err r) (Ok y) = ⊥

pub and_then_alike : {X Y V W : Type 0} (P : X → Y → Type 0) (Q : V → W → Type 0)
    (a : Result X Breach) (b : Result Y Breach) (f : X → Result V Breach) (g : Y → Result W Breach)
    → SameResult P a b → ((x : X) (y : Y) → P x y → SameResult Q (f x) (g y))
    → SameResult Q (and_then a f) (and_then b g)
and_then_alike P Q (Ok x) (Ok y) f g h on = on x y h
and_then_alike P Q (Err r) (Err q) f g h on = h
and_then_alike P Q _ _ f g h on = absurd h

pub unless_alike : {X Y : Type 0} (P : X → Y → Type 0) (o q : Option Breach) (a : Result X Breach)
    (b : Result Y Breach) → o ≡ q → SameResult P a b → SameResult P (unless o a) (unless q b)
unless_alike P None None a b e h = h
unless_alike P (Some r) (Some q) a b e h = cc
unless_alike P _ _ a b e h = cc

pub Pointwise-map : {A B : Type 0} (P Q : A → B → Type 0) (xs : List A) (ys : List B)
    → ((x : A) (y : B) → P x y → Q x y) → Pointwise P xs ys → Pointwise Q xs ys
Pointwise-map P Q [] [] f h = tt
Pointwise-map P Q (x ∷ xs) (y ∷ ys) f h = (f x y h.0, Pointwise-map P Q xs ys f h.1)
Pointwise-map P Q _ _ f h = absurd h

pub Pointwise-append : {A B : Type 0} (P : A → B → Type 0) (xs : List A) (ys : List B) (vs : List A)
    (ws : List B) → Pointwise P xs ys → Pointwise P vs ws → Pointwise P (xs ++ vs) (ys ++ ws)
Pointwise-append P [] [] vs ws h g = g
Pointwise-append P (x ∷ xs) (y ∷ ys) vs ws h g = (h.0, Pointwise-append P xs ys vs ws h.1 g)
Pointwise-append P _ _ vs ws h g = absurd h

pub length-Pointwise : {A B : Type 0} (P : A → B → Type 0) (xs : List A) (ys : List B)
    → Pointwise P xs ys → length xs ≡ length ys
length-Pointwise P [] [] h = refl
length-Pointwise P (x ∷ xs) (y ∷ ys) h = ap suc (length-Pointwise P xs ys h.1)
length-Pointwise P _ _ h = absurd h

pub AlikeEntry-map : {A B : Type 0} (P Q : A → B → Type 0) → ((x : A) (y : B) → P x y → Q x y)
    → (x : Entry A) (y : Entry B) → AlikeEntry P x y → AlikeEntry Q x y
AlikeEntry-map P Q f Mark Mark h = tt
AlikeEntry-map P Q f (Item x) (Item y) h = f x y h
AlikeEntry-map P Q f _ _ h = absurd h

pub Alike-map : {A B : Type 0} (P Q : A → B → Type 0) → ((x : A) (y : B) → P x y → Q x y)
    → (a : Shape A) (b : Shape B) → Alike P a b → Alike Q a b
Alike-map P Q f a b h = record {
  entries = Pointwise-map (AlikeEntry P) (AlikeEntry Q) a.entries b.entries
      (AlikeEntry-map P Q f) h.entries;
  memo = Pointwise-map (AlikeCell P) (AlikeCell Q) a.memo b.memo
      (λ x y g. (g.0, f x.1 y.1 g.1)) h.memo;
}

module _ {A B : Type 0} (R : A → B → Type 0) where
  pub record AlikeTaken (t : Taken A) (u : Taken B) : Type 0 where
    pub operands : Pointwise R t.operands u.operands
    pub below : Pointwise (AlikeEntry R) t.below u.below

  abbrev pub AlikeOption : Option A → Option B → Type 0
  AlikeOption None None = Unit {0}
  AlikeOption (Some x) (Some y) = R x y
  AlikeOption None (Some y) = ⊥
  AlikeOption (Some x) None = ⊥

  pub items_alike : (k : ℕ) (es : List (Entry A)) (fs : List (Entry B)) (xs : List A) (ys : List B)
      → Pointwise (AlikeEntry R) es fs → Pointwise R xs ys
      → SameResult AlikeTaken (items k es xs) (items k fs ys)
  items_alike zero es fs xs ys h g = record { operands = g; below = h }
  items_alike (suc k) [] [] xs ys h g = refl
  items_alike (suc k) (Mark ∷ es) (Mark ∷ fs) xs ys h g = refl
  items_alike (suc k) (Item x ∷ es) (Item y ∷ fs) xs ys h g =
      items_alike k es fs (x ∷ xs) (y ∷ ys) h.1 (h.0, g)
  items_alike (suc k) [] (f ∷ fs) xs ys h g = absurd h
  items_alike (suc k) (e ∷ es) [] xs ys h g = absurd h
  items_alike (suc k) (Mark ∷ es) (Item y ∷ fs) xs ys h g = absurd h.0
  items_alike (suc k) (Item x ∷ es) (Mark ∷ fs) xs ys h g = absurd h.0

  pub slice_alike : (es : List (Entry A)) (fs : List (Entry B)) (xs : List A) (ys : List B)
      → Pointwise (AlikeEntry R) es fs → Pointwise R xs ys
      → SameResult AlikeTaken (slice es xs) (slice fs ys)
  slice_alike [] [] xs ys h g = refl
  slice_alike (Mark ∷ es) (Mark ∷ fs) xs ys h g = record { operands = g; below = h.1 }
  slice_alike (Item x ∷ es) (Item y ∷ fs) xs ys h g =
      slice_alike es fs (x ∷ xs) (y ∷ ys) h.1 (h.0, g)
  slice_alike [] (f ∷ fs) xs ys h g = absurd h
  slice_alike (e ∷ es) [] xs ys h g = absurd h
  slice_alike (Mark ∷ es) (Item y ∷ fs) xs ys h g = absurd h.0
  slice_alike (Item x ∷ es) (Mark ∷ fs) xs ys h g = absurd h.0

  is_even_alike : (xs : List A) (ys : List B) → Pointwise R xs ys → is_even xs ≡ is_even ys
  is_even_alike [] [] h = refl
  is_even_alike (x ∷ xs) (y ∷ ys) h = ap not (is_even_alike xs ys h.1)
  is_even_alike _ _ h = absurd h

  breaks_alike : (rule : SliceRule) (xs : List A) (ys : List B) → Pointwise R xs ys
      → breaks rule xs ≡ breaks rule ys
  breaks_alike EvenSlice xs ys h = ap (λ b. cond b None (Some Odd)) (is_even_alike xs ys h)
  breaks_alike FullSlice [] (y ∷ ys) h = absurd h
  breaks_alike FullSlice (x ∷ xs) [] h = absurd h
  breaks_alike _ _ _ h = refl

  pub operands_alike : (t : Takes) (es : List (Entry A)) (fs : List (Entry B))
      → Pointwise (AlikeEntry R) es fs → SameResult AlikeTaken (operands t es) (operands t fs)
  operands_alike (Objects k) es fs h = items_alike k es fs [] [] h tt
  operands_alike (Slice rule) es fs h =
      and_then_alike AlikeTaken AlikeTaken (slice es []) (slice fs []) _ _
      (slice_alike es fs [] [] h tt)
      (λ t u g. unless_alike AlikeTaken _ _ (Ok t) (Ok u)
      (breaks_alike rule t.operands u.operands g.operands) g)
  operands_alike (SliceAndReceiver rule) es fs h =
      and_then_alike AlikeTaken AlikeTaken (slice es []) (slice fs []) _ _
      (slice_alike es fs [] [] h tt)
      (λ t u g. and_then_alike AlikeTaken AlikeTaken (items 1 t.below t.operands)
      (items 1 u.below u.operands) _ _
      (items_alike 1 t.below u.below t.operands u.operands g.below g.operands)
      (λ v w j. unless_alike AlikeTaken _ _ (Ok v) (Ok w)
      (breaks_alike rule t.operands u.operands g.operands) j))

  pub front_alike : (xs : List A) (ys : List B) → Pointwise R xs ys
      → Pointwise (AlikeEntry R) (front xs) (front ys)
  front_alike [] [] h = tt
  front_alike (x ∷ xs) (y ∷ ys) h = (h.0, tt)
  front_alike _ _ h = absurd h

  insert_here : (n : ℕ) (x : A) (y : B) (m : ℕ) (a : A) (b : B) (es : List (ℕ × A))
      (fs : List (ℕ × B)) → R x y → R a b → Pointwise (AlikeCell R) es fs
      → Pointwise (AlikeCell R) (insert_entry nat_cmp es n x) (insert_entry nat_cmp fs n y)
      → Pointwise (AlikeCell R) (insert_entry nat_cmp ((m, a) ∷ es) n x)
      (insert_entry nat_cmp ((m, b) ∷ fs) n y)
  insert_here n x y m a b es fs r g h t =
      elim (nat_cmp n m) as (λ o. Pointwise (AlikeCell R)
      (match_ordering o ((n, x) ∷ (m, a) ∷ es) ((m, x) ∷ es)
      ((m, a) ∷ insert_entry nat_cmp es n x))
      (match_ordering o ((n, y) ∷ (m, b) ∷ fs) ((m, y) ∷ fs)
      ((m, b) ∷ insert_entry nat_cmp fs n y))) [
        | Less ↦ ((refl, r), ((refl, g), h))
        | Equal ↦ ((refl, r), h)
        | Greater ↦ ((refl, g), t)
      ]

  pub insert_alike : (n : ℕ) (x : A) (y : B) (es : List (ℕ × A)) (fs : List (ℕ × B)) → R x y
      → Pointwise (AlikeCell R) es fs → Pointwise (AlikeCell R) (insert_entry nat_cmp es n x)
      (insert_entry nat_cmp fs n y)
  insert_alike n x y [] [] r h = ((refl, r), tt)
  insert_alike n x y (e ∷ es) (f ∷ fs) r h =
      subst
      (λ m. Pointwise (AlikeCell R) (insert_entry nat_cmp (e ∷ es) n x)
      (insert_entry nat_cmp ((m, f.1) ∷ fs) n y)) h.0.0
      (insert_here n x y e.0 e.1 f.1 es fs r h.0.1 h.1 (insert_alike n x y es fs r h.1))
  insert_alike n x y _ _ r h = absurd h

  recalled_here : (n m : ℕ) (a : A) (b : B) (es : List (ℕ × A)) (fs : List (ℕ × B)) → R a b
      → AlikeOption (recalled n es) (recalled n fs)
      → AlikeOption (recalled n ((m, a) ∷ es)) (recalled n ((m, b) ∷ fs))
  recalled_here n m a b es fs r h =
      elim (is_eq (nat_cmp n m)) as (λ o. AlikeOption (cond o (Some a) (recalled n es))
      (cond o (Some b) (recalled n fs))) [ true ↦ r | false ↦ h ]

  pub recalled_alike : (n : ℕ) (es : List (ℕ × A)) (fs : List (ℕ × B))
      → Pointwise (AlikeCell R) es fs → AlikeOption (recalled n es) (recalled n fs)
  recalled_alike n [] [] h = tt
  recalled_alike n (e ∷ es) (f ∷ fs) h =
      subst (λ m. AlikeOption (recalled n (e ∷ es)) (recalled n ((m, f.1) ∷ fs))) h.0.0
      (recalled_here n e.0 e.1 f.1 es fs h.0.1 (recalled_alike n es fs h.1))
  recalled_alike n _ _ h = absurd h

  fetched_alike : (o : Option A) (q : Option B) (n : ℕ) (a : Shape A) (b : Shape B)
      → AlikeOption o q → Alike R a b → SameResult (Alike R) (fetched o n a) (fetched q n b)
  fetched_alike None None n a b h g = refl
  fetched_alike (Some x) (Some y) n a b h g = record { entries = (h, g.entries); memo = g.memo }
  fetched_alike _ _ n a b h g = absurd h

  popped_alike : (es : List (Entry A)) (fs : List (Entry B)) (a : Shape A) (b : Shape B)
      → Pointwise (AlikeEntry R) es fs → Alike R a b
      → SameResult (Alike R) (popped es a) (popped fs b)
  popped_alike [] [] a b h g = refl
  popped_alike (e ∷ es) (f ∷ fs) a b h g = record { entries = h.1; memo = g.memo }
  popped_alike _ _ a b h g = absurd h

  -- the topmost items are related, and the entries below them are alike
  pub record AlikeTop (t : A × List (Entry A)) (u : B × List (Entry B)) : Type 0 where
    pub item : R t.0 u.0
    pub below : Pointwise (AlikeEntry R) t.1 u.1

  pub top_alike : (es : List (Entry A)) (fs : List (Entry B)) → Pointwise (AlikeEntry R) es fs
      → SameResult AlikeTop (top es) (top fs)
  top_alike [] [] h = refl
  top_alike (Mark ∷ es) (Mark ∷ fs) h = refl
  top_alike (Item x ∷ es) (Item y ∷ fs) h = record { item = h.0; below = h.1 }
  top_alike [] (f ∷ fs) h = absurd h
  top_alike (e ∷ es) [] h = absurd h
  top_alike (Mark ∷ es) (Item y ∷ fs) h = absurd h.0
  top_alike (Item x ∷ es) (Mark ∷ fs) h = absurd h.0

  on_top : (a : Shape A) (b : Shape B) (f : A × List (Entry A) → Shape A)
      (g : B × List (Entry B) → Shape B) → Alike R a b
      → ((t : A × List (Entry A)) (u : B × List (Entry B)) → AlikeTop t u → Alike R (f t) (g u))
      → SameResult (Alike R) (and_then (top a.entries) (λ t. Ok (f t)))
      (and_then (top b.entries) (λ t. Ok (g t)))
  on_top a b f g h on = and_then_alike AlikeTop (Alike R) (top a.entries) (top b.entries) _ _
      (top_alike a.entries b.entries h.entries) on

  -- MEMOIZE stores under the same number in both
  stored_next : (x : A) (y : B) (ms : List (ℕ × A)) (ns : List (ℕ × B)) → R x y
      → Pointwise (AlikeCell R) ms ns → Pointwise (AlikeCell R) (stored (length ms) x ms)
      (stored (length ns) y ns)
  stored_next x y ms ns r h = subst
      (λ m. Pointwise (AlikeCell R) (stored (length ms) x ms) (stored m y ns))
      (length-Pointwise (AlikeCell R) ms ns h) (insert_alike (length ms) x y ms ns r h)

  pub moved_alike : (e : Move) (n : ℕ) (a : Shape A) (b : Shape B) → Alike R a b
      → SameResult (Alike R) (moved e n a) (moved e n b)
  moved_alike PushesMark n a b h = record { entries = (tt, h.entries); memo = h.memo }
  moved_alike Pops n a b h = popped_alike a.entries b.entries a b h.entries h
  moved_alike PopsMark n a b h =
      and_then_alike AlikeTaken (Alike R) (slice a.entries []) (slice b.entries []) _ _
      (slice_alike a.entries b.entries [] [] h.entries tt)
      (λ t u g. record { entries = g.below; memo = h.memo })
  moved_alike Duplicates n a b h = on_top a b _ _ h
      (λ t u g. record { entries = (g.item, h.entries); memo = h.memo })
  moved_alike Stores n a b h = on_top a b _ _ h
      (λ t u g.
      record { entries = h.entries; memo = insert_alike n t.0 u.0 a.memo b.memo g.item h.memo })
  moved_alike StoresNext n a b h = on_top a b _ _ h
      (λ t u g.
      record { entries = h.entries; memo = stored_next t.0 u.0 a.memo b.memo g.item h.memo })
  moved_alike Fetches n a b h = fetched_alike (recalled n a.memo) (recalled n b.memo) n a b
      (recalled_alike n a.memo b.memo h.memo) h
  moved_alike NoOp n a b h = h
  moved_alike Extends n a b h = refl
