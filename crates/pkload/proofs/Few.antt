-- How many operands an operation takes, and how many entries an operation or a move leaves.
use Rattle.std.proofs.Common.{◌≤◌, ℕ, zero, suc, ◌+◌, min, List, [], ◌∷◌, length, Option, Some}
use Rattle.std.proofs.Common.{None, Result, Ok, Err, IfOk, arith}
use Rattle.std.specs.Ordering.{match_ordering, nat_cmp}
use Rattle.std.specs.declared.cmp.Ordering.{Ordering}
use Rattle.std.specs.declared.cmp.Ordering.TheVariants.{Less, Equal, Greater}
use Rattle.pkops.specs.declared.Op.{Op}
use Rattle.pkops.specs.declared.Op.TheVariants as op
use Rattle.pkmachine.specs.Effects.{Effect, Operates, effect_of}
use Rattle.pkstack.specs.declared.Move.{Move}
use Rattle.pkstack.specs.declared.Move.TheVariants.{PushesMark, Pops, PopsMark, Duplicates, Stores}
use Rattle.pkstack.specs.declared.Move.TheVariants.{StoresNext, Fetches, NoOp, Extends}
use Rattle.pkstack.specs.declared.Takes.{Takes}
use Rattle.pkstack.specs.declared.Takes.TheVariants.{Objects, Slice, SliceAndReceiver}
use Rattle.pkstack.specs.Shape.{Breach, Entry, Mark, Item, Shape, Taken, and_then, unless, breaks}
use Rattle.pkstack.specs.Shape.{fetched, items, moved, operands, popped, put, recalled, slice}
use Rattle.pkstack.specs.Shape.{stored, storing, top}

-- ---- results

-- a property of a result gives each weaker one
pub ok_map : {X : Type 0} (P Q : X → Type 0) (x : Result X Breach) → ((t : X) → P t → Q t)
    → IfOk x P → IfOk x Q
ok_map P Q (Ok t) f h = f t h
ok_map P Q (Err e) f h = tt

-- what follows a result with one property has another
pub ok_then : {X Y : Type 0} (P : X → Type 0) (Q : Y → Type 0) (x : Result X Breach)
    (f : X → Result Y Breach) → IfOk x P → ((t : X) → P t → IfOk (f t) Q)
    → IfOk (and_then x f) Q
ok_then P Q (Ok t) f h on = on t h
ok_then P Q (Err e) f h on = tt

pub ok_unless : {X : Type 0} (Q : X → Type 0) (o : Option Breach) (x : Result X Breach) → IfOk x Q
    → IfOk (unless o x) Q
ok_unless Q None x h = h
ok_unless Q (Some e) x h = tt

-- ---- operands

-- the most operands that an operation takes of so many entries
abbrev pub most_taken : Takes → ℕ → ℕ
most_taken (Objects count) entries = min count entries
most_taken takes entries = entries

-- likewise, of an instruction with this effect
abbrev pub most_of : Effect → ℕ → ℕ
most_of (Operates takes names gives) entries = most_taken takes entries
most_of effect entries = 0

-- at most so many operands, and with the entries below them at most so many in all
pub record AreFew {A : Type 0} (most all : ℕ) (t : Taken A) : Type 0 where
  pub operands : length t.operands ≤ most
  pub together : length t.operands + length t.below ≤ all

-- at most one entry more than before on the stack, and one in the memo
pub record AddsOne {A : Type 0} (before after : Shape A) : Type 0 where
  pub entries : length after.entries ≤ suc (length before.entries)
  pub memo : length after.memo ≤ suc (length before.memo)

module _ {A : Type 0} where
  abbrev Few : ℕ → ℕ → Result (Taken A) Breach → Type 0
  Few most all x = IfOk x (AreFew most all)

  fewer : (m a n b : ℕ) (x : Result (Taken A) Breach) → m ≤ n → a ≤ b → Few m a x → Few n b x
  fewer m a n b x h g k = ok_map (AreFew m a) (AreFew n b) x
      (λ t w.
      record { operands = omega (arith, w.operands); together = omega (arith, w.together) }) k

  items_few : (k : ℕ) (es : List (Entry A)) (above : List A)
      → Few (k + length above) (length es + length above) (items k es above)
  items_few zero es above = record { operands = omega arith; together = omega arith }
  items_few (suc k) [] above = tt
  items_few (suc k) (Mark ∷ es) above = tt
  items_few (suc k) (Item x ∷ es) above =
      fewer _ _ (suc k + length above) (length (Item x ∷ es) + length above)
      (items k es (x ∷ above)) (omega arith) (omega arith) (items_few k es (x ∷ above))

  slice_few : (es : List (Entry A)) (above : List A)
      → Few (length es + length above) (length es + length above) (slice es above)
  slice_few [] above = tt
  slice_few (Mark ∷ es) above = record { operands = omega arith; together = omega arith }
  slice_few (Item x ∷ es) above =
      fewer _ _ (length (Item x ∷ es) + length above) (length (Item x ∷ es) + length above)
      (slice es (x ∷ above)) (omega arith) (omega arith) (slice_few es (x ∷ above))

  -- an operation takes few enough
  pub operands_few : (takes : Takes) (es : List (Entry A))
      → Few (most_taken takes (length es)) (length es) (operands takes es)
  operands_few (Objects k) es = ok_map (AreFew _ _) (AreFew _ _) (items k es [])
      (λ t w.
      record {
        operands = omega (arith, w.operands, w.together);
        together = omega (arith, w.together);
      }) (items_few k es [])
  operands_few (Slice rule) es =
      ok_then (AreFew (length es + 0) (length es + 0)) (AreFew (length es) (length es))
      (slice es []) _ (slice_few es [])
      (λ t w. ok_unless (AreFew (length es) (length es)) (breaks rule t.operands) (Ok t)
      (record { operands = omega (arith, w.operands); together = omega (arith, w.together) }))
  operands_few (SliceAndReceiver rule) es =
      ok_then (AreFew (length es + 0) (length es + 0)) (AreFew (length es) (length es))
      (slice es []) _ (slice_few es [])
      (λ t w. ok_then (AreFew (1 + length t.operands) (length t.below + length t.operands))
      (AreFew (length es) (length es)) (items 1 t.below t.operands) _
      (items_few 1 t.below t.operands)
      (λ v g. ok_unless (AreFew (length es) (length es)) (breaks rule t.operands) (Ok v)
      (record {
        operands = omega (arith, w.together, g.together);
        together = omega (arith, w.together, g.together);
      })))

  -- an operation leaves at most one entry in place of its operands
  pub put_few : (o : Option A) (xs : List A) → length (put o xs) ≤ 1
  put_few (Some x) xs = omega arith
  put_few None [] = omega arith
  put_few None (x ∷ xs) = omega arith

  -- ---- moves

  popped_few : (es : List (Entry A)) (s : Shape A) → length es ≤ length s.entries
      → IfOk (popped es s) (AddsOne s)
  popped_few [] s l = tt
  popped_few (e ∷ es) s l = record { entries = omega arith; memo = omega arith }

  fetched_few : (o : Option A) (n : ℕ) (s : Shape A) → IfOk (fetched o n s) (AddsOne s)
  fetched_few None n s = tt
  fetched_few (Some x) n s = record { entries = omega arith; memo = omega arith }

  -- the entries below the topmost item are fewer
  pub top_few : (es : List (Entry A)) → IfOk (top es) (λ t. length t.1 ≤ length es)
  top_few [] = tt
  top_few (Mark ∷ es) = tt
  top_few (Item x ∷ es) = omega arith

  -- storing adds at most one entry to the memo
  stored_few : (n : ℕ) (x : A) (memo : List (ℕ × A))
      → length (stored n x memo) ≤ suc (length memo)
  stored_few n x [] = omega arith
  stored_few n x (e ∷ memo) = either (nat_cmp n e.0) (stored_few n x memo)
    where
      either : (o : Ordering) → length (stored n x memo) ≤ suc (length memo)
          → length (match_ordering o ((n, x) ∷ e ∷ memo) ((e.0, x) ∷ memo) (e ∷ stored n x memo))
          ≤ suc (length (e ∷ memo))
      either Less h = omega arith
      either Equal h = omega arith
      either Greater h = omega arith

  storing_few : (n : ℕ) (s : Shape A) → IfOk (storing n s) (AddsOne s)
  storing_few n s =
      ok_then (λ t. length t.1 ≤ length s.entries) (AddsOne s) (top s.entries) _
      (top_few s.entries)
      (λ t w. record { entries = omega arith; memo = stored_few n t.0 s.memo })

  -- a move adds at most one entry to the stack, and one to the memo
  pub moved_few : (m : Move) (n : ℕ) (s : Shape A) → IfOk (moved m n s) (AddsOne s)
  moved_few PushesMark n s = record { entries = omega arith; memo = omega arith }
  moved_few Pops n s = popped_few s.entries s (omega arith)
  moved_few PopsMark n s =
      ok_then (AreFew (length s.entries + 0) (length s.entries + 0)) (AddsOne s)
      (slice s.entries []) _ (slice_few s.entries [])
      (λ t w. record { entries = omega (arith, w.together); memo = omega arith })
  moved_few Duplicates n s =
      ok_then (λ t. length t.1 ≤ length s.entries) (AddsOne s) (top s.entries) _
      (top_few s.entries) (λ t w. record { entries = omega arith; memo = omega arith })
  moved_few Stores n s = storing_few n s
  moved_few StoresNext n s = storing_few (length s.memo) s
  moved_few Fetches n s = fetched_few (recalled n s.memo) n s
  moved_few NoOp n s = record { entries = omega arith; memo = omega arith }
  moved_few Extends n s = tt

-- ---- what each opcode holds

-- the most operands that an opcode's object holds, if so many entries are on the stack
abbrev pub most_held : Op → ℕ → ℕ
most_held op.EmptyTuple entries = 0
most_held op.Tuple1 entries = 1
most_held op.Tuple2 entries = 2
most_held op.Tuple3 entries = 3
most_held op.Reduce entries = 2
most_held op.NewObj entries = 2
most_held op.NewObjEx entries = 3
most_held op.BinPersid entries = 1
most_held op.ReadonlyBuffer entries = 1
most_held o entries = entries

of_entries : (e : Effect) (n : ℕ) → most_of e n ≤ n
of_entries (Operates (Objects k) names gives) n = omega arith
of_entries (Operates takes names gives) n = omega arith
of_entries e n = omega arith

-- what an opcode takes is what its object may hold
pub held_few : (o : Op) (n : ℕ) → most_of (effect_of o) n ≤ most_held o n
held_few op.EmptyTuple n = omega arith
held_few op.Tuple1 n = omega arith
held_few op.Tuple2 n = omega arith
held_few op.Tuple3 n = omega arith
held_few op.Reduce n = omega arith
held_few op.NewObj n = omega arith
held_few op.NewObjEx n = omega arith
held_few op.BinPersid n = omega arith
held_few op.ReadonlyBuffer n = omega arith
held_few o n = of_entries (effect_of o) n
