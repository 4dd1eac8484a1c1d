-- Only extension codes need the extension registry: no other operation or move lacks it.
use Rattle.std.proofs.Common.{◌≡◌, ℕ, zero, suc, Bool, true, false, cond, List, [], ◌∷◌, Option}
use Rattle.std.proofs.Common.{Some, None, Result, Ok, Err, refl}
use Rattle.pkstack.specs.declared.SliceRule.{SliceRule}
use Rattle.pkstack.specs.declared.SliceRule.TheVariants.{EvenSlice, FullSlice}
use Rattle.pkstack.specs.declared.Takes.{Takes}
use Rattle.pkstack.specs.declared.Takes.TheVariants.{Objects, Slice, SliceAndReceiver}
use Rattle.pkstack.specs.declared.Move.{Move}
use Rattle.pkstack.specs.declared.Move.TheVariants.{PushesMark, Pops, PopsMark, Fetches, NoOp}
use Rattle.pkstack.specs.declared.Move.TheVariants.{Extends}
use Rattle.pkstack.specs.Shape.{Breach, Odd, Extension, Entry, Mark, Item, and_then, unless}
use Rattle.pkstack.specs.Shape.{is_even, items, slice, breaks, operands, recalled, fetched, popped}
use Rattle.pkstack.specs.Shape.{moved, top}
use Rattle.pkmachine.specs.Knowledge.{Known, Knowledge}

-- the result is not a missing extension registry
abbrev pub NoExtension : {A : Type 0} → Result A Breach → Type 0
NoExtension (Ok a) = Unit {0}
NoExtension (Err b) = b ≡ Extension → ⊥

and_then_none : {A B : Type 0} (x : Result A Breach) (f : A → Result B Breach) → NoExtension x
    → ((a : A) → NoExtension (f a)) → NoExtension (and_then x f)
and_then_none (Ok a) f h g = g a
and_then_none (Err b) f h g = h

items_none : {A : Type 0} (k : ℕ) (es : List (Entry A)) (above : List A)
    → NoExtension (items k es above)
items_none zero es above = tt
items_none (suc k) (Item x ∷ es) above = items_none k es (x ∷ above)
items_none (suc k) _ above = λ e. cc

slice_none : {A : Type 0} (es : List (Entry A)) (above : List A) → NoExtension (slice es above)
slice_none (Item x ∷ es) above = slice_none es (x ∷ above)
slice_none (Mark ∷ es) above = tt
slice_none [] above = λ e. cc

unless_even : {A : Type 0} (b : Bool) (t : A) → NoExtension (unless (cond b None (Some Odd)) (Ok t))
unless_even true t = tt
unless_even false t = λ e. cc

breaks_none : {A B : Type 0} (rule : SliceRule) (xs : List A) (t : B)
    → NoExtension (unless (breaks rule xs) (Ok t))
breaks_none EvenSlice xs t = unless_even (is_even xs) t
breaks_none FullSlice [] t = λ e. cc
breaks_none _ _ t = tt

pub operands_none : (t : Takes) (es : List (Entry Known)) → NoExtension (operands t es)
operands_none (Objects k) es = items_none k es []
operands_none (Slice rule) es = and_then_none (slice es []) _ (slice_none es [])
    (λ t. breaks_none rule t.operands t)
operands_none (SliceAndReceiver rule) es = and_then_none (slice es []) _ (slice_none es [])
    (λ t. and_then_none (items 1 t.below t.operands) _ (items_none 1 t.below t.operands)
    (λ u. breaks_none rule t.operands u))

with_item_none : (o : Option Known) (n : ℕ) (h : Knowledge) → NoExtension (fetched o n h)
with_item_none None n h = λ e. cc
with_item_none (Some x) n h = tt

pub top_none : (es : List (Entry Known)) → NoExtension (top es)
top_none (Item x ∷ es) = tt
top_none _ = λ e. cc

popped_none : (es : List (Entry Known)) (h : Knowledge) → NoExtension (popped es h)
popped_none [] h = λ e. cc
popped_none (e ∷ es) h = tt

pub moved_none : (m : Move) (n : ℕ) (h : Knowledge) → (m ≡ Extends → ⊥) → NoExtension (moved m n h)
moved_none PushesMark n h x = tt
moved_none Pops n h x = popped_none h.entries h
moved_none PopsMark n h x = and_then_none (slice h.entries []) _ (slice_none h.entries []) (λ t. tt)
moved_none Fetches n h x = with_item_none (recalled n h.memo) n h
moved_none NoOp n h x = tt
moved_none Extends n h x = absurd (x refl)
moved_none _ n h x = and_then_none (top h.entries) _ (top_none h.entries) (λ t. tt)
