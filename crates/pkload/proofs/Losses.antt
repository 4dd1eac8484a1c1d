-- Why the bill can't be kept behind an instruction that leaves no more entries.
use Rattle.std.proofs.Common.{◌≡◌, ◌+◌, ◌≤◌, ◌^◌, ℕ, suc, Bool, false, cond, List, [], ◌∷◌}
use Rattle.std.proofs.Common.{length, Option, None, Some, Result, Ok, Err, refl, sym, ap, arith}
use Rattle.std.proofs.Common.{inl, inr, subst}
use Rattle.std.specs.Prelude.{◌⊎◌, ⊤, IsErr, OnErr}
use Rattle.pkops.specs.Operands.{memo_number}
use Rattle.pkops.specs.Spelling.{Argument, Instruction, Nothing, instruction}
use Rattle.pkops.specs.declared.Op.{Op}
use Rattle.pkops.specs.declared.Op.TheVariants as op
use Rattle.pkmachine.specs.Effects.{AnySlice, Effect, EvenSlice, Operates, effect_of}
use Rattle.pkmachine.specs.declared.effect.Gives.{Gives}
use Rattle.pkmachine.specs.declared.effect.Gives.TheVariants.{Answers}
use Rattle.pkstack.specs.Shape.{Breach, Entry, Item, Mark, NoItem, Taken, and_then, breaks, items}
use Rattle.pkstack.specs.Shape.{slice, top, unless}
use Rattle.pkstack.specs.declared.SliceRule.{SliceRule}
use Rattle.pkstack.specs.declared.Move.TheVariants.{Pops, PopsMark, NoOp, Stores, StoresNext}
use Rattle.pkload.specs.Bill.{Bill, billed_by, moved_by, operation_billed, stop_billed}
use Rattle.pkload.specs.Heft.{Heft}
use Rattle.pkload.specs.Memory.{held_memory, operation_memory}
use Rattle.pkload.specs.Private.Billing.{HasSlice, action_of, op_billed}
use Rattle.pkload.specs.Private.Lost.{IsTooMuch, LacksSum}
use Rattle.pkload.specs.Unkept.{CantBeKept, IsLost, LeavesNoMore, MayAdd}
use Rattle.pkload.specs.declared.action.Action.{Action}
use Rattle.pkload.specs.declared.action.Action.TheVariants as action
use Rattle.pkload.specs.declared.halt.Halt.{Halt}

-- ---- slices

abbrev taken_in : Result (Taken Heft) Breach → Taken Heft
taken_in (Ok taken) = taken
taken_in (Err breach) = record { operands = []; below = [] }

slice_small : (es : List (Entry Heft)) (above : List Heft) (taken : Taken Heft)
    → slice es above ≡ Ok taken → length taken.operands ≤ length above + length es
slice_small [] above taken is = cc is
slice_small (Mark ∷ es) above taken is =
    let same : length above ≡ length taken.operands = ap (λ r. length (taken_in r).operands) is in
    omega (arith, same)
slice_small (Item heft ∷ es) above taken is =
    omega (arith, slice_small es (heft ∷ above) taken is)

-- what the operation of an opcode leaves
abbrev gives_in : Effect → Gives
gives_in (Operates takes names gives) = gives
gives_in effect = Answers

abbrev gives_of : Op → Gives
gives_of o = gives_in (effect_of o)

-- an operation on what was found loses the bill
abbrev LostAt : Gives → Op → Bill → Result (Taken Heft) Breach → Type 0
LostAt gives o b found = IsLost (operation_billed gives (instruction o Nothing) b found) b

-- the memory of an operation on a slice and a receiver is too much, or something is missing
slice_sum : (rule : SliceRule) (gives : Gives) (o : Op) (b : Bill) (below : List (Entry Heft))
    (count : ℕ) → HasSlice b.shape.entries below count → (receiver : Heft)
    (rest : List (Entry Heft)) → below ≡ Item receiver ∷ rest → (halt : Halt)
    → IsTooMuch (suc count) (b.memory + operation_memory (instruction o Nothing) (suc count)) halt
    → LostAt gives o b (and_then (slice b.shape.entries []) (λ taken.
    and_then (items 1 taken.below taken.operands) (λ all.
    unless (breaks rule taken.operands) (Ok all))))
slice_sum rule gives o b below count h receiver rest is halt (e, inl many) =
    inl (omega (arith, many, slice_small b.shape.entries [] _ h.is, h.count_is))
slice_sum rule gives o b below count h receiver rest is halt (e, inr great) =
    subst (λ x. LostAt gives o b (and_then x (λ taken.
    and_then (items 1 taken.below taken.operands) (λ all.
    unless (breaks rule taken.operands) (Ok all))))) (sym h.is)
    (subst (λ x. LostAt gives o b (and_then x (λ all. unless (breaks rule h.hefts) (Ok all))))
    (sym (ap (λ l. items 1 l h.hefts) is)) (whole (breaks rule h.hefts)))
  where
    whole : (fault : Option Breach) → LostAt gives o b
        (unless fault (Ok (record { operands = receiver ∷ h.hefts; below = rest })))
    whole (Some breach) = inr tt
    whole None = inr (inl (subst
        (λ n. 2 ^ 64 ≤ b.memory + operation_memory (instruction o Nothing) (suc n))
        (sym h.count_is) great))

-- likewise of an operation on a slice alone
sliced_sum : (rule : SliceRule) (gives : Gives) (o : Op) (b : Bill) (below : List (Entry Heft))
    (count : ℕ) → HasSlice b.shape.entries below count → (halt : Halt)
    → IsTooMuch count (b.memory + operation_memory (instruction o Nothing) count) halt
    → LostAt gives o b (and_then (slice b.shape.entries []) (λ taken.
    unless (breaks rule taken.operands) (Ok taken)))
sliced_sum rule gives o b below count h halt (e, inl many) =
    inl (omega (arith, many, slice_small b.shape.entries [] _ h.is, h.count_is))
sliced_sum rule gives o b below count h halt (e, inr great) =
    subst (λ x. LostAt gives o b (and_then x (λ taken.
    unless (breaks rule taken.operands) (Ok taken)))) (sym h.is) (whole (breaks rule h.hefts))
  where
    whole : (fault : Option Breach) → LostAt gives o b
        (unless fault (Ok (record { operands = h.hefts; below = below })))
    whole (Some breach) = inr tt
    whole None = inr (inl (subst
        (λ n. 2 ^ 64 ≤ b.memory + operation_memory (instruction o Nothing) n)
        (sym h.count_is) great))

-- the memory of an operation without an argument
sums : (m n : ℕ) → m + (16 + n) ≡ m + (16 + (0 + (n + 0)))
sums m n = omega arith

module _ (b : Bill) (below : List (Entry Heft)) (count all : ℕ) (same : all ≡ suc count)
    (h : HasSlice b.shape.entries below count) (receiver : Heft) (rest : List (Entry Heft))
    (is : below ≡ Item receiver ∷ rest) (halt : Halt) where
  abbrev pub IsMuchFor : Op → Type 0
  IsMuchFor o = IsTooMuch all (b.memory + (16 + held_memory o all)) halt

  much_for : (o : Op) → IsMuchFor o
      → IsTooMuch (suc count) (b.memory + (16 + (0 + (held_memory o (suc count) + 0)))) halt
  much_for o k = subst (λ n. IsTooMuch (suc count) n halt)
      (sums b.memory (held_memory o (suc count)))
      (subst (λ n. IsTooMuch n (b.memory + (16 + held_memory o n)) halt) same k)

  pub appends_sum : IsMuchFor op.Appends → IsLost (op_billed op.Appends b) b
  appends_sum k = slice_sum AnySlice (gives_of op.Appends) op.Appends b below count h receiver
      rest is halt (much_for op.Appends k)

  pub sets_sum : IsMuchFor op.SetItems → IsLost (op_billed op.SetItems b) b
  sets_sum k = slice_sum EvenSlice (gives_of op.SetItems) op.SetItems b below count h receiver
      rest is halt (much_for op.SetItems k)

  pub adds_sum : IsMuchFor op.AddItems → IsLost (op_billed op.AddItems b) b
  adds_sum k = slice_sum AnySlice (gives_of op.AddItems) op.AddItems b below count h receiver
      rest is halt (much_for op.AddItems k)

module _ (b : Bill) (below : List (Entry Heft)) (count : ℕ)
    (h : HasSlice b.shape.entries below count) (halt : Halt) where
  abbrev pub IsMuchAlone : Op → Type 0
  IsMuchAlone o = IsTooMuch count (b.memory + (16 + held_memory o count)) halt

  much_alone : (o : Op) → IsMuchAlone o
      → IsTooMuch count (b.memory + (16 + (0 + (held_memory o count + 0)))) halt
  much_alone o k = subst (λ n. IsTooMuch count n halt) (sums b.memory (held_memory o count)) k

  pub tuple_sum : IsMuchAlone op.Tuple → IsLost (op_billed op.Tuple b) b
  tuple_sum k = sliced_sum AnySlice (gives_of op.Tuple) op.Tuple b below count h halt
      (much_alone op.Tuple k)

  pub frozenset_sum : IsMuchAlone op.FrozenSet → IsLost (op_billed op.FrozenSet b) b
  frozenset_sum k = sliced_sum AnySlice (gives_of op.FrozenSet) op.FrozenSet b below count h halt
      (much_alone op.FrozenSet k)

  pub list_sum : IsMuchAlone op.List → IsLost (op_billed op.List b) b
  list_sum k = sliced_sum AnySlice (gives_of op.List) op.List b below count h halt
      (much_alone op.List k)

  pub dict_sum : IsMuchAlone op.Dict → IsLost (op_billed op.Dict b) b
  dict_sum k = sliced_sum EvenSlice (gives_of op.Dict) op.Dict b below count h halt
      (much_alone op.Dict k)

-- ---- so many objects

pub nothing_found : (found : Result (Taken Heft) Breach) (sum : ℕ) → IsErr found
    → LacksSum found sum
nothing_found (Ok taken) sum h = cc h
nothing_found (Err breach) sum h = tt

-- the operation of this opcode answers so many objects, and its answer takes this much memory
abbrev pub AnswersWith : Op → ℕ → ℕ → Type 0
AnswersWith op.StackGlobal count more = (count ≡ 2) × (more ≡ 16)
AnswersWith op.Reduce count more = (count ≡ 2) × (more ≡ 16)
AnswersWith op.NewObj count more = (count ≡ 2) × (more ≡ 16)
AnswersWith op.NewObjEx count more = (count ≡ 3) × (more ≡ 16)
AnswersWith op.BinPersid count more = (count ≡ 1) × (more ≡ 16)
AnswersWith op.ReadonlyBuffer count more = (count ≡ 1) × (more ≡ 496)
AnswersWith _ count more = ⊥

-- the memory of what was found doesn't fit
found_sum : (gives : Gives) (o : Op) (b : Bill) (more : ℕ)
    → ((count : ℕ) → operation_memory (instruction o Nothing) count ≡ more)
    → (found : Result (Taken Heft) Breach) → LacksSum found (b.memory + more)
    → LostAt gives o b found
found_sum gives o b more is (Ok taken) h =
    inr (inl (subst (λ n. 2 ^ 64 ≤ b.memory + n) (sym (is (length taken.operands))) h))
found_sum gives o b more is (Err breach) h = inr tt

answer_sum : (o : Op) (b : Bill) (count more : ℕ) → AnswersWith o count more
    → LacksSum (items count b.shape.entries []) (b.memory + more) → IsLost (op_billed o b) b
answer_sum o b count more with_these h = by_op o with_these
  where
    at : (n m : ℕ) → (count ≡ n) × (more ≡ m)
        → LacksSum (items n b.shape.entries []) (b.memory + m)
    at n m (c, k) = subst (λ j. LacksSum (items n b.shape.entries []) (b.memory + j)) k
        (subst (λ j. LacksSum (items j b.shape.entries []) (b.memory + more)) c h)

    by_op : (o : Op) → AnswersWith o count more → IsLost (op_billed o b) b
    by_op op.StackGlobal w =
        found_sum (gives_of op.StackGlobal) op.StackGlobal b 16 (λ n. refl) _ (at 2 16 w)
    by_op op.Reduce w = found_sum (gives_of op.Reduce) op.Reduce b 16 (λ n. refl) _ (at 2 16 w)
    by_op op.NewObj w = found_sum (gives_of op.NewObj) op.NewObj b 16 (λ n. refl) _ (at 2 16 w)
    by_op op.NewObjEx w =
        found_sum (gives_of op.NewObjEx) op.NewObjEx b 16 (λ n. refl) _ (at 3 16 w)
    by_op op.BinPersid w =
        found_sum (gives_of op.BinPersid) op.BinPersid b 16 (λ n. refl) _ (at 1 16 w)
    by_op op.ReadonlyBuffer w =
        found_sum (gives_of op.ReadonlyBuffer) op.ReadonlyBuffer b 496 (λ n. refl) _ (at 1 496 w)
    by_op _ w = absurd w

pub answer_lost : (o : Op) (b : Bill) (count more : ℕ) (x : Result Bool Halt)
    → OnErr x (LacksSum (items count b.shape.entries []) (b.memory + more))
    → AnswersWith o count more → OnErr x (IsLost (op_billed o b) b)
answer_lost o b count more (Ok noted) h w = tt
answer_lost o b count more (Err halt) h w = answer_sum o b count more w h

-- ---- an instruction by its action

-- what the machine knows if an action fails
abbrev pub LostBy : Instruction → Action → Bill → Type 0
LostBy i action.TiesOne b = IsLost (op_billed op.Tuple1 b) b
LostBy i action.TiesTwo b = IsLost (op_billed op.Tuple2 b) b
LostBy i action.TiesThree b = IsLost (op_billed op.Tuple3 b) b
LostBy i action.TiesSlice b = IsLost (op_billed op.Tuple b) b
LostBy i action.FreezesSlice b = IsLost (op_billed op.FrozenSet b) b
LostBy i action.Operates b = IsLost (op_billed i.op b) b
LostBy i action.Appends b = IsLost (op_billed op.Append b) b
LostBy i action.AppendsSlice b = IsLost (op_billed op.Appends b) b
LostBy i action.AddsSlice b = IsLost (op_billed op.AddItems b) b
LostBy i action.Sets b = IsLost (op_billed op.SetItem b) b
LostBy i action.SetsSlice b = IsLost (op_billed op.SetItems b) b
LostBy i action.Builds b = IsLost (op_billed op.Build b) b
LostBy i action.Stores b =
    MayAdd Stores (memo_number i) b.shape ⊎ IsLost (moved_by Stores (memo_number i) b) b
LostBy i action.StoresNext b =
    MayAdd StoresNext 0 b.shape ⊎ IsLost (moved_by StoresNext 0 b) b
LostBy i action.Pops b = MayAdd Pops 0 b.shape ⊎ IsLost (moved_by Pops 0 b) b
LostBy i action.PopsMark b = MayAdd PopsMark 0 b.shape ⊎ IsLost (moved_by PopsMark 0 b) b
LostBy i action.Passes b = MayAdd NoOp 0 b.shape ⊎ IsLost (moved_by NoOp 0 b) b
LostBy i action.Stops b = IsLost (stop_billed b (top b.shape.entries)) b
LostBy i _ b = ⊤

-- the bill behind an instruction of a pickle that goes on is lost, unless it leaves more entries
abbrev LostFor : Op → Argument → Bill → Type 0
LostFor o a b =
    LeavesNoMore (effect_of o) (instruction o a) b
    → IsLost (billed_by (effect_of o) (instruction o a) b) b

moves_none : {A : Type 0} → ⊥ ⊎ A → A
moves_none (inl h) = absurd h
moves_none (inr h) = h

moves_but : {A B : Type 0} → A ⊎ B → (A → ⊥) → B
moves_but (inl h) not = absurd (not h)
moves_but (inr h) not = h

lost_for : (o : Op) (a : Argument) (b : Bill) → LostBy (instruction o a) (action_of o) b
    → LostFor o a b
lost_for op.Tuple1 a b h w = h
lost_for op.Tuple2 a b h w = h
lost_for op.Tuple3 a b h w = h
lost_for op.Tuple a b h w = h
lost_for op.FrozenSet a b h w = h
lost_for op.List a b h w = h
lost_for op.Dict a b h w = h
lost_for op.StackGlobal a b h w = h
lost_for op.Reduce a b h w = h
lost_for op.NewObj a b h w = h
lost_for op.NewObjEx a b h w = h
lost_for op.BinPersid a b h w = h
lost_for op.ReadonlyBuffer a b h w = h
lost_for op.Inst a b h w = h
lost_for op.Obj a b h w = h
lost_for op.Append a b h w = h
lost_for op.Appends a b h w = h
lost_for op.AddItems a b h w = h
lost_for op.SetItem a b h w = h
lost_for op.SetItems a b h w = h
lost_for op.Build a b h w = h
lost_for op.Pop a b h w = moves_none h
lost_for op.PopMark a b h w = moves_none h
lost_for op.Proto a b h w = moves_none h
lost_for op.Frame a b h w = moves_none h
lost_for op.Stop a b h w = h
lost_for op.Ext1 a b h w = inr tt
lost_for op.Ext2 a b h w = inr tt
lost_for op.Ext4 a b h w = inr tt
lost_for op.Dup a b h w = absurd (w tt)
lost_for op.Mark a b h w = absurd (w tt)
lost_for op.Get a b h w = absurd (w tt)
lost_for op.BinGet a b h w = absurd (w tt)
lost_for op.LongBinGet a b h w = absurd (w tt)
lost_for op.Put a b h w = moves_but h w
lost_for op.BinPut a b h w = moves_but h w
lost_for op.LongBinPut a b h w = moves_but h w
lost_for op.Memoize a b h w = moves_but h w
lost_for _ a b h w = absurd w

going : (i : Instruction) (b : Bill) → b.ended ≡ false → LostFor i.op i.arg b → CantBeKept i b
going i b e h w = subst (λ q. IsLost (cond q (Err NoItem) (billed_by (effect_of i.op) i b)) b)
    (sym e) (h w)

-- an action that fails
pub failed_by : (i : Instruction) (b : Bill) (a : Action) (x : Result Bool Halt) → b.ended ≡ false
    → action_of i.op ≡ a → OnErr x (LostBy i a b) → IsErr x → CantBeKept i b
failed_by i b a (Err halt) e is h w = going i b e
    (lost_for i.op i.arg b (subst (λ c. LostBy i c b) (sym is) h))
failed_by i b a (Ok noted) e is h w = cc w

-- an action whose step may allocate
pub failed_room : (i : Instruction) (b : Bill) (a : Action) → b.ended ≡ false → action_of i.op ≡ a
    → LostBy i a b → CantBeKept i b
failed_room i b a e is h =
    going i b e (lost_for i.op i.arg b (subst (λ c. LostBy i c b) (sym is) h))
