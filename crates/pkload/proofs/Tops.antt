-- What a ceiling knows of the top of the stack stays true.
use Rattle.std.proofs.Common.{◌≡◌, ◌<◌, ◌≤◌, ℕ, zero, suc, ◌+◌, ◌%◌, ◌^◌, Bool, true, false}
use Rattle.std.proofs.Common.{List, [], ◌∷◌, length, Result, Ok, Err, IfOk, subst, arith}
use Rattle.pkops.specs.Operands.{memo_number}
use Rattle.pkops.specs.Spelling.{Argument, Instruction, instruction}
use Rattle.pkops.specs.declared.Op.{Op}
use Rattle.pkops.specs.declared.Op.TheVariants as op
use Rattle.pkmachine.specs.Effects.{effect_of}
use Rattle.pkstack.specs.declared.Move.{Move}
use Rattle.pkstack.specs.declared.Move.TheVariants.{Stores, StoresNext}
use Rattle.pkstack.specs.Shape.{Breach, Entry, Mark, Item, Shape, storing, top}
use Rattle.pkload.proofs.Few.{ok_then}
use Rattle.pkload.proofs.Flat.{AreFlat, every_ok}
use Rattle.pkload.specs.Bill.{Bill, billed_by, move_billed}
use Rattle.pkload.specs.Heft.{Heft, argument_size, heft_of}
use Rattle.pkload.specs.Memory.{number_kept}
use Rattle.pkload.specs.declared.ceiling.Ceiling.{Ceiling}
use Rattle.pkload.specs.Private.Ceiling.{plain_weight, raised}

-- what the ceiling knows of the top of a stack
abbrev pub AreSeen : Ceiling → List (Entry Heft) → Type 0
AreSeen c es = AreFlat (plain_weight c) c.flat c.marked es

abbrev pub IsSeen : Ceiling → Bill → Type 0
IsSeen c b = AreSeen c b.shape.entries

-- objects that weigh at most this weigh at most more
flat_higher : (low high flat : ℕ) (marked : Bool) (es : List (Entry Heft)) → low ≤ high
    → AreFlat low flat marked es → AreFlat high flat marked es
flat_higher low high zero false es l h = tt
flat_higher low high zero true (Mark ∷ es) l h = tt
flat_higher low high zero true (Item x ∷ es) l h = absurd h
flat_higher low high zero true [] l h = absurd h
flat_higher low high (suc flat) marked (Item x ∷ es) l h =
    (omega (arith, l, h.0), h.1, flat_higher low high flat marked es l h.2)
flat_higher low high (suc flat) marked (Mark ∷ es) l h = absurd h
flat_higher low high (suc flat) marked [] l h = absurd h

-- such objects are entries
pub flat_few : (weight flat : ℕ) (marked : Bool) (es : List (Entry Heft))
    → AreFlat weight flat marked es → flat ≤ length es
flat_few weight zero marked es h = omega arith
flat_few weight (suc flat) marked (Item x ∷ es) h =
    omega (arith, flat_few weight flat marked es h.2)
flat_few weight (suc flat) marked (Mark ∷ es) h = absurd h
flat_few weight (suc flat) marked [] h = absurd h

-- one more such object, if there are few
one_more : (low high flat : ℕ) (marked : Bool) (x : Heft) (es : List (Entry Heft))
    → low ≤ high → x.weight ≤ high → x.depth ≤ 0 → length es < 2 ^ 63
    → AreFlat low flat marked es → AreFlat high ((flat + 1) % 2 ^ 64) marked (Item x ∷ es)
one_more low high flat marked x es l w d few h =
    let next : AreFlat high (suc flat) marked (Item x ∷ es) =
    (w, d, flat_higher low high flat marked es l h) in
    let same : suc flat ≡ (flat + 1) % 2 ^ 64 = omega (arith, few, flat_few low flat marked es h) in
    subst (λ n. AreFlat high n marked (Item x ∷ es)) same next

-- storing leaves the stack as it is
move_kept : (m : Move) (k : ℕ) (c : Ceiling) (b : Bill) (x : Result (Shape Heft) Breach)
    → IfOk x (λ s. AreSeen c s.entries) → IfOk (move_billed m k b x) (IsSeen c)
move_kept m k c b (Ok s) h = h
move_kept m k c b (Err e) h = tt

storing_kept : (c : Ceiling) (n : ℕ) (s : Shape Heft) → AreSeen c s.entries
    → IfOk (storing n s) (λ t. AreSeen c t.entries)
storing_kept c n s h =
    ok_then (λ t. Unit {0}) (λ t. AreSeen c t.entries) (top s.entries) _
    (every_ok (λ t. Unit {0}) (top s.entries) (λ t. tt)) (λ t w. h)

-- nothing that is known is true
blind_behind : (o : Op) (a : Argument) (b : Bill)
    → IfOk (billed_by (effect_of o) (instruction o a) b) (λ e. Unit {0})
blind_behind o a b =
    every_ok (λ e. Unit {0}) (billed_by (effect_of o) (instruction o a) b) (λ e. tt)

seen_by : (o : Op) (a : Argument) (size at : ℕ) (c : Ceiling) (b : Bill) → argument_size a ≤ size
    → length b.shape.entries < 2 ^ 63 → IsSeen c b
    → IfOk (billed_by (effect_of o) (instruction o a) b) (IsSeen (raised o size at c))
seen_by op.Put a size at c b l few h =
    let n = memo_number (instruction op.Put a) in
    move_kept Stores (number_kept Stores n (length b.shape.memo)) c b (storing n b.shape)
    (storing_kept c n b.shape h)
seen_by op.BinPut a size at c b l few h =
    let n = memo_number (instruction op.BinPut a) in
    move_kept Stores (number_kept Stores n (length b.shape.memo)) c b (storing n b.shape)
    (storing_kept c n b.shape h)
seen_by op.LongBinPut a size at c b l few h =
    let n = memo_number (instruction op.LongBinPut a) in
    move_kept Stores (number_kept Stores n (length b.shape.memo)) c b (storing n b.shape)
    (storing_kept c n b.shape h)
seen_by op.Memoize a size at c b l few h =
    move_kept StoresNext (length b.shape.memo) c b (storing (length b.shape.memo) b.shape)
    (storing_kept c (length b.shape.memo) b.shape h)
seen_by op.Proto a size at c b l few h = h
seen_by op.Frame a size at c b l few h = h
seen_by op.Mark a size at c b l few h = tt
seen_by op.EmptyTuple a size at c b l few h = blind_behind op.EmptyTuple a b
seen_by op.Tuple1 a size at c b l few h = blind_behind op.Tuple1 a b
seen_by op.Tuple2 a size at c b l few h = blind_behind op.Tuple2 a b
seen_by op.Tuple3 a size at c b l few h = blind_behind op.Tuple3 a b
seen_by op.Tuple a size at c b l few h = blind_behind op.Tuple a b
seen_by op.FrozenSet a size at c b l few h = blind_behind op.FrozenSet a b
seen_by op.BinGet a size at c b l few h = blind_behind op.BinGet a b
seen_by op.LongBinGet a size at c b l few h = blind_behind op.LongBinGet a b
seen_by op.Get a size at c b l few h = blind_behind op.Get a b
seen_by op.Dup a size at c b l few h = blind_behind op.Dup a b
seen_by op.Build a size at c b l few h = blind_behind op.Build a b
seen_by op.Append a size at c b l few h = blind_behind op.Append a b
seen_by op.Appends a size at c b l few h = blind_behind op.Appends a b
seen_by op.SetItem a size at c b l few h = blind_behind op.SetItem a b
seen_by op.SetItems a size at c b l few h = blind_behind op.SetItems a b
seen_by op.AddItems a size at c b l few h = blind_behind op.AddItems a b
seen_by op.List a size at c b l few h = blind_behind op.List a b
seen_by op.Dict a size at c b l few h = blind_behind op.Dict a b
seen_by op.StackGlobal a size at c b l few h = blind_behind op.StackGlobal a b
seen_by op.Reduce a size at c b l few h = blind_behind op.Reduce a b
seen_by op.NewObj a size at c b l few h = blind_behind op.NewObj a b
seen_by op.NewObjEx a size at c b l few h = blind_behind op.NewObjEx a b
seen_by op.Obj a size at c b l few h = blind_behind op.Obj a b
seen_by op.Inst a size at c b l few h = blind_behind op.Inst a b
seen_by op.BinPersid a size at c b l few h = blind_behind op.BinPersid a b
seen_by op.ReadonlyBuffer a size at c b l few h = blind_behind op.ReadonlyBuffer a b
seen_by op.Pop a size at c b l few h = blind_behind op.Pop a b
seen_by op.PopMark a size at c b l few h = blind_behind op.PopMark a b
seen_by op.Ext1 a size at c b l few h = blind_behind op.Ext1 a b
seen_by op.Ext2 a size at c b l few h = blind_behind op.Ext2 a b
seen_by op.Ext4 a size at c b l few h = blind_behind op.Ext4 a b
seen_by op.Stop a size at c b l few h = blind_behind op.Stop a b
seen_by o a size at c b l few h =
    one_more (plain_weight c) (plain_weight (raised o size at c)) c.flat c.marked
    (heft_of (instruction o a) []) b.shape.entries (omega arith) (omega (arith, l)) (omega arith)
    few h

-- what is known of the top is true behind each instruction
pub seen_behind : (i : Instruction) (size at : ℕ) (c : Ceiling) (b : Bill)
    → argument_size i.arg ≤ size → length b.shape.entries < 2 ^ 63 → IsSeen c b
    → IfOk (billed_by (effect_of i.op) i b) (IsSeen (raised i.op size at c))
seen_behind i size at c b l few h = seen_by i.op i.arg size at c b l few h
