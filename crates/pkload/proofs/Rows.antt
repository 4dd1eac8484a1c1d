-- Worked rows, by computation: what the bill counts of some pickles.
use Rattle.std.proofs.Common.{◌≡◌, ℕ, List, [], ◌∷◌, Result, Ok, Err, refl}
use Rattle.std.proofs.Common.{Bool, ◌++◌, arith, false, inl, inr, replicate, true}
use Rattle.pkops.specs.declared.Op.{Op}
use Rattle.pkops.specs.declared.Op.TheVariants as op
use Rattle.pkops.specs.Spelling.{Counted, Instruction, Line, Nothing, Number, Pair, instruction}
use Rattle.pkmachine.specs.Runs.{Foreign, Go, Raise, Stopped, WentOn, Raised, Stuck, start}
use Rattle.pkstack.specs.Shape.{Breach, Mark}
use Rattle.pkmachine.specs.WholeRuns.{Ended, EndedBy, Reached, run}
use Rattle.pkload.specs.Bill.{Bill, all_billed, billed, no_bill}
use Rattle.pkload.specs.declared.tally.Tally.{Tally}
use Rattle.pkload.specs.Tally.{no_tally}
use Rattle.pkload.specs.Unkept.{CantBeKept, IsLost}
use Rattle.pkload.specs.Weighed.{account_of}

abbrev bare : Op → Instruction
bare o = instruction o Nothing

abbrev int : ℕ → Instruction
int n = instruction op.BinInt1 (Number 1 n)

abbrev text : ℕ → Instruction
text size = instruction op.ShortBinUnicode (Counted (replicate size 97))

abbrev global : Instruction
global = instruction op.Global (Pair (109 ∷ []) (102 ∷ []))

abbrev tally_in : Result Bill Breach → Tally
tally_in (Ok bill) = bill.tally
tally_in (Err breach) = no_tally

-- the memory that loading takes
abbrev memory_in : Result Bill Breach → ℕ
memory_in (Ok bill) = bill.memory
memory_in (Err breach) = 0

abbrev takes_memory : List Instruction → ℕ
takes_memory is = memory_in (all_billed is no_bill)

-- what the bill counts: levels, weight, work, clash
abbrev counts : List Instruction → ℕ × ℕ × ℕ × ℕ
counts is =
    let t = tally_in (all_billed is no_bill) in (t.levels, t.weight, t.work, t.clash)

-- BUILD takes an imported object
abbrev builds : List Instruction → Bool
builds is = (tally_in (all_billed is no_bill)).builds

-- SETITEM with this key, and then STOP
abbrev as_key : List Instruction → List Instruction
as_key key = bare op.EmptyDict ∷ key ++ bare op.None ∷ bare op.SetItem ∷ bare op.Stop ∷ []

an_empty_tuple : counts (as_key (bare op.EmptyTuple ∷ [])) ≡ (1, 1, 1, 1)
an_empty_tuple = refl

three_levels : counts (as_key (bare op.EmptyTuple ∷ bare op.Tuple1 ∷ bare op.Tuple1 ∷ []))
    ≡ (3, 3, 3, 3)
three_levels = refl

-- a deep result is no key
a_deep_result : counts (bare op.EmptyTuple ∷ bare op.Tuple1 ∷ bare op.Tuple1 ∷ bare op.Stop ∷ [])
    ≡ (0, 0, 0, 0)
a_deep_result = refl

-- a frozenset has depth 0; its items are keys too
through_a_frozenset : counts
    (as_key
    (bare op.Mark ∷ bare op.EmptyTuple ∷ bare op.Tuple1 ∷ bare op.FrozenSet ∷ bare op.Tuple1 ∷ []))
    ≡ (2, 4, 6, 6)
through_a_frozenset = refl

-- DUP doubles the weight: 1 + 2 (1 + 2)
doubled : counts
    (as_key (bare op.EmptyTuple ∷ bare op.Dup ∷ bare op.Tuple2 ∷ bare op.Dup ∷ bare op.Tuple2 ∷ []))
    ≡ (3, 7, 7, 7)
doubled = refl

-- and so does the memo
doubled_by_memo : counts
    (as_key
    (bare op.EmptyTuple ∷ bare op.Memoize ∷ instruction op.BinGet (Number 1 0) ∷ bare op.Tuple2
    ∷ []))
    ≡ (2, 3, 3, 3)
doubled_by_memo = refl

-- ADDITEMS hashes each item, however often it comes
one_item_thrice : counts
    (bare op.EmptySet ∷ bare op.Mark ∷ int 1 ∷ bare op.Dup ∷ bare op.Dup ∷ bare op.AddItems
    ∷ bare op.Stop ∷ [])
    ≡ (0, 1, 3, 3)
one_item_thrice = refl

-- an int of 8 bytes weighs 2, one of 7 bytes 1
an_int_of_eight_bytes : counts (as_key (instruction op.Long1 (Counted (replicate 8 1)) ∷ []))
    ≡ (0, 2, 2, 2)
an_int_of_eight_bytes = refl

an_int_of_seven_bytes : counts (as_key (instruction op.Long1 (Counted (replicate 7 1)) ∷ []))
    ≡ (0, 1, 1, 1)
an_int_of_seven_bytes = refl

an_int_of_a_line : counts (as_key (instruction op.Int (Line (replicate 16 49)) ∷ []))
    ≡ (0, 3, 3, 3)
an_int_of_a_line = refl

-- a text of 63 bytes weighs 1, one of 64 bytes 2; its hash is salted
a_short_text : counts (as_key (text 63 ∷ [])) ≡ (0, 1, 1, 0)
a_short_text = refl

a_longer_text : counts (as_key (text 64 ∷ [])) ≡ (0, 2, 2, 0)
a_longer_text = refl

an_old_string : counts
    (as_key (instruction op.ShortBinString (Counted (replicate 65 97)) ∷ [])) ≡ (0, 2, 2, 0)
an_old_string = refl

a_bytearray : counts (as_key (instruction op.ByteArray8 (Counted (replicate 64 97)) ∷ []))
    ≡ (0, 1, 1, 1)
a_bytearray = refl

-- FROZENSET hashes its items
two_items : counts (bare op.Mark ∷ int 1 ∷ int 2 ∷ bare op.FrozenSet ∷ bare op.Stop ∷ [])
    ≡ (0, 1, 2, 2)
two_items = refl

-- DICT and SETITEMS hash keys, not values
two_keys : counts
    (bare op.Mark ∷ int 1 ∷ bare op.EmptyTuple ∷ int 2 ∷ bare op.EmptyTuple ∷ bare op.Dict
    ∷ bare op.Stop ∷ [])
    ≡ (0, 1, 2, 2)
two_keys = refl

a_deep_key_and_a_deep_value : counts
    (bare op.EmptyDict ∷ bare op.Mark ∷ bare op.EmptyTuple ∷ bare op.Tuple1 ∷ int 1 ∷ int 2
    ∷ bare op.EmptyTuple ∷ bare op.Tuple1 ∷ bare op.SetItems ∷ bare op.Stop ∷ [])
    ≡ (2, 2, 3, 3)
a_deep_key_and_a_deep_value = refl

a_deep_value : counts
    (bare op.EmptyDict ∷ int 2 ∷ bare op.EmptyTuple ∷ bare op.SetItem ∷ bare op.Stop ∷ [])
    ≡ (0, 1, 1, 1)
a_deep_value = refl

-- an answer costs what a tuple of the operands would, 1 + (1 + 2), but its hash isn't known
an_answer : counts
    (as_key (global ∷ bare op.EmptyTuple ∷ bare op.Tuple1 ∷ bare op.Reduce ∷ [])) ≡ (3, 4, 4, 0)
an_answer = refl

-- a named tuple in another
nested_answers : counts
    (as_key
    (global ∷ global ∷ bare op.EmptyTuple ∷ bare op.NewObj ∷ bare op.Tuple1 ∷ bare op.NewObj ∷ []))
    ≡ (4, 6, 6, 0)
nested_answers = refl

with_keywords : counts
    (as_key (global ∷ bare op.EmptyTuple ∷ bare op.EmptyDict ∷ bare op.NewObjEx ∷ []))
    ≡ (2, 4, 4, 0)
with_keywords = refl

an_object_of_a_slice : counts (as_key (bare op.Mark ∷ global ∷ int 1 ∷ bare op.Obj ∷ []))
    ≡ (1, 3, 3, 0)
an_object_of_a_slice = refl

an_instance : counts
    (as_key
    (bare op.Mark ∷ int 1 ∷ instruction op.Inst (Pair (109 ∷ []) (102 ∷ [])) ∷ []))
    ≡ (1, 2, 2, 0)
an_instance = refl

-- bytes of 128 weigh 3
a_read_only_buffer : counts
    (as_key
    (instruction op.ShortBinBytes (Counted (replicate 128 97)) ∷ bare op.ReadonlyBuffer ∷ []))
    ≡ (1, 4, 4, 0)
a_read_only_buffer = refl

-- a name that was imported weighs one, and so does an object that a line names
a_name : counts (as_key (global ∷ [])) ≡ (0, 1, 1, 0)
a_name = refl

-- ---- memory

-- two sets of 240, a list of 80, 16 for each instruction and for the mark, 72 for APPENDS
a_list_of_two_sets : takes_memory
    (bare op.EmptyList ∷ bare op.Mark ∷ bare op.EmptySet ∷ bare op.EmptySet ∷ bare op.Appends
    ∷ bare op.Stop ∷ [])
    ≡ 744
a_list_of_two_sets = refl

-- a dict of 80, two tuples of 80, 176 for SETITEM
a_doubled_key : takes_memory
    (as_key (bare op.EmptyTuple ∷ bare op.Dup ∷ bare op.Tuple2 ∷ bare op.Dup ∷ bare op.Tuple2 ∷ []))
    ≡ 560
a_doubled_key = refl

-- 16 for each memo number
a_high_memo_number : takes_memory
    (bare op.None ∷ instruction op.BinPut (Number 1 255) ∷ bare op.Memoize ∷ bare op.Stop ∷ [])
    ≡ 4_176
a_high_memo_number = refl

-- an ASCII text takes a byte a character
a_text_of_three_bytes : takes_memory (text 3 ∷ bare op.Stop ∷ []) ≡ 99
a_text_of_three_bytes = refl

-- a character of two bytes in UTF-8 takes one byte, or two behind the first 256
a_text_of_one_character : takes_memory
    (instruction op.ShortBinUnicode (Counted (195 ∷ 169 ∷ [])) ∷ bare op.Stop ∷ []) ≡ 121
a_text_of_one_character = refl

a_text_of_a_wide_character : takes_memory
    (instruction op.ShortBinUnicode (Counted (97 ∷ 208 ∷ 150 ∷ [])) ∷ bare op.Stop ∷ []) ≡ 124
a_text_of_a_wide_character = refl

-- a set of five has a table
a_set_of_five : takes_memory
    (bare op.EmptySet ∷ bare op.Mark ∷ int 1 ∷ int 2 ∷ int 3 ∷ int 4 ∷ int 5 ∷ bare op.AddItems
    ∷ bare op.Stop ∷ [])
    ≡ 1_120
a_set_of_five = refl

-- ---- BUILD

build_of_an_import : builds (global ∷ bare op.EmptyDict ∷ bare op.Build ∷ bare op.Stop ∷ []) ≡ true
build_of_an_import = refl

through_the_memo : builds
    (global ∷ bare op.Memoize ∷ bare op.Pop ∷ instruction op.BinGet (Number 1 0) ∷ bare op.EmptyDict
    ∷ bare op.Build ∷ bare op.Stop ∷ [])
    ≡ true
through_the_memo = refl

through_dup : builds
    (global ∷ bare op.Dup ∷ bare op.EmptyDict ∷ bare op.Build ∷ bare op.Pop ∷ bare op.Stop ∷ [])
    ≡ true
through_dup = refl

build_of_a_result : builds
    (global ∷ bare op.EmptyTuple ∷ bare op.Reduce ∷ bare op.EmptyDict ∷ bare op.Build ∷ bare op.Stop
    ∷ [])
    ≡ false
build_of_a_result = refl

build_of_a_stack_global : builds
    (text 1 ∷ text 1 ∷ bare op.StackGlobal ∷ bare op.EmptyDict ∷ bare op.Build ∷ bare op.Stop ∷ [])
    ≡ true
build_of_a_stack_global = refl

-- an imported object as the state of BUILD, not its receiver
an_import_as_state : builds (bare op.EmptyDict ∷ global ∷ bare op.Build ∷ bare op.Stop ∷ []) ≡ false
an_import_as_state = refl

-- ---- a run counts the same

abbrev tally_of : Ended → Tally
tally_of (Reached s) = (account_of s.events).tally
tally_of (EndedBy (WentOn s)) = (account_of s.events).tally
tally_of (EndedBy (Raised s)) = (account_of s.events).tally
tally_of (EndedBy (Stopped r s)) = (account_of s.events).tally
tally_of (EndedBy (Stuck b)) = no_tally

abbrev doubled_key : List Instruction
doubled_key =
    as_key (bare op.EmptyTuple ∷ bare op.Dup ∷ bare op.Tuple2 ∷ bare op.Dup ∷ bare op.Tuple2 ∷ [])

the_run_of_doubled : tally_of (run doubled_key (Go 0 Foreign ∷ []) start)
    ≡ tally_in (all_billed doubled_key no_bill)
the_run_of_doubled = refl

-- a call that answers the name itself: the object costs what the answer does from then on
abbrev called_key : List Instruction
called_key = as_key (global ∷ bare op.EmptyTuple ∷ bare op.Reduce ∷ [])

the_run_of_an_earlier_answer : tally_of
    (run called_key (Go 1 Foreign ∷ Go 1 Foreign ∷ Go 0 Foreign ∷ []) start)
    ≡ tally_in (all_billed called_key no_bill)
the_run_of_an_earlier_answer = refl

-- a key that can't be hashed raises, and was counted
a_raising_key : tally_of (run doubled_key (Raise ∷ []) start)
    ≡ tally_in (all_billed doubled_key no_bill)
a_raising_key = refl

-- with an answer that is a tuple of the pickle, a key weighs more than the bill says
abbrev returned : List Instruction
returned =
    as_key
    (bare op.EmptyTuple ∷ bare op.Tuple1 ∷ bare op.Tuple1 ∷ bare op.Tuple1 ∷ bare op.Memoize
    ∷ bare op.Pop ∷ global ∷ bare op.EmptyTuple ∷ bare op.Reduce ∷ [])

the_bill_of_returned : counts returned ≡ (2, 3, 3, 0)
the_bill_of_returned = refl

the_run_of_returned : (tally_of
    (run returned (Go 9 Foreign ∷ Go 4 Foreign ∷ Go 0 Foreign ∷ []) start)).weight ≡ 4
the_run_of_returned = refl

-- an old string that isn't decoded may be answered by an earlier object, which costs as much then
abbrev old_key : List Instruction
old_key = as_key (instruction op.BinString (Counted (replicate 64 97)) ∷ [])

the_bill_of_an_old_key : counts old_key ≡ (0, 2, 2, 0)
the_bill_of_an_old_key = refl

the_run_of_an_old_key : (tally_of (run old_key (Go 0 Foreign ∷ Go 9 Foreign ∷ []) start)).weight
    ≡ 2
the_run_of_an_old_key = refl

-- an earlier object that an import answers is imported from then on
an_import_of_an_earlier_object : (tally_of
    (run
    (bare op.EmptyDict ∷ global ∷ bare op.EmptyDict ∷ bare op.Build ∷ bare op.Stop ∷ [])
    (Go 0 Foreign ∷ Go 9 Foreign ∷ []) start)).builds ≡ true
an_import_of_an_earlier_object = refl

-- the bill is kept behind a PROTO, unless its sums are great, and needs memory for a mark
a_proto_is_kept : CantBeKept (bare op.Proto) no_bill → ⊥
a_proto_is_kept h = none (h (λ wants. wants))
  where
    none : IsLost (billed (bare op.Proto) no_bill) no_bill → ⊥
    none (inl many) = omega (arith, many)
    none (inr (inl great)) = omega (arith, great)
    none (inr (inr (inl great))) = omega (arith, great)
    none (inr (inr (inr great))) = omega (arith, great)

a_great_sum_is_not :
    CantBeKept (bare op.Proto) (record no_bill { memory = 18_446_744_073_709_551_600 })
a_great_sum_is_not w = inr (inl (omega arith))

a_mark_may_not_be : CantBeKept (bare op.Mark) no_bill
a_mark_may_not_be w = absurd (w tt)

-- the list of a LIST takes the place of its mark
abbrev marked : Bill
marked = record no_bill { shape = record { entries = Mark ∷ []; memo = [] } }

a_list_is_kept : CantBeKept (bare op.List) marked → ⊥
a_list_is_kept h = none (h tt)
  where
    none : IsLost (billed (bare op.List) marked) marked → ⊥
    none (inl many) = omega (arith, many)
    none (inr (inl great)) = omega (arith, great)
    none (inr (inr (inl great))) = omega (arith, great)
    none (inr (inr (inr great))) = omega (arith, great)

an_empty_list_may_not_be : CantBeKept (bare op.EmptyList) no_bill
an_empty_list_may_not_be w = absurd w

-- a number that is in use needs no memory
abbrev put : ℕ → Instruction
put number = instruction op.BinPut (Number 1 number)

abbrev bill_in : Result Bill Breach → Bill
bill_in (Ok bill) = bill
bill_in (Err breach) = no_bill

abbrev stored_once : Bill
stored_once = bill_in (all_billed (bare op.None ∷ put 0 ∷ []) no_bill)

a_used_number_is_kept : CantBeKept (put 0) stored_once → ⊥
a_used_number_is_kept h = none (h (λ unused. cc unused))
  where
    none : IsLost (billed (put 0) stored_once) stored_once → ⊥
    none (inl many) = omega (arith, many)
    none (inr (inl great)) = omega (arith, great)
    none (inr (inr (inl great))) = omega (arith, great)
    none (inr (inr (inr great))) = omega (arith, great)

a_new_number_may_not_be : CantBeKept (put 1) stored_once
a_new_number_may_not_be w = absurd (w refl)
