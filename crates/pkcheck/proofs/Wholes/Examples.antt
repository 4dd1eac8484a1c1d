-- Worked examples of the checker on whole lists of instructions, by computation.
use Rattle.pkmachine.specs.declared.old_strings.OldStrings.{OldStrings}
use Rattle.pkmachine.specs.declared.old_strings.OldStrings.TheVariants.{Unknown, Ascii, Bytes}
use Rattle.std.proofs.Common.{◌≡◌, ℕ, suc, ◌&&◌, List, [], ◌∷◌, Option, Some, None, Result, Ok, Err}
use Rattle.std.proofs.Common.{refl}
use Rattle.std.specs.Prelude.{nat_eq}
use Rattle.std.proofs.Math.Utf8.{encode}
use Rattle.std.specs.Cmp.Lexicographic.{pointwise}
use Rattle.pkops.specs.declared.Op.{Op}
use Rattle.pkops.specs.declared.Op.TheVariants as op
use Rattle.pkops.specs.Spelling.{Instruction, Nothing, Number, Pair, Counted, instruction}
use Rattle.pkops.specs.Limits.{Bounds, standard}
use Rattle.pkstack.specs.Shape.{NoItem, NoMemo, Odd}
use Rattle.pkmachine.specs.Knowledge.{Knowledge, Policy, Progress, Refusal, Lacks, WrongClass}
use Rattle.pkmachine.specs.Knowledge.{NotText, UnknownImport, OffList, LeftOver, NotAscii, TooLarge}
use Rattle.pkmachine.specs.Knowledge.{advance, nothing_known}
use Rattle.pkimport.specs.Import.{Asked, AskedPair, AskedUnknown}

abbrev pub bare : Op → Instruction
bare op = instruction op Nothing

abbrev pub text : List ℕ → Instruction
text t = instruction op.ShortBinUnicode (Counted t)

abbrev pub global : List ℕ → List ℕ → Instruction
global m n = instruction op.Global (Pair m n)

-- a memo opcode with an argument of one byte
abbrev pub at : Op → ℕ → Instruction
at op n = instruction op (Number 1 n)

-- the knowledge at the end with the imports, one entry for each instruction; or the number of the
-- refused instruction and the reason
data Verdict : Type 0 where
  Yes : Knowledge → List (Option Asked) → Verdict
  No : ℕ → Refusal → Verdict

-- the verdict with one more accepted instruction in front
abbrev with_import : Option Asked → Verdict → Verdict
with_import a (Yes k listed) = Yes k (a ∷ listed)
with_import a (No n r) = No (suc n) r

-- continues after a step
abbrev verdict_on : Result Progress Refusal → (Knowledge → Verdict) → Verdict
verdict_on (Ok q) f = with_import q.import (f q.after)
verdict_on (Err r) f = No 0 r

-- the verdict on these instructions, beginning with this knowledge
abbrev verdict : OldStrings → Policy → Bounds → List Instruction → Knowledge → Verdict
verdict setting p l [] k = Yes k []
verdict setting p l (i ∷ is) k = verdict_on (advance setting p l i k) (verdict setting p l is)

-- a list with one pair
abbrev one : List ℕ → List ℕ → Policy
one m n = Some (λ x y. pointwise nat_eq x m && pointwise nat_eq y n)

abbrev asks : Policy → List Instruction → Verdict
asks p is = verdict Unknown p standard is nothing_known

abbrev said : Verdict → Option (List (Option Asked))
said (Yes k as') = Some as'
said (No n r) = None

none_alone : asks (one [] []) (bare op.None ∷ bare op.Stop ∷ [])
    ≡ Yes (record { entries = []; memo = [] }) (None ∷ None ∷ [])
none_alone = refl

a_pair_off_the_list : asks (one [] []) (global (1 ∷ []) (2 ∷ []) ∷ [])
    ≡ No 0 (OffList (1 ∷ []) (2 ∷ []))
a_pair_off_the_list = refl

names_of_memoized_texts : said
    (asks (one (97 ∷ []) (98 ∷ []))
    (text (97 ∷ []) ∷ bare op.Memoize ∷ text (98 ∷ []) ∷ bare op.StackGlobal ∷ []))
    ≡ Some (None ∷ None ∷ None ∷ Some (AskedPair (97 ∷ []) (98 ∷ [])) ∷ [])
names_of_memoized_texts = refl

a_name_of_an_answer : asks (one (1 ∷ []) (2 ∷ []))
    (global (1 ∷ []) (2 ∷ []) ∷ bare op.None ∷ bare op.Reduce ∷ text (98 ∷ []) ∷ bare op.StackGlobal
    ∷ []) ≡ No 4 UnknownImport
a_name_of_an_answer = refl

a_mark_popped : asks (one [] []) (bare op.Mark ∷ bare op.Pop ∷ bare op.None ∷ bare op.Stop ∷ [])
    ≡ Yes (record { entries = []; memo = [] }) (None ∷ None ∷ None ∷ None ∷ [])
a_mark_popped = refl

a_mark_at_stop : asks (one [] []) (bare op.Mark ∷ bare op.Stop ∷ []) ≡ No 1 (Lacks NoItem)
a_mark_at_stop = refl

an_empty_slice : asks (one [] []) (bare op.Mark ∷ bare op.Obj ∷ bare op.Stop ∷ [])
    ≡ No 1 (Lacks NoItem)
an_empty_slice = refl

two_objects_at_stop : asks (one [] []) (bare op.None ∷ bare op.None ∷ bare op.Stop ∷ [])
    ≡ No 2 LeftOver
two_objects_at_stop = refl

no_memo_entry : asks (one [] [])
    (bare op.None ∷ at op.BinPut 5 ∷ bare op.Memoize ∷ at op.BinGet 6 ∷ bare op.Pop ∷ bare op.Stop
    ∷ []) ≡ No 3 (Lacks (NoMemo 6))
no_memo_entry = refl

memoize_counts_entries : said
    (asks (one [] [])
    (bare op.None ∷ at op.BinPut 5 ∷ bare op.Memoize ∷ at op.BinGet 1 ∷ bare op.Pop ∷ bare op.Stop
    ∷ [])) ≡ Some (None ∷ None ∷ None ∷ None ∷ None ∷ None ∷ [])
memoize_counts_entries = refl

an_odd_slice : asks (one [] []) (bare op.Mark ∷ bare op.None ∷ bare op.Dict ∷ []) ≡ No 2 (Lacks Odd)
an_odd_slice = refl

a_dict_to_append_to : asks (one [] []) (bare op.EmptyDict ∷ text (97 ∷ []) ∷ bare op.Append ∷ [])
    ≡ No 2 WrongClass
a_dict_to_append_to = refl

a_module_that_is_no_text : asks (one [] [])
    (bare op.None ∷ text (97 ∷ []) ∷ bare op.StackGlobal ∷ []) ≡ No 2 NotText
a_module_that_is_no_text = refl

an_odd_slice_before_a_list : asks (one [] [])
    (bare op.EmptyList ∷ bare op.Mark ∷ bare op.None ∷ bare op.SetItems ∷ []) ≡ No 3 (Lacks Odd)
an_odd_slice_before_a_list = refl

a_mark_below_a_mark : asks (one [] [])
    (bare op.Mark ∷ bare op.Mark ∷ bare op.None ∷ bare op.SetItems ∷ []) ≡ No 3 (Lacks NoItem)
a_mark_below_a_mark = refl

past_the_stack_limit : verdict Unknown None (record standard { stack = 1 })
    (bare op.None ∷ bare op.None ∷ bare op.Stop ∷ []) nothing_known ≡ No 1 TooLarge
past_the_stack_limit = refl

an_import_of_any_name : said
    (asks None
    (global (1 ∷ []) (2 ∷ []) ∷ text (98 ∷ []) ∷ bare op.StackGlobal ∷ bare op.Stop ∷ []))
    ≡ Some (Some (AskedPair (1 ∷ []) (2 ∷ [])) ∷ None ∷ Some AskedUnknown ∷ None ∷ [])
an_import_of_any_name = refl

-- ---- old strings

abbrev old : List ℕ → Instruction
old bytes = instruction op.ShortBinString (Counted bytes)

abbrev asks_as : OldStrings → List Instruction → Verdict
asks_as setting is = verdict setting (one (97 ∷ []) (98 ∷ [])) standard is nothing_known

-- the names a and b as old strings
abbrev old_names : List Instruction
old_names = old (97 ∷ []) ∷ old (98 ∷ []) ∷ bare op.StackGlobal ∷ bare op.Stop ∷ []

old_names_unknown : asks_as Unknown old_names ≡ No 2 UnknownImport
old_names_unknown = refl

old_names_ascii : said (asks_as Ascii old_names)
    ≡ Some (None ∷ None ∷ Some (AskedPair (97 ∷ []) (98 ∷ [])) ∷ None ∷ [])
unfolding encode
old_names_ascii = refl

old_names_bytes : asks_as Bytes old_names ≡ No 2 NotText
old_names_bytes = refl

-- a byte that is not ASCII
abbrev old_byte : List Instruction
old_byte = old (0xe9 ∷ []) ∷ bare op.Stop ∷ []

old_byte_unknown : said (asks_as Unknown old_byte) ≡ Some (None ∷ None ∷ [])
old_byte_unknown = refl

old_byte_ascii : asks_as Ascii old_byte ≡ No 0 NotAscii
old_byte_ascii = refl

old_byte_bytes : said (asks_as Bytes old_byte) ≡ Some (None ∷ None ∷ [])
old_byte_bytes = refl

-- the limit on the stack is tried later
old_byte_past_the_limit : verdict Ascii None (record standard { stack = 0 }) old_byte nothing_known
    ≡ No 0 NotAscii
old_byte_past_the_limit = refl

-- an item is appended to an old string
abbrev old_receiver : List Instruction
old_receiver = old [] ∷ bare op.None ∷ bare op.Append ∷ bare op.Stop ∷ []

old_receiver_unknown : said (asks_as Unknown old_receiver) ≡ Some (None ∷ None ∷ None ∷ None ∷ [])
old_receiver_unknown = refl

old_receiver_ascii : asks_as Ascii old_receiver ≡ No 2 WrongClass
old_receiver_ascii = refl

old_receiver_bytes : asks_as Bytes old_receiver ≡ No 2 WrongClass
old_receiver_bytes = refl
