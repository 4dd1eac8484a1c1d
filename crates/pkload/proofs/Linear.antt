-- What loading a pickle takes of memory is linear in its bytes, apart from what its memo numbers
-- take.
use Rattle.std.proofs.Common.{◌≡◌, ℕ, ◌+◌, ◌-◌, ◌*◌, ◌^◌, ◌<◌, ◌≤◌, max, Bool, true, false, cond}
use Rattle.std.proofs.Common.{List, [], ◌∷◌, ◌++◌, length, Result, Ok, Err, IfOk, refl, subst, ltb}
use Rattle.std.proofs.Common.{arith, length-append}
use Rattle.std.specs.Prelude.{All, unwrap_or}
use Rattle.std.specs.Char.{is_ascii}
use Rattle.std.specs.List.{filter, list_all}
use Rattle.std.proofs.lemmas.List.Elements.{All-head, All-tail}
use Rattle.std.proofs.lemmas.List.Sums.{count_by-le-length, length-filter}
use Rattle.pkops.specs.Contents.{IsGood, Keeps, rule_of}
use Rattle.pkops.specs.declared.contents.Rule.TheVariants as rule
use Rattle.pkops.specs.Escapes.{is_plain_ascii}
use Rattle.pkops.specs.Operands.{memo_number, number_said}
use Rattle.pkops.specs.Spelling.{Argument, Number, Line, Counted, Instruction, Suits, instruction}
use Rattle.pkops.specs.Spelling.{laid, layout_at, line_feed, spelling}
use Rattle.pkops.specs.declared.Op.{Op}
use Rattle.pkops.specs.declared.Op.TheVariants as op
use Rattle.pkops.specs.declared.layout.Layout.{Layout}
use Rattle.pkops.specs.declared.layout.Layout.TheVariants as layout
use Rattle.pkread.specs.Sequence.{spellings}
use Rattle.pkmachine.specs.Effects.{Effect, Operates, Moves, Stops, Raises, effect_of}
use Rattle.pkmachine.specs.declared.effect.Gives.{Gives}
use Rattle.pkstack.specs.declared.Move.{Move}
use Rattle.pkstack.specs.declared.Move.TheVariants as move
use Rattle.pkstack.specs.Shape.{Breach, NoItem, Entry, Item, Mark, Shape, Taken, moved}
use Rattle.pkstack.specs.Shape.{operands, put, top}
use Rattle.pkload.proofs.Few.{AddsOne, AreFew, moved_few, most_taken, ok_then, operands_few}
use Rattle.pkload.proofs.Few.{put_few}
use Rattle.pkload.specs.Bill.{Bill, all_billed, billed, billed_by, heft_given, move_billed, no_bill}
use Rattle.pkload.specs.Bill.{operation_billed, stop_billed}
use Rattle.pkload.specs.Heft.{Heft, argument_size}
use Rattle.pkload.specs.Memory.{argument_bytes, begins_character, held_memory, move_memory}
use Rattle.pkload.specs.Memory.{number_kept, operation_memory, plain_memory, set_memory}
use Rattle.pkload.specs.Memory.{text_memory, written_memory}

-- ---- what an instruction spells

-- a list is at least as long as its end
behind_long : (front back : List ℕ) → length back ≤ length (front ++ back)
behind_long front back = omega (arith, length-append front back)

-- an argument spells at least its line or payload
laid_long : (lay : Layout) (a : Argument) → argument_size a ≤ length (laid lay a)
laid_long lay (Line text) = omega (arith, length-append text (line_feed ∷ []))
laid_long (layout.Counted size signed) (Counted payload) = behind_long _ payload
laid_long _ (Counted payload) = omega arith
laid_long lay _ = omega arith

-- an instruction spells its code, and at least its line or payload
pub spelled_long : (i : Instruction) → 1 + argument_size i.arg ≤ length (spelling i)
spelled_long i = omega (arith, laid_long (layout_at i.op) i.arg)

-- ---- the tables of memory

-- an object without operands takes at most 480 bytes, and two for each byte of its argument
plain_small : (o : Op) (size : ℕ) → plain_memory o size ≤ 480 + 2 * size
plain_small op.Int size = omega arith
plain_small _ size = omega arith

-- the table of a set takes at most 144 bytes for each item, besides the least
set_small : (least items : ℕ) → set_memory least items ≤ least + 144 * items
set_small least items = either (ltb 4 items)
  where
    either : (q : Bool) → cond q (144 * items) (least + 8 * items) ≤ least + 144 * items
    either true = omega arith
    either false = omega arith

-- a dict takes at most 256 bytes, and 144 for each operand
dict_small : (q : Bool) (count : ℕ) → cond q (256 + 48 * count) 80 ≤ 256 + 144 * count
dict_small true count = omega arith
dict_small false count = omega arith

-- an object with operands takes at most 256 bytes, and 144 for each of them
held_small : (o : Op) (count : ℕ) → held_memory o count ≤ 256 + 144 * count
held_small op.Dict count = dict_small (ltb 0 count) count
held_small op.FrozenSet count = omega (arith, set_small 0 count)
held_small op.AddItems count = omega (arith, set_small 128 (count - 1))
held_small _ count = omega arith

-- no character takes more than four bytes
wide_small : (p q r : Bool) (count size : ℕ) → count ≤ size
    → cond p (64 + size) (88 + cond q 1 (cond r 2 4) * count) ≤ 88 + 4 * size
wide_small true q r count size h = omega arith
wide_small false true r count size h = omega arith
wide_small false false true count size h = omega arith
wide_small false false false count size h = omega arith

-- a text takes at most 88 bytes, and four for each byte in UTF-8
text_small : (bytes : List ℕ) → text_memory bytes ≤ 88 + 4 * length bytes
text_small bytes = wide_small (list_all is_ascii bytes)
    (list_all (λ byte. ltb byte 196) bytes) (list_all (λ byte. ltb byte 240) bytes)
    (length (filter begins_character bytes)) (length bytes) (omega (
      arith,
      length-filter begins_character bytes,
      count_by-le-length begins_character bytes,
    ))

-- so does the text of a line
line_small : (q : Bool) (size : ℕ) → cond q (64 + size) (88 + 4 * size) ≤ 88 + 4 * size
line_small true size = omega arith
line_small false size = omega arith

-- what is made of an argument's bytes takes at most 88 bytes, and four for each of them
written_small : (o : Op) (bytes : List ℕ) → written_memory o bytes ≤ 88 + 4 * length bytes
written_small op.Unicode bytes = line_small (list_all is_plain_ascii bytes) (length bytes)
written_small op.ShortBinUnicode bytes = text_small bytes
written_small op.BinUnicode bytes = text_small bytes
written_small op.BinUnicode8 bytes = text_small bytes
written_small _ bytes = omega arith

-- the bytes of an argument are as many as its size says
size_is : (a : Argument) → length (argument_bytes a) ≡ argument_size a
size_is (Line line) = refl
size_is _ = refl

-- an operation takes at most 840 bytes, six for each byte of its argument, and 144 for each operand
operation_small : (i : Instruction) (count : ℕ)
    → operation_memory i count ≤ 840 + 6 * argument_size i.arg + 144 * count
operation_small i count = omega (
  arith,
  plain_small i.op (argument_size i.arg),
  held_small i.op count,
  written_small i.op (argument_bytes i.arg),
  size_is i.arg,
)

-- ---- memo numbers

-- a number of one byte has at most 32 bits
byte_small : (a : Argument) → Suits layout.U1 a → unwrap_or (number_said a) 0 < 2 ^ 32
byte_small (Number width n) h = omega arith
byte_small _ h = absurd h

-- a number of four bytes has at most 32 bits
word_small : (a : Argument) → Suits layout.U4 a → unwrap_or (number_said a) 0 < 2 ^ 32
word_small (Number width n) h = h.1
word_small _ h = absurd h

-- the number in a line of GET or PUT has at most 32 bits
numeral_small : (a : Argument) → Keeps rule.MemoNumber a
    → unwrap_or (number_said a) 0 < 2 ^ 32
numeral_small (Line line) h = h.small
numeral_small _ h = absurd h

number_small_by : (o : Op) (a : Argument) → Suits (layout_at o) a → Keeps (rule_of o) a
    → memo_number (instruction o a) < 2 ^ 32
number_small_by op.Get a h g = numeral_small a g
number_small_by op.Put a h g = numeral_small a g
number_small_by op.BinGet a h g = byte_small a h
number_small_by op.BinPut a h g = byte_small a h
number_small_by op.LongBinGet a h g = word_small a h
number_small_by op.LongBinPut a h g = word_small a h
number_small_by _ a h g = omega arith

-- a memo number has at most 32 bits
number_small : (i : Instruction) → IsGood i → memo_number i < 2 ^ 32
number_small i h = number_small_by i.op i.arg h.suits h.contents

-- ---- bills

-- the bill behind so many bytes stays within them. An entry of the stack stands for 256 bytes, out
-- of which the operation that takes it away pays for what it adds
record IsWithin (n : ℕ) (b : Bill) : Type 0 where
  memory : b.memory + 256 * length b.shape.entries ≤ 1536 * n + 16 * b.highest
  highest : b.highest ≤ 2 ^ 32 + n
  memo : length b.shape.memo ≤ n

-- the bill, if there is one, stays within so many bytes
abbrev IfWithin : ℕ → Result Bill Breach → Type 0
IfWithin n x = IfOk x (IsWithin n)

-- a move stores under no number above those of the memo and of 32 bits
kept_small : (m : Move) (number kept : ℕ) → number < 2 ^ 32
    → number_kept m number kept ≤ 2 ^ 32 + kept
kept_small move.Stores number kept h = omega arith
kept_small _ number kept h = omega arith

-- a move takes at most 32 bytes, and 16 for each number above the highest before
move_small : (m : Move) (grown : ℕ) → move_memory m grown ≤ 32 + 16 * grown
move_small move.Pops grown = omega arith
move_small _ grown = omega arith

-- ---- a step of at least as many bytes as its instruction spells

module _ (n after : ℕ) (i : Instruction) (more : n + (1 + argument_size i.arg) ≤ after) (b : Bill)
    (h : IsWithin n b) where
  operation_within : (gives : Gives) (most : ℕ) (x : Result (Taken Heft) Breach)
      → IfOk x (AreFew most (length b.shape.entries))
      → IfWithin after (operation_billed gives i b x)
  operation_within gives most (Ok t) g = record {
    memory = omega (
      arith,
      operation_small i (length t.operands),
      length-append (put (heft_given gives i t.operands) t.operands) t.below,
      put_few (heft_given gives i t.operands) t.operands,
      g.together,
    );
    highest = omega arith;
    memo = omega arith;
  }
  operation_within gives most (Err r) g = tt

  move_within : (m : Move) (number : ℕ) (x : Result (Shape Heft) Breach)
      → number ≤ 2 ^ 32 + length b.shape.memo → IfOk x (AddsOne b.shape)
      → IfWithin after (move_billed m number b x)
  move_within m number (Ok a) k g = record {
    memory = omega (arith, move_small m (max b.highest number - b.highest), g.entries);
    highest = omega arith;
    memo = omega (arith, g.memo);
  }
  move_within m number (Err r) k g = tt

  stop_within : (es : List (Entry Heft)) → length es ≡ length b.shape.entries
      → IfWithin after (stop_billed b (top es))
  stop_within (Item item ∷ es) e = record {
    memory = omega arith;
    highest = omega arith;
    memo = omega arith;
  }
  stop_within (Mark ∷ es) e = tt
  stop_within [] e = tt

  effect_within : (e : Effect) → IsGood i → IfWithin after (billed_by e i b)
  effect_within (Operates takes names gives) good =
      operation_within gives (most_taken takes (length b.shape.entries))
      (operands takes b.shape.entries) (operands_few takes b.shape.entries)
  effect_within (Moves m) good =
      move_within m (number_kept m (memo_number i) (length b.shape.memo))
      (moved m (memo_number i) b.shape)
      (kept_small m (memo_number i) (length b.shape.memo) (number_small i good))
      (moved_few m (memo_number i) b.shape)
  effect_within Stops good = stop_within b.shape.entries refl
  effect_within Raises good = record {
    memory = omega arith;
    highest = omega arith;
    memo = omega arith;
  }

  billed_within : IsGood i → IfWithin after (billed i b)
  billed_within good =
      unless_ended b.ended (billed_by (effect_of i.op) i b) (effect_within (effect_of i.op) good)
    where
      unless_ended : (q : Bool) (x : Result Bill Breach) → IfWithin after x
          → IfWithin after (cond q (Err NoItem) x)
      unless_ended true x g = tt
      unless_ended false x g = g

-- ---- whole pickles

-- what is billed stays within the bytes that the instructions spell
all_within : (is : List Instruction) (n after : ℕ) (b : Bill)
    → n + length (spellings is) ≤ after → All IsGood is → IsWithin n b
    → IfWithin after (all_billed is b)
all_within [] n after b more good h = record {
  memory = omega arith;
  highest = omega arith;
  memo = omega arith;
}
all_within (i ∷ is) n after b more good h =
    ok_then (IsWithin (n + length (spelling i))) (IsWithin after) (billed i b) (all_billed is)
    (billed_within n (n + length (spelling i)) i (omega (arith, spelled_long i)) b h
    (All-head IsGood i is good))
    (λ c g. all_within is (n + length (spelling i)) after c
    (omega (arith, length-append (spelling i) (spellings is)))
    (All-tail IsGood i is good) g)

none_within : IsWithin 0 no_bill
none_within = record { memory = omega arith; highest = omega arith; memo = omega arith }

-- what loading a pickle takes of memory is linear in its bytes, apart from what its memo numbers
-- take
pub memory_is_linear : (is : List Instruction) (bill : Bill) → All IsGood is
    → all_billed is no_bill ≡ Ok bill
    → bill.memory ≤ 2048 * length (spellings is) + 2 ^ 40
memory_is_linear is bill good e =
    let h : IsWithin (length (spellings is)) bill =
    subst (IfWithin (length (spellings is))) e
    (all_within is 0 (length (spellings is)) no_bill (omega arith) good none_within) in
    omega arith

-- what loading a pickle of at most 2 ^ 40 bytes takes of memory fits 64 bits
pub memory_fits : (is : List Instruction) (bill : Bill) → All IsGood is
    → all_billed is no_bill ≡ Ok bill → length (spellings is) ≤ 2 ^ 40
    → bill.memory ≤ 18_446_744_073_709_551_615
memory_fits is bill good e short = omega (arith, memory_is_linear is bill good e)
