-- Worked examples of runs of a row under one Unpickler, by computation.
use Rattle.pkmachine.specs.declared.old_strings.OldStrings.TheVariants.{Unknown}
use Rattle.std.proofs.Common.{◌≡◌, ℕ, List, [], ◌∷◌, Option, Some, None, true, refl}
use Rattle.pkops.specs.Spelling.{Instruction}
use Rattle.pkops.specs.declared.Op.TheVariants as op
use Rattle.pkmachine.specs.declared.memo.Memo.TheVariants.{Fresh, Kept}
use Rattle.pkmachine.specs.declared.effect.Class.TheVariants as class
use Rattle.pkmachine.specs.Covers.{imports_of}
use Rattle.pkcheck.specs.RowOfPickles.{begins}
use Rattle.pkmachine.specs.RowRuns.{Afresh, Behind, Pickle, run_row}
use Rattle.pkmachine.specs.Runs.{Did, Event, Foreign, Go, Outcome, Plain, Raise, State, WentOn}
use Rattle.pkmachine.specs.Runs.{Raised, Stopped, Stuck, start}
use Rattle.pkstack.specs.Shape.{NoItem, NoMark, NoMemo}
use Rattle.pkmachine.specs.WholeRuns.{Ended, EndedBy, Reached, run}
use Rattle.pkcheck.proofs.Wholes.Examples.{at, bare, text}

abbrev get : ℕ → Instruction
get n = at op.BinGet n

abbrev row : List (List Instruction) → List (List Outcome) → Option State
row pickles outcomes = run_row Unknown pickles outcomes start

-- an append that goes on
abbrev goes : List Outcome
goes = Go 0 Foreign ∷ []

abbrev events_of : Ended → List Event
events_of (Reached s) = s.events
events_of (EndedBy (WentOn s)) = s.events
events_of (EndedBy (Raised s)) = s.events
events_of (EndedBy (Stopped r s)) = s.events
events_of (EndedBy (Stuck b)) = []

-- ---- a dict, and then a list that contains it, as one Pickler writes them

abbrev a_dict : List Instruction
a_dict = bare op.EmptyDict ∷ bare op.Memoize ∷ bare op.Stop ∷ []

abbrev a_list : List Instruction
a_list = bare op.EmptyList ∷ bare op.Memoize ∷ get 0 ∷ bare op.Append ∷ bare op.Stop ∷ []

abbrev behind_the_dict : State
behind_the_dict = record {
  shape = record { entries = []; memo = (0, 0) ∷ [] };
  objects = record { class_of = Plain class.Dict; made = true } ∷ [];
  events = Did (bare op.EmptyDict) [] (Some 0) ∷ [];
}

-- after the dict the stack is empty, and the memo, the object and the event are kept
the_list_begins : row (a_dict ∷ []) ([] ∷ []) ≡ Some behind_the_dict
the_list_begins = refl

-- the list contains the dict
it_holds_the_dict : events_of (run a_list goes behind_the_dict)
    ≡ Did (bare op.EmptyDict) [] (Some 0) ∷ Did (bare op.EmptyList) [] (Some 1)
    ∷ Did (bare op.Append) (1 ∷ 0 ∷ []) None ∷ []
it_holds_the_dict = refl

-- read alone, the list contains itself
it_holds_itself : events_of (run a_list goes start) ≡ Did (bare op.EmptyList) [] (Some 0)
    ∷ Did (bare op.Append) (0 ∷ 0 ∷ []) None ∷ []
it_holds_itself = refl

-- ---- texts of one pickle that name the import of another

abbrev two_texts : List Instruction
two_texts = text (1 ∷ []) ∷ bare op.Memoize ∷ text (2 ∷ []) ∷ bare op.Memoize ∷ bare op.Tuple2
    ∷ bare op.Stop ∷ []

abbrev an_import : List Instruction
an_import = text (3 ∷ []) ∷ bare op.Memoize ∷ bare op.Pop ∷ text (4 ∷ []) ∷ bare op.Memoize
    ∷ bare op.Pop ∷ get 0 ∷ get 1 ∷ bare op.StackGlobal ∷ bare op.Stop ∷ []

abbrev pairs_of : Option State → List (List ℕ × List ℕ)
pairs_of (Some s) = imports_of s.events
pairs_of None = []

of_its_own_texts : pairs_of (row (an_import ∷ []) (goes ∷ [])) ≡ (3 ∷ [], 4 ∷ []) ∷ []
of_its_own_texts = refl

of_the_texts_before : pairs_of (row (two_texts ∷ an_import ∷ []) ([] ∷ goes ∷ []))
    ≡ (1 ∷ [], 2 ∷ []) ∷ []
of_the_texts_before = refl

-- ---- the end of a row

abbrev none_alone : List Instruction
none_alone = bare op.None ∷ bare op.Stop ∷ []

-- no item and no mark is left for the next pickle
abbrev two_left : List Instruction
two_left = bare op.Mark ∷ bare op.None ∷ bare op.None ∷ bare op.Stop ∷ []

abbrev entry_taken : Option State → List Instruction → Ended
entry_taken (Some s) p = run p [] s
entry_taken None p = Reached start

no_item_is_left : entry_taken (row (two_left ∷ []) ([] ∷ [])) (bare op.Pop ∷ [])
    ≡ EndedBy (Stuck NoItem)
no_item_is_left = refl

no_mark_is_left : entry_taken (row (two_left ∷ []) ([] ∷ [])) (bare op.PopMark ∷ [])
    ≡ EndedBy (Stuck NoMark)
no_mark_is_left = refl

-- a pickle that is stuck or raises ends the row
a_stuck_pickle_ends_it : row ((bare op.Pop ∷ []) ∷ none_alone ∷ []) ([] ∷ [] ∷ []) ≡ None
a_stuck_pickle_ends_it = refl

a_raise_ends_it : row (a_list ∷ none_alone ∷ []) ((Raise ∷ []) ∷ [] ∷ []) ≡ None
a_raise_ends_it = refl

no_entry_alone : run (get 0 ∷ []) [] start ≡ EndedBy (Stuck (NoMemo 0))
no_entry_alone = refl

-- ---- the reader that each setting describes

each_afresh : (before : List Pickle) → begins Fresh before ≡ Afresh
each_afresh before = refl

first_is_alone : begins Kept [] ≡ Afresh
first_is_alone = refl

each_behind_those_before : (x : Pickle) (before : List Pickle)
    → begins Kept (x ∷ before) ≡ Behind (x ∷ before)
each_behind_those_before x before = refl
