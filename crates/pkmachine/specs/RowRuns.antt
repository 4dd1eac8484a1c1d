-- Where the runs of a pickle begin: with nothing, or after other pickles of a row, under one
-- Unpickler that keeps its memo.
use Rattle.std.specs.Prelude.{◌≡◌, All, List, [], ◌∷◌, ◌++◌, map, flat_map, Option, Some, None}
use Rattle.pkops.specs.Spelling.{Instruction}
use Rattle.pkmachine.specs.declared.old_strings.OldStrings.{OldStrings}
use Rattle.pkimport.specs.Import.{Asked}
use Rattle.pkmachine.specs.Faults.{Arrivals}
use Rattle.pkmachine.specs.Runs.{State, Outcome, CanCome, Stopped, start}
use Rattle.pkmachine.specs.WholeRuns.{Ended, EndedBy, CanGetTo, GetsTo, run_as}

-- a pickle of a row: its instructions, and its imports in order
pub record Pickle : Type 0 where
  pub instructions : List Instruction
  pub imports : List Asked

-- the instructions of each pickle
abbrev pub sequences_of : List Pickle → List (List Instruction)
sequences_of pickles = map (λ pickle. pickle.instructions) pickles

-- the imports of all pickles, in order
abbrev pub imports_of_all : List Pickle → List Asked
imports_of_all pickles = flat_map (λ pickle. pickle.imports) pickles

-- after a pickle stops, the next one begins with an empty stack and the same memo, objects and
-- events; a pickle that raises or is stuck ends the row
abbrev pub next_from : Ended → (State → Option State) → Option State
next_from (EndedBy (Stopped result state)) next =
    next (record state { shape = record { entries = []; memo = state.shape.memo } })
next_from ended next = None

-- the run of pickles under one Unpickler, each with its own outcomes: the state in which the next
-- pickle begins, if it gets there
abbrev pub run_row : OldStrings → List (List Instruction) → List (List Outcome) → State
    → Option State
run_row setting [] outcomes state = Some state
run_row setting (pickle ∷ pickles) [] state = None
run_row setting (pickle ∷ pickles) (first ∷ others) state =
    next_from (run_as setting pickle first state) (run_row setting pickles others)

-- where the runs of a pickle begin: with nothing, or where the runs of these pickles ended
pub data Beginning : Type 0 where
  Afresh : Beginning
  Behind : List Pickle → Beginning

-- some run of these pickles leads to this state, in which the next begins
abbrev pub ComesTo : OldStrings → List Pickle → State → Type 0
ComesTo setting pickles state =
    (outcomes : List (List Outcome))
    × (run_row setting (sequences_of pickles) outcomes start ≡ Some state)

-- like ComesTo, with only possible outcomes
abbrev pub CanComeTo : OldStrings → List Pickle → State → Type 0
CanComeTo setting pickles state =
    (outcomes : List (List Outcome))
    × All (All CanCome) outcomes
    × (run_row setting (sequences_of pickles) outcomes start ≡ Some state)

-- some run of a pickle that begins like this executes these instructions and reaches this state
abbrev pub Arrives : OldStrings → Beginning → List Instruction → State → Type 0
Arrives setting Afresh before state = GetsTo setting before start state
Arrives setting (Behind pickles) before state =
    (first : State) × ComesTo setting pickles first × GetsTo setting before first state

-- like Arrives, with only possible outcomes
abbrev pub CanArrive : OldStrings → Beginning → List Instruction → State → Type 0
CanArrive setting Afresh before state = CanGetTo setting before start state
CanArrive setting (Behind pickles) before state =
    (first : State) × CanComeTo setting pickles first × CanGetTo setting before first state

-- some run gets to each of these instructions, with only possible outcomes before it
abbrev pub EachIsReached : OldStrings → Beginning → List Instruction → Type 0
EachIsReached setting beginning instructions =
    (before : List Instruction) (instruction : Instruction) (after : List Instruction)
    → instructions ≡ before ++ instruction ∷ after
    → (state : State) × CanArrive setting beginning before state

-- every run of these instructions that begins like this has this property
abbrev pub InEachRunFrom : OldStrings → Beginning → List Instruction → (Ended → Type 0) → Type 0
InEachRunFrom setting Afresh instructions Holds =
    (outcomes : List Outcome) → Holds (run_as setting instructions outcomes start)
InEachRunFrom setting (Behind pickles) instructions Holds =
    (first : State) (outcomes : List Outcome)
    → ComesTo setting pickles first
    → Holds (run_as setting instructions outcomes first)

-- the imports of earlier pickles
abbrev pub listed_before : Beginning → List Asked
listed_before Afresh = []
listed_before (Behind pickles) = imports_of_all pickles

-- the runs of a pickle that reach the instruction after these; the outcomes of a witness are
-- possible ones
abbrev pub RunsFrom : OldStrings → Beginning → List Instruction → Arrivals
RunsFrom setting beginning before = record {
  setting = setting;
  any = Arrives setting beginning before;
  some = CanArrive setting beginning before;
  outcome = CanCome;
}

-- like RunsFrom, for a single pickle
abbrev pub RunsBehind : OldStrings → List Instruction → Arrivals
RunsBehind setting before = RunsFrom setting Afresh before
