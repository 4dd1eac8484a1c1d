-- Which memo write each memo read reads.
use Rattle.std.specs.Prelude.{ℕ, zero, suc, Bool, false, cond, nat_eq, ◌||◌, List, [], ◌∷◌, ◌++◌}
use Rattle.std.specs.Prelude.{length, Option, None, Some}
use Rattle.pkops.specs.Spelling.{Instruction}
use Rattle.pkops.specs.Operands.{memo_number}
use Rattle.pkstack.specs.declared.Move.TheVariants.{Stores, StoresNext, Fetches}
use Rattle.pkmachine.specs.Effects.{Effect, Moves, effect_of}

-- the numbers of the memo writes so far, the last first. A write is named by the number of writes
-- before it
abbrev pub Writes : Type 0
Writes = List ℕ

-- the last write with this number
abbrev pub last_write : ℕ → Writes → Option ℕ
last_write n [] = None
last_write n (m ∷ ws) = cond (nat_eq n m) (Some (length ws)) (last_write n ws)

-- n + 1 if there is none
abbrev pub more_if_none : {A : Type 0} → Option A → ℕ → ℕ
more_if_none None n = suc n
more_if_none (Some w) n = n

-- how many distinct numbers the writes have, which is the number of memo entries
abbrev pub different : Writes → ℕ
different [] = 0
different (n ∷ ws) = more_if_none (last_write n ws) (different ws)

-- the writes after an instruction with this effect, which names this number
abbrev pub wrote : Effect → ℕ → Writes → Writes
wrote (Moves Stores) n ws = n ∷ ws
wrote (Moves StoresNext) n ws = different ws ∷ ws
wrote e n ws = ws

-- the writes after this instruction
abbrev pub after : Instruction → Writes → Writes
after i ws = wrote (effect_of i.op) (memo_number i) ws

-- the write that such an instruction reads, if it reads the memo; its number may have none
abbrev pub read_by : Effect → ℕ → Writes → List (Option ℕ)
read_by (Moves Fetches) n ws = last_write n ws ∷ []
read_by e n ws = []

-- the write that each memo read reads, after the writes `ws`
abbrev pub sources : Writes → List Instruction → List (Option ℕ)
sources ws [] = []
sources ws (i ∷ is) = read_by (effect_of i.op) (memo_number i) ws ++ sources (after i ws) is

-- the write is this one
abbrev pub is_this : ℕ → Option ℕ → Bool
is_this w None = false
is_this w (Some v) = nat_eq w v

-- some read reads this write
abbrev pub is_read : ℕ → List (Option ℕ) → Bool
is_read w [] = false
is_read w (v ∷ vs) = is_this w v || is_read w vs

-- how many earlier writes are read
abbrev pub new_number : List (Option ℕ) → ℕ → ℕ
new_number vs zero = 0
new_number vs (suc w) = cond (is_read w vs) (suc (new_number vs w)) (new_number vs w)

-- the writes after all these instructions
abbrev pub after_all : List Instruction → Writes → Writes
after_all [] ws = ws
after_all (i ∷ is) ws = after_all is (after i ws)
