-- What happens to each instruction in the slim form, as the second pass decides it.
use Rattle.std.specs.Prelude.{◌≡◌, ℕ, ◌+◌, cond, nat_eq, List, [], Option, None, Some}
use Rattle.std.specs.Prelude.{slice_index_or}
use Rattle.pkops.specs.declared.Op.{Op}
use Rattle.pkops.specs.Spelling.{Instruction}
use Rattle.pkopt.specs.declared.fate.Fate.{Fate}
use Rattle.pkopt.specs.declared.fate.Fate.TheVariants.{Goes, Stays, Gets, IsPast}
use Rattle.pkopt.specs.declared.fate.Plan.{Plan}
use Rattle.pkopt.specs.declared.memo.MemoUse.{MemoUse}
use Rattle.pkopt.specs.declared.memo.MemoUse.TheVariants.{Stores, StoresNext, Fetches, Neither}
use Rattle.pkopt.specs.Private.Passes.{AreNumbers, memo_use}
use Rattle.pkopt.specs.Slim.{is_frame}
use Rattle.pkopt.specs.Writers.{sources}

-- the fate of a write under a number that the instruction names
abbrev pub stored_fate : ℕ → Option ℕ → Fate
stored_fate limit None = Goes
stored_fate limit (Some n) = cond (nat_eq n limit) IsPast (Gets n)

-- the fate of a write under the number of memo entries
abbrev pub next_fate : ℕ → Option ℕ → Fate
next_fate limit None = Goes
next_fate limit (Some n) = cond (nat_eq n limit) IsPast Stays

-- the fate of a read of a write with this new number
abbrev pub kept_fate : Option ℕ → Fate
kept_fate None = Goes
kept_fate (Some n) = Gets n

-- the fate of a read
abbrev pub fetched_fate : List (Option ℕ) → Option ℕ → Fate
fetched_fate numbers None = Stays
fetched_fate numbers (Some w) = kept_fate (slice_index_or numbers w None)

-- the fate of an instruction that does not use the memo
abbrev pub passed_fate : Op → Fate
passed_fate o = cond (is_frame o) Goes Stays

-- the fate of an instruction after this many writes and reads
abbrev pub fate_by : MemoUse → (sources numbers : List (Option ℕ)) → ℕ → Op → ℕ → ℕ → Fate
fate_by Stores sources numbers limit o writes reads =
    stored_fate limit (slice_index_or numbers writes None)
fate_by StoresNext sources numbers limit o writes reads =
    next_fate limit (slice_index_or numbers writes None)
fate_by Fetches sources numbers limit o writes reads =
    fetched_fate numbers (slice_index_or sources reads None)
fate_by Neither sources numbers limit o writes reads = passed_fate o

-- the fate of an instruction under a plan
abbrev pub fate_in : Plan → Op → ℕ → ℕ → Fate
fate_in plan o writes reads =
    fate_by (memo_use o) plan.sources.items plan.numbers.items plan.limit o writes reads

-- the number of writes after an instruction
abbrev pub writes_after : MemoUse → ℕ → ℕ
writes_after Stores writes = writes + 1
writes_after StoresNext writes = writes + 1
writes_after _ writes = writes

abbrev pub reads_after : MemoUse → ℕ → ℕ
reads_after Fetches reads = reads + 1
reads_after _ reads = reads

-- the plan fits this pickle
pub record IsPlanFor (p : List Instruction) (plan : Plan) : Type 0 where
  pub reads : plan.sources.items ≡ sources [] p
  pub numbers : AreNumbers (sources [] p) plan.limit plan.numbers.items
