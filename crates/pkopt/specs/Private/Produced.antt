-- The bytes that the second pass produces.
use Rattle.std.specs.Prelude.{ℕ, ◌+◌, ◌-◌, cond, List, [], ◌∷◌, ◌++◌, take, drop, Option, None}
use Rattle.std.specs.Prelude.{Some}
use Rattle.pkops.specs.declared.Op.{Op}
use Rattle.pkops.specs.Operands.{names_memo_entry}
use Rattle.pkops.specs.Spelling.{Nothing, instruction, spelling}
use Rattle.pkopt.specs.declared.fate.Fate.{Fate}
use Rattle.pkopt.specs.declared.fate.Fate.TheVariants.{Stays, Gets, IsPast}
use Rattle.pkopt.specs.declared.fate.Plan.{Plan}
use Rattle.pkopt.specs.declared.place.Place.{Place}
use Rattle.pkopt.specs.declared.slim.Pass.{Pass}
use Rattle.pkopt.specs.Private.Fates.{fate_in, reads_after, writes_after}
use Rattle.pkopt.specs.Private.Passes.{memo_use}
use Rattle.pkopt.specs.Slim.{renumbered}

-- the bytes between these offsets
abbrev pub between : ℕ → ℕ → List ℕ → List ℕ
between from here bytes = take (here - from) (drop from bytes)

-- a memo instruction of this opcode with this number; nothing for other opcodes
abbrev pub respelled : Op → ℕ → List ℕ
respelled o n = cond (names_memo_entry o) (spelling (renumbered n (instruction o Nothing))) []

-- before the first instruction
abbrev pub at_start : Pass
at_start = record { writes = 0; reads = 0; from = 0 }

-- the fate of the instruction at a place
abbrev pub fate_at : Plan → Place → Pass → Fate
fate_at plan place s = fate_in plan place.op s.writes s.reads

-- what is produced at an instruction with this fate: the unchanged bytes before it, if something
-- else follows them, and its new spelling
abbrev pub emitted : Fate → Place → List ℕ → ℕ → List ℕ
emitted Stays place bytes from = []
emitted (Gets n) place bytes from = between from place.at bytes ++ respelled place.op n
emitted fate place bytes from = between from place.at bytes

-- the offset of the first byte not produced yet
abbrev pub from_after : Fate → Place → ℕ → ℕ
from_after Stays place from = from
from_after fate place from = place.at + place.size

-- the pass after the instruction at a place
abbrev pub passed : Plan → Place → Pass → Pass
passed plan place s = record {
  writes = writes_after (memo_use place.op) s.writes;
  reads = reads_after (memo_use place.op) s.reads;
  from = from_after (fate_at plan place s) place s.from;
}

-- what is produced of a pickle that ends here, from a pass on, before these places
abbrev pub produced : Plan → List ℕ → ℕ → List Place → Pass → List ℕ
produced plan bytes taken [] s = between s.from taken bytes
produced plan bytes taken (x ∷ xs) s =
    emitted (fate_at plan x s) x bytes s.from ++ produced plan bytes taken xs (passed plan x s)

-- this offset if the fate is to be past the limit
abbrev pub past_by : Fate → ℕ → Option ℕ → Option ℕ
past_by IsPast at later = Some at
past_by fate at later = later

-- the offset of the first write that is read and whose number would be the limit, if there is one,
-- after this many writes and reads
abbrev pub first_past : Plan → List Place → ℕ → ℕ → Option ℕ
first_past plan [] writes reads = None
first_past plan (x ∷ xs) writes reads =
    past_by (fate_in plan x.op writes reads) x.at
    (first_past plan xs (writes_after (memo_use x.op) writes) (reads_after (memo_use x.op) reads))
