-- The spellings written so far and those of the instructions left are those of all.
use Rattle.std.proofs.Common.{◌≡◌, ◌++◌, drop, flat_map}
use Rattle.pkops.specs.Inst.{instruction_of}
use Rattle.pkops.specs.Spelling.{spelling}
use Rattle.pkops.proofs.writing.assemble.Given as goal

-- the spellings so far and those of what is left are those of all
abbrev pub invariant-loop-inst : goal.invariant-loop-inst
invariant-loop-inst l = l.out.items ++ flat_map (λ inst. spelling (instruction_of inst))
    (drop l.inst-index l.insts) ≡ flat_map (λ inst. spelling (instruction_of inst)) l.insts
