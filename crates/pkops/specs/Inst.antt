-- The instruction that the program's `Inst` stands for.
use Rattle.pkops.specs.declared.inst.Inst.{Inst}
use Rattle.pkops.specs.Behind.{argument_in}
use Rattle.pkops.specs.Spelling.{Instruction, instruction}

-- the opcode and the argument as values, whatever memory holds them
abbrev pub instruction_of : Inst → Instruction
instruction_of inst = instruction inst.op (argument_in inst.op inst.form)
