-- Which instructions a reader admits.
use Rattle.std.specs.Prelude.{ℕ, Bool, true, false, nat_le}
use Rattle.pkops.specs.declared.op.Op.TheVariants as op
use Rattle.pkops.specs.Spelling.{Op, Argument, Number, Instruction}

-- the highest protocol known (PEP 574)
abbrev pub highest_protocol : ℕ
highest_protocol = 5

-- the protocol that an argument names is known
abbrev is_known : Argument → Bool
is_known (Number width protocol) = nat_le protocol highest_protocol
is_known _ = false

-- every instruction except EXT1, EXT2 and EXT4, whose registry (PEP 307, The extension registry)
-- lies outside the pickle, and a PROTO of an unknown protocol
abbrev pub is_admitted_by : Op → Argument → Bool
is_admitted_by op.Ext1 _ = false
is_admitted_by op.Ext2 _ = false
is_admitted_by op.Ext4 _ = false
is_admitted_by op.Proto arg = is_known arg
is_admitted_by _ _ = true

-- whether a reader admits the instruction
abbrev pub is_admitted : Instruction → Bool
is_admitted i = is_admitted_by i.op i.arg
