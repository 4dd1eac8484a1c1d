-- Which instructions a reader returns, and why it refuses the others.
use Rattle.std.specs.Prelude.{ℕ, Option, None, Some, IsTrue, if◌then◌else◌}
use Rattle.pkops.specs.Admitted.{is_admitted}
use Rattle.pkops.specs.Contents.{IsGood}
use Rattle.pkops.specs.Scans.{IsWithin}
use Rattle.pkops.specs.Spelling.{Argument, Number, Instruction}
use Rattle.pkops.specs.declared.Op.{Op}
use Rattle.pkops.specs.declared.Op.TheVariants as op
use Rattle.pkops.specs.declared.Reason.{Reason}
use Rattle.pkops.specs.declared.Reason.TheVariants.{ExtensionCode, UnsupportedProtocol}

-- the reason for refusing an instruction that isn't admitted: a PROTO above the highest protocol,
-- or an extension code
abbrev pub unadmitted_by : Op → Argument → Reason
unadmitted_by op.Proto (Number width protocol) = UnsupportedProtocol protocol
unadmitted_by _ _ = ExtensionCode

-- the reason for refusing a good instruction, or None if it is admitted
abbrev pub objection : Instruction → Option Reason
objection i = if is_admitted i then None else Some (unadmitted_by i.op i.arg)

-- what a reader returns: a good, admitted instruction whose payload is within the limit
pub record IsAllowed (limit : ℕ) (i : Instruction) : Type 0 where
  pub good : IsGood i
  pub within : IsWithin limit i.arg
  pub admitted : IsTrue (is_admitted i)

-- like IsAllowed, with a limit that depends on the opcode
abbrev pub IsAllowedBy : (Op → ℕ) → Instruction → Type 0
IsAllowedBy limit i = IsAllowed (limit i.op) i
