-- How the code judges a whole instruction.
use Rattle.std.specs.Prelude.{◌≡◌, ℕ, Bool, true, false, List, None}
use Rattle.pkops.specs.Contents.{IsGood, rule_of}
use Rattle.pkops.specs.KnownLayout.{Lies}
use Rattle.pkops.specs.Spelling.{Argument, instruction}
use Rattle.pkops.specs.declared.Rule.{Rule}
use Rattle.pkops.specs.declared.Rule.TheVariants as rule
use Rattle.pkops.specs.declared.Fault.{Fault}
use Rattle.pkops.specs.declared.Fault.TheVariants as fault
use Rattle.pkops.specs.declared.Op.{Op}
use Rattle.pkops.specs.declared.Op.TheVariants as op
use Rattle.pkops.specs.declared.Reason.TheVariants.{BadArgument, TooLarge, UnknownOpcode}
use Rattle.pkread.specs.Admission.{objection}
use Rattle.pkread.specs.Rows.{Reason, IsAmiss}

-- the reason with the same name
abbrev pub fault_reason : Fault → Reason
fault_reason (fault.UnknownOpcode code) = UnknownOpcode code
fault_reason fault.BadArgument = BadArgument
fault_reason fault.TooLarge = TooLarge

abbrev is_anything : Rule → Bool
is_anything rule.Anything = true
is_anything _ = false

-- the opcode accepts every argument of its layout
abbrev pub is_plain : Op → Bool
is_plain op.Proto = false
is_plain op.Ext1 = false
is_plain op.Ext2 = false
is_plain op.Ext4 = false
is_plain o = is_anything (rule_of o)

-- every argument of the opcode's layout is good and admitted
pub record TakesAnyArgument (o : Op) : Type 0 where
  pub contents : rule_of o ≡ rule.Anything
  pub admitted : (arg : Argument) → objection (instruction o arg) ≡ None

-- an argument of the opcode is good if its payload is UTF-8, and then it is admitted
pub record TakesUtf8 (o : Op) : Type 0 where
  pub contents : rule_of o ≡ rule.Utf8
  pub admitted : (arg : Argument) → objection (instruction o arg) ≡ None

-- the bytes spell the opcode with some argument, under some limit
abbrev pub IsSpelled : Op → ℕ → List ℕ → Type 0
IsSpelled o split bytes = (limit : ℕ) × (arg : Argument) × Lies limit o arg split bytes

-- the argument is good and admitted
abbrev pub IsFine : Op → ℕ → List ℕ → Type 0
IsFine o split bytes =
    (limit : ℕ) (arg : Argument) → Lies limit o arg split bytes →
    IsGood (instruction o arg) × (objection (instruction o arg) ≡ None)

-- the argument is refused for this reason
abbrev pub IsFaulty : Op → ℕ → List ℕ → Reason → Type 0
IsFaulty o split bytes reason =
    (limit : ℕ) (arg : Argument) → Lies limit o arg split bytes → IsAmiss limit bytes reason
