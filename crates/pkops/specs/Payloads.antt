-- Counted payloads, and which of them a reader may skip.
use Rattle.std.specs.Prelude.{◌≡◌, ℕ, ◌==◌, ◌≤◌, ◌||◌, Bool, true, false, List, [], ◌∷◌, length}
use Rattle.std.specs.Prelude.{if◌then◌else◌}
use Rattle.pkops.specs.declared.layout.Layout.TheVariants as layout
use Rattle.pkops.specs.declared.op.Op.TheVariants as op
use Rattle.pkops.specs.Limits.{Bounds}
use Rattle.pkops.specs.KnownLayout.{count_in}
use Rattle.pkops.specs.Spelling.{Width, layout_at, size_of}
use Rattle.pkops.specs.Table.{Op, code_of}

-- opcodes with a byte payload, for bytes or a bytearray (PEP 574), which may contain any bytes
abbrev pub is_passed : Op → Bool
is_passed op.BinBytes = true
is_passed op.ShortBinBytes = true
is_passed op.BinBytes8 = true
is_passed op.ByteArray8 = true
is_passed _ = false

-- the limit on the opcode's payload, for a reader that skips byte payloads
abbrev pub payload_limit : Bounds → Op → ℕ
payload_limit limits op = if is_passed op then limits.passed else limits.counted

-- the byte is the code of an opcode whose payload may be skipped
abbrev pub is_passed_code : ℕ → Bool
is_passed_code code =
    (code_of op.BinBytes == code) || (code_of op.ShortBinBytes == code)
    || (code_of op.BinBytes8 == code) || (code_of op.ByteArray8 == code)

-- the limit on the payload of an instruction, found from its bytes or a prefix of them
abbrev pub payload_limit_at : Bounds → List ℕ → ℕ
payload_limit_at limits [] = limits.counted
payload_limit_at limits (code ∷ behind) =
    if is_passed_code code then limits.passed else limits.counted

-- the bytes begin with the code of an opcode with a counted argument, followed by this count
pub record HasCount (op : Op) (bytes : List ℕ) (count : ℕ) : Type 0 where
  pub size : Width
  pub signed : Bool
  pub behind : List ℕ
  pub lay : layout_at op ≡ layout.Counted size signed
  pub begins : bytes ≡ code_of op ∷ behind
  pub whole : size_of size ≤ length behind
  pub count_is : count ≡ count_in size behind
