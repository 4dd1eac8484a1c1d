-- The bytes that a reader has at hand, and the instructions that are lent from among them.
use Rattle.std.specs.Prelude.{◌≡◌, ℕ, ◌+◌, ◌≤◌, List, ◌++◌, drop, length, option_map}
use Rattle.pkops.specs.Limits.{Bounds}
use Rattle.pkops.specs.Payloads.{payload_limit}
use Rattle.pkops.specs.Spelling.{Instruction, spelling}
use Rattle.pkread.specs.Admission.{IsAllowedBy}
use Rattle.pkread.specs.Core.{Open, phase_after}
use Rattle.pkread.specs.Framing.{other}
use Rattle.pkread.specs.Pieces.{number_of, role_of}
use Rattle.pkread.specs.Pull.{BeginsWith}
use Rattle.pkread.specs.ReaderCalls.{ReaderState}
use Rattle.pkread.specs.Rows.{all_bytes}

-- these are the next bytes of an open reader, which may take all of them
pub record AreNext (s : ReaderState) (bytes : List ℕ) : Type 0 where
  pub phase : s.phase ≡ Open
  pub begins : BeginsWith s.source.left bytes
  pub within : s.taken + length bytes ≤ all_bytes

-- the bytes begin with this instruction, which is neither STOP nor FRAME, and whose payload is
-- within the limit of its opcode
pub record IsLent (limits : Bounds) (bytes : List ℕ) (i : Instruction) : Type 0 where
  pub goes_on : phase_after i.op ≡ Open
  pub role : role_of i.op (number_of i.arg) ≡ other
  pub allowed : IsAllowedBy (payload_limit limits) i
  pub rest : List ℕ
  pub spelled : bytes ≡ spelling i ++ rest

-- the state of a reader once it has taken so many of the bytes at hand
abbrev pub beyond : ℕ → ReaderState → ReaderState
beyond count s = record s {
  source = record s.source { left = option_map (drop count) s.source.left };
  taken = s.taken + count;
}
