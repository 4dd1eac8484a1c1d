-- What is at the front of some bytes: an instruction, the beginning of one, or a fault.
use Rattle.std.specs.Prelude.{◌≡◌, ◌≢◌, ◌⊎◌, ℕ, ◌+◌, ◌<◌, ◌≤◌, List, [], ◌∷◌, ◌++◌, length, take}
use Rattle.std.specs.Prelude.{drop, max, ⊤}
use Rattle.std.specs.List.{AllByRecursion}
use Rattle.byteorder.specs.Endian.{little_number}
use Rattle.pkops.specs.declared.layout.Layout.TheVariants as layout
pub use Rattle.pkops.specs.declared.fault.Fault.{Fault}
use Rattle.pkops.specs.declared.fault.Fault.TheVariants.{UnknownOpcode, BadArgument, TooLarge}
use Rattle.pkops.specs.Table.{Op, code_of}
use Rattle.pkops.specs.Spelling.{Layout, Argument, Counted, Instruction, Suits, layout_at, spelling}
use Rattle.pkops.specs.Spelling.{count_limit, size_of, line_feed, IsLine}
use Rattle.pkops.specs.Contents.{IsGood}

-- a payload has at most `limit` bytes
abbrev pub IsWithin : ℕ → Argument → Type 0
IsWithin limit (Counted payload) = length payload ≤ limit
IsWithin limit _ = ⊤

-- an argument of the opcode's kind, good or not, that exceeds no limit
pub record IsLaid (limit : ℕ) (i : Instruction) : Type 0 where
  pub suits : Suits (layout_at i.op) i.arg
  pub within : IsWithin limit i.arg

-- the bytes are a good instruction
pub record Spells (i : Instruction) (bytes : List ℕ) : Type 0 where
  pub spelled : bytes ≡ spelling i
  pub good : IsGood i

-- the length of an argument's count field
abbrev pub count_len : Layout → ℕ
count_len (layout.Counted size signed) = size_of size
count_len _ = 0

-- an argument that the bytes may begin: it has the layout, and once its count is complete it is
-- within the limit
pub record MayBegin (limit : ℕ) (lay : Layout) (arg : Argument) (bytes : List ℕ) : Type 0 where
  pub suits : Suits lay arg
  pub within : count_len lay ≤ length bytes → IsWithin limit arg

-- the bytes followed by one or more others spell an instruction of its opcode's layout
pub record Begins (limit : ℕ) (bytes : List ℕ) (i : Instruction) (more : List ℕ) : Type 0 where
  pub may : MayBegin limit (layout_at i.op) i.arg (drop 1 bytes)
  pub parts : spelling i ≡ bytes ++ more
  pub lacks : more ≢ []

-- the bytes are a proper prefix of an instruction. That instruction may be bad: its contents are
-- checked once it is complete
abbrev pub Begun : ℕ → List ℕ → Type 0
Begun limit bytes = (i : Instruction) × (more : List ℕ) × Begins limit bytes i more

-- too many bytes for a line, with no line feed among them
pub record IsLong (most : ℕ) (bytes : List ℕ) : Type 0 where
  pub long : most < length bytes
  pub endless : AllByRecursion (λ byte. byte ≢ line_feed) (take (most + 1) bytes)

-- the count is complete and negative
abbrev pub IsNegative : Layout → List ℕ → Type 0
IsNegative (layout.Counted size signed) bytes =
    (size_of size ≤ length bytes) × (count_limit size signed ≤ little_number (size_of size) bytes)
IsNegative _ bytes = ⊥

-- the count is complete, not negative and above the limit; or a line is too long: the first one, or
-- the second after a complete first one
abbrev pub IsAbove : ℕ → Layout → List ℕ → Type 0
IsAbove limit (layout.Counted size signed) bytes =
    (size_of size ≤ length bytes)
    × (little_number (size_of size) bytes < count_limit size signed)
    × (limit < little_number (size_of size) bytes)
IsAbove limit (layout.Line most) bytes = IsLong most bytes
IsAbove limit (layout.Pair most) bytes =
    IsLong most bytes
    ⊎ ((first : List ℕ) × (after : List ℕ)
    × IsLine most first × (bytes ≡ (first ++ line_feed ∷ []) ++ after) × IsLong most after)
IsAbove limit _ bytes = ⊥

-- an instruction whose argument breaks a content rule
pub record IsBroken (limit : ℕ) (bytes : List ℕ) (i : Instruction) (rest : List ℕ) : Type 0 where
  pub laid : IsLaid limit i
  pub parts : bytes ≡ spelling i ++ rest
  pub bad : ¬ (IsGood i)

-- the fault at the front of the bytes: an unknown code; bad contents or a negative count; or an
-- argument above a limit
abbrev pub HasFault : ℕ → Fault → List ℕ → Type 0
HasFault limit (UnknownOpcode code) bytes =
    (rest : List ℕ) × (bytes ≡ code ∷ rest) × ((op : Op) → code_of op ≢ code)
HasFault limit BadArgument bytes =
    ((i : Instruction) × (rest : List ℕ) × IsBroken limit bytes i rest)
    ⊎ ((op : Op) × (rest : List ℕ) × (bytes ≡ code_of op ∷ rest) × IsNegative (layout_at op) rest)
HasFault limit TooLarge bytes =
    (op : Op) × (rest : List ℕ) × (bytes ≡ code_of op ∷ rest) × IsAbove limit (layout_at op) rest

-- the most bytes of an instruction within the limit: a code, a count of eight bytes and a payload,
-- or a code and two lines of 65,536 bytes with their line feeds
abbrev pub longest : ℕ → ℕ
longest limit = max (limit + 9) 131_075
