-- What a prefix of an instruction becomes as more bytes arrive, for readers that take the bytes
-- themselves.
use Rattle.std.specs.Prelude.{◌≡◌, ◌⊎◌, ◌<◌, ◌≤◌, ◌+◌, [], ◌∷◌, ◌++◌, Bool, List, length, take, ℕ}
use Rattle.pkops.specs.KnownLayout.{AreBytes, IsCountField, IsFixed, Lies, count_in, field_len}
use Rattle.pkops.specs.Payloads.{HasCount}
use Rattle.pkops.specs.Scans.{Begun, HasFault, longest}
use Rattle.pkops.specs.Spelling.{Width, Argument, Counted, count_limit, layout_at}
use Rattle.pkops.specs.Table.{Op, code_of}
use Rattle.pkops.specs.declared.fault.Fault.TheVariants.{BadArgument, TooLarge}

-- prefixes of instructions
pub record BegunLaws : Type 0 where
  -- the empty prefix begins an instruction
  pub nothing : (limit : ℕ) → Begun limit []
  -- a prefix of a prefix begins an instruction too
  pub fronts : (limit : ℕ) (front more : List ℕ) → Begun limit (front ++ more) → Begun limit front
  -- each proper prefix of a whole instruction begins one
  pub whole : (limit : ℕ) (op : Op) (arg : Argument) (split : ℕ) (bytes : List ℕ) →
      Lies limit op arg split bytes →
      (k : ℕ) → k < length bytes → Begun limit (take k bytes)
  -- a prefix is shorter than the longest instruction within the limit
  pub short : (limit : ℕ) (bytes : List ℕ) → Begun limit bytes → length bytes < longest limit
  -- a prefix has fewer than 131,075 bytes, or fewer than its count plus 9
  pub counted : (limit : ℕ) (bytes after : List ℕ) → Begun limit bytes →
      (length bytes < 131_075)
      ⊎ ((op : Op) × (count : ℕ)
      × HasCount op (bytes ++ after) count × (length bytes < count + 9))

-- a code followed by some bytes
pub record FieldLaws : Type 0 where
  -- with an incomplete field it begins an instruction
  pub begun : (limit : ℕ) (op : Op) (field : List ℕ) →
      AreBytes field → length field < field_len (layout_at op) →
      Begun limit (code_of op ∷ field)
  -- with a complete field that is the whole argument it is an instruction
  pub whole : (limit : ℕ) (op : Op) (field : List ℕ) →
      AreBytes field → IsFixed (layout_at op) → length field ≡ field_len (layout_at op) →
      (arg : Argument) × Lies limit op arg 0 (code_of op ∷ field)

-- a code followed by a complete count
pub record CountLaws : Type 0 where
  -- a count that is negative in its field is a bad argument
  pub negative : (limit : ℕ) (op : Op) (size : Width) (signed : Bool) (field : List ℕ) →
      IsCountField op size signed field → AreBytes field →
      count_limit size signed ≤ count_in size field →
      HasFault limit BadArgument (code_of op ∷ field)
  -- a count above the limit is too large
  pub large : (limit : ℕ) (op : Op) (size : Width) (signed : Bool) (field : List ℕ) →
      IsCountField op size signed field → AreBytes field →
      count_in size field < count_limit size signed → limit < count_in size field →
      HasFault limit TooLarge (code_of op ∷ field)
  -- with a count within the limit and an incomplete payload it begins an instruction
  pub begun : (limit : ℕ) (op : Op) (size : Width) (signed : Bool) (field payload : List ℕ) →
      IsCountField op size signed field → AreBytes (field ++ payload) →
      count_in size field < count_limit size signed → count_in size field ≤ limit →
      length payload < count_in size field →
      Begun limit (code_of op ∷ (field ++ payload))
  -- with a payload as long as its count says it is an instruction
  pub whole : (limit : ℕ) (op : Op) (size : Width) (signed : Bool) (field payload : List ℕ) →
      IsCountField op size signed field → AreBytes (field ++ payload) →
      count_in size field < count_limit size signed → count_in size field ≤ limit →
      length payload ≡ count_in size field →
      Lies limit op (Counted payload) 0 (code_of op ∷ (field ++ payload))
