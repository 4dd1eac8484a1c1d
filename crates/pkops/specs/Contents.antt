-- What an argument may contain: the rules that hold beyond its layout.
use Rattle.std.specs.Prelude.{ℕ, ◌<◌, List, length, ⊤, IsAscii, IsUtf8}
use Rattle.pkops.specs.declared.op.Op.TheVariants as op
pub use Rattle.pkops.specs.declared.contents.Rule.{Rule}
use Rattle.pkops.specs.declared.contents.Rule.TheVariants as rule
use Rattle.pkops.specs.Escapes.{IsTextLine}
use Rattle.pkops.specs.Floats.{IsFloatLine}
use Rattle.pkops.specs.Numerals.{IsIntLine, IsLongLine, IsMemoNumber}
use Rattle.pkops.specs.OldStrings.{IsStringLine}
use Rattle.pkops.specs.Spelling.{Op, Argument, Line, Pair, Counted, Instruction, Suits, layout_at}

-- the module or name of a global: ASCII and not empty
pub record IsName (line : List ℕ) : Type 0 where
  pub ascii : IsAscii line
  pub some : 0 < length line

-- the rule of each opcode; the others take any argument of their layout
abbrev pub rule_of : Op → Rule
rule_of op.Int = rule.Int
rule_of op.Long = rule.Long
rule_of op.Get = rule.MemoNumber
rule_of op.Put = rule.MemoNumber
rule_of op.Float = rule.Float
rule_of op.String = rule.OldString
rule_of op.Unicode = rule.Escapes
rule_of op.ShortBinUnicode = rule.Utf8
rule_of op.BinUnicode = rule.Utf8
rule_of op.BinUnicode8 = rule.Utf8
rule_of op.Global = rule.Names
rule_of op.Inst = rule.Names
rule_of op.PersId = rule.Ascii
rule_of _ = rule.Anything

-- the argument obeys the rule
abbrev pub Keeps : Rule → Argument → Type 0
Keeps rule.Anything _ = ⊤
Keeps rule.Int (Line line) = IsIntLine line
Keeps rule.Long (Line line) = IsLongLine line
Keeps rule.MemoNumber (Line line) = IsMemoNumber line
Keeps rule.Float (Line line) = IsFloatLine line
Keeps rule.OldString (Line line) = IsStringLine line
Keeps rule.Escapes (Line line) = IsTextLine line
Keeps rule.Utf8 (Counted payload) = IsUtf8 payload
Keeps rule.Names (Pair first second) = IsName first × IsName second
Keeps rule.Ascii (Line line) = IsAscii line
Keeps _ _ = ⊥

-- the argument has the opcode's kind and obeys the opcode's rule
pub record IsGood (i : Instruction) : Type 0 where
  pub suits : Suits (layout_at i.op) i.arg
  pub contents : Keeps (rule_of i.op) i.arg
