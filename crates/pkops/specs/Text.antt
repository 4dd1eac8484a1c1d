-- The text that an instruction holds.
use Rattle.std.specs.Prelude.{◌≡◌, ℕ, List, Option, Some, None, encode_utf8_all, option_map}
use Rattle.pkops.specs.declared.contents.Rule.TheVariants as rule
use Rattle.pkops.specs.Contents.{Rule, rule_of}
use Rattle.pkops.specs.Escapes.{SpellsText, points_of}
use Rattle.pkops.specs.Spelling.{Argument, Line, Counted, Instruction}

-- the argument holds the text with these UTF-8 bytes
abbrev pub NamesTextBy : Rule → Argument → List ℕ → Type 0
NamesTextBy rule.Escapes (Line line) text =
    (points : List ℕ) × SpellsText line points × (text ≡ encode_utf8_all points)
NamesTextBy rule.Utf8 (Counted payload) text = text ≡ payload
NamesTextBy _ _ text = ⊥

-- the instruction holds the text with these UTF-8 bytes: UNICODE spells it with escapes;
-- SHORT_BINUNICODE, BINUNICODE and BINUNICODE8 contain the bytes themselves
abbrev pub NamesText : Instruction → List ℕ → Type 0
NamesText i text = NamesTextBy (rule_of i.op) i.arg text

-- the UTF-8 bytes of the text that the argument holds, if it holds one
abbrev pub text_by : Rule → Argument → Option (List ℕ)
text_by rule.Escapes (Line line) = option_map encode_utf8_all (points_of line)
text_by rule.Utf8 (Counted payload) = Some payload
text_by _ _ = None

-- the UTF-8 bytes of the text that the instruction holds, if it holds one
abbrev pub text_bytes : Instruction → Option (List ℕ)
text_bytes i = text_by (rule_of i.op) i.arg
