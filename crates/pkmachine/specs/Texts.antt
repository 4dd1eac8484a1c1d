-- The texts that the machine keeps, one for each instruction that made one.
use Rattle.std.specs.Prelude.{ℕ, suc, Bool, true, false, ◌||◌, if◌then◌else◌}
use Rattle.pkops.specs.declared.Op.{Op}
use Rattle.pkmachine.specs.Effects.{is_old_string, OldStrings, Ascii}
use Rattle.pkops.specs.declared.Op.TheVariants as op

-- the opcode makes a text (see `UNICODE` and its binary forms in CPython's `pickletools`)
abbrev pub makes_text : Op → Bool
makes_text op.Unicode = true
makes_text op.ShortBinUnicode = true
makes_text op.BinUnicode = true
makes_text op.BinUnicode8 = true
makes_text _ = false

-- an instruction with this opcode makes a text if it goes on; an old string makes one if it is
-- decoded as ASCII
abbrev pub makes_text_as : OldStrings → Op → Bool
makes_text_as Ascii op = makes_text op || is_old_string op
makes_text_as setting op = makes_text op

-- the number of texts after an instruction with this opcode
abbrev pub texts_then : OldStrings → Op → ℕ → ℕ
texts_then setting op count = if makes_text_as setting op then suc count else count
