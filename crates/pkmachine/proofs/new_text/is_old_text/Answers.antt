-- A Python 2 string in ASCII is UTF-8, and decodes to its own bytes.
use Rattle.std.proofs.Common.{sym, ◌∙◌}
use Rattle.pkmachine.proofs.Numbered.{ascii_numbered, ascii_utf8}
use Rattle.pkmachine.proofs.new_text.is_old_text.Goals as goal

pub returns-in-BinString-clause-utf8 : goal.returns-in-BinString-clause-utf8
returns-in-BinString-clause-utf8 c = λ yes.
    ascii_utf8 c.args.payload.now (sym c.is_ascii.ensures ∙ yes)

pub returns-in-BinString-clause-text : goal.returns-in-BinString-clause-text
returns-in-BinString-clause-text c = λ yes.
    rw c.in-BinString.is
    (ascii_numbered c.args.payload.now (sym c.is_ascii.ensures ∙ yes))

pub returns-in-ShortBinString-clause-utf8 : goal.returns-in-ShortBinString-clause-utf8
returns-in-ShortBinString-clause-utf8 c = λ yes.
    ascii_utf8 c.args.payload.now (sym c.is_ascii-in-ShortBinString.ensures ∙ yes)

pub returns-in-ShortBinString-clause-text : goal.returns-in-ShortBinString-clause-text
returns-in-ShortBinString-clause-text c = λ yes.
    rw c.in-ShortBinString.is
    (ascii_numbered c.args.payload.now (sym c.is_ascii-in-ShortBinString.ensures ∙ yes))
