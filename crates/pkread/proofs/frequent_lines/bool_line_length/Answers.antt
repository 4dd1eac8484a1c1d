-- The lines 00 and 01 obey the rule of INT, and are four bytes with code and line feed.
use Rattle.std.proofs.Common.{refl}
use Rattle.pkread.proofs.Bytes.FrequentLines.{bool_line}
use Rattle.pkread.proofs.frequent_lines.bool_line_length.Goals as goal

pub returns-in-48 : goal.returns-in-48
returns-in-48 c some =
    bool_line 48 c.args.bytes.now c.requires.room c.requires.zero c.in-48.is c.if-bytes-ne10.false
    (λ e. absurd cc) refl

pub returns-in-49 : goal.returns-in-49
returns-in-49 c some =
    bool_line 49 c.args.bytes.now c.requires.room c.requires.zero c.in-49.is c.if-bytes-ne10.false
    (λ e. absurd cc) refl
