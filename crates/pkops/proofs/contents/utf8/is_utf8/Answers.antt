-- Bytes that are all ASCII are UTF-8, so no closer look is needed.
use Rattle.std.proofs.Common.{sym}
use Rattle.std.proofs.lemmas.Str.{IsUtf8-from_ascii}
use Rattle.pkops.proofs.ContentsRules.Names.{ascii_is}
use Rattle.pkops.proofs.contents.utf8.is_utf8.Goals as goal

pub returns-then-is_short_ascii : goal.returns-then-is_short_ascii
returns-then-is_short_ascii c =
    IsUtf8-from_ascii c.args.bytes.now (ascii_is c.args.bytes.now (sym c.if-is_short_ascii.ensures))
