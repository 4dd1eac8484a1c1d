-- A line of ASCII without a backslash is UTF-8, and UNICODE names it as it stands.
use Rattle.std.proofs.lemmas.Str.{IsUtf8-from_ascii}
use Rattle.pkops.proofs.ContentsRules.EscapesPlain.{plain_ascii}
use Rattle.pkops.proofs.Instructions.TextNamed.{plain_named}
use Rattle.pkops.proofs.laws.plain_line_is_text.Goals as goal

pub returns-clause-utf8 : goal.returns-clause-utf8
returns-clause-utf8 c = λ line plain. IsUtf8-from_ascii line (plain_ascii line plain)

pub returns-clause-text : goal.returns-clause-text
returns-clause-text c = plain_named
