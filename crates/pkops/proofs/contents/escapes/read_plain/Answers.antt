-- A plain line is ASCII and so UTF-8, and never fails to be read.
use Rattle.std.proofs.lemmas.Str.{IsUtf8-from_ascii}
use Rattle.pkops.proofs.ContentsRules.EscapesPlain.{plain_ascii}
use Rattle.pkops.proofs.contents.escapes.read_plain.Goals as goal

pub unreachable-requires : goal.unreachable-requires
unreachable-requires c = c.in-Err.ensures.cases.0
    (IsUtf8-from_ascii c.args.line.now (plain_ascii c.args.line.now c.requires))
