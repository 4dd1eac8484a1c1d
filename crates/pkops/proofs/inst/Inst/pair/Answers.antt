-- The two lines of a good instruction are names and so UTF-8, and both can be shown as text.
use Rattle.pkops.proofs.Instructions.Good.{had_good}
use Rattle.pkops.specs.Inst.{instruction_of}
use Rattle.pkops.proofs.ContentsRules.Names.{are_text}
use Rattle.pkops.proofs.inst.Inst.pair.Goals as goal

pub unreachable-requires : goal.unreachable-requires
unreachable-requires c =
    c.in_default-from_utf8.ensures.cases.0
    (are_text (instruction_of c.args.self.now) c.arg.result c.in-Pair.module c.in-Pair.name
    c.arg.ensures.arg c.in-Pair.is (had_good _ c.args.self.now.good)).0

pub unreachable-requires-in_default-from_utf8-2 : goal.unreachable-requires-in_default-from_utf8-2
unreachable-requires-in_default-from_utf8-2 c =
    c.in_default-from_utf8-2.ensures.cases.0
    (are_text (instruction_of c.args.self.now) c.arg.result c.in-Pair.module c.in-Pair.name
    c.arg.ensures.arg c.in-Pair.is (had_good _ c.args.self.now.good)).1
