-- The argument of a good instruction suits its layout, as the length of an argument requires.
use Rattle.std.proofs.Common.{subst}
use Rattle.pkops.specs.Behind.{argument_in}
use Rattle.pkops.specs.Spelling.{Suits, layout_at}
use Rattle.pkops.proofs.Instructions.Good.{had_good}
use Rattle.pkops.proofs.inst.Inst.len.Goals as goal

pub argument_len-requires : goal.argument_len-requires
argument_len-requires c =
    subst (λ x. Suits (layout_at c.args.self.now.op) (argument_in c.args.self.now.op x))
    c.in-Made.is (had_good _ c.args.self.now.good).suits
