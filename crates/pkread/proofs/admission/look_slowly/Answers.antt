-- An argument against its rule is faulty, and so is a good instruction that has an objection.
use Rattle.std.proofs.Common.{subst}
use Rattle.pkops.specs.Contents.{IsGood}
use Rattle.pkops.specs.Spelling.{Argument, instruction, shown_arg}
use Rattle.pkread.proofs.Bytes.Judged.{broken_of, if_some, objected}
use Rattle.pkread.proofs.admission.look_slowly.Goals as goal

pub returns-then-not-is_good-clause-some : goal.returns-then-not-is_good-clause-some
returns-then-not-is_good-clause-some c = let bad =
    rw c.if-not-is_good.true at c.is_good.ensures in
    λ limit arg l. broken_of limit c.args.op arg c.args.split c.args.bytes.now l (subst (λ (a :
    Argument). IsGood (instruction c.args.op a) → ⊥) (c.argument_of-arg.ensures limit arg l) bad)

pub returns-clause-some : goal.returns-clause-some
returns-clause-some c = let good =
    rw c.if-not-is_good.false at c.is_good.ensures in
    if_some c.objection_to.result (λ reason e limit arg l. objected limit c.args.op arg (shown_arg
    c.argument_of-arg.result) c.args.split c.args.bytes.now _ c.objection_to.result good
    c.known.ensures c.objection_to.ensures (c.argument_of-arg.ensures limit arg l) l reason e)
