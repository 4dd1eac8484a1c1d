-- Bytes hold one argument at a split, so the instruction they spell is good and theirs.
use Rattle.std.proofs.Common.{◌∙◌, sym, ap, subst}
use Rattle.std.proofs.lemmas.Grind.{merely}
use Rattle.pkops.specs.Contents.{IsGood}
use Rattle.pkops.specs.KnownLayout.{split_of}
use Rattle.pkops.specs.Spelling.{instruction, spelling}
use Rattle.pkops.proofs.Instructions.BehindCode.{lies_behind}
use Rattle.pkops.proofs.inst.Inst.spelled.Goals as goal

pub invariant_of-result : goal.invariant_of-result
invariant_of-result c =
    let is =
    sym (lies_behind c.requires.0 c.args.op c.requires.1 c.args.split c.args.bytes.now
    c.requires.2) in
    record {
      good = merely (subst (λ x. IsGood (instruction c.args.op x)) is c.requires.3);
      spelled = c.requires.2.spelled ∙ ap (λ x. spelling (instruction c.args.op x)) is;
      split = c.requires.2.split_is ∙ ap split_of is;
    }
