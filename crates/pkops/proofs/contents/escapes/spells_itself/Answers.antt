-- A fold over every byte finds out whether all are ASCII and none is a backslash.
use Rattle.std.proofs.Common.{rules, tests, true, ◌&&◌, ◌∙◌}
use Rattle.pkops.specs.Escapes.{is_plain_ascii as plain}
use Rattle.std.proofs.lemmas.Iterator.{YieldsList-from_slice}
use Rattle.std.proofs.lemmas.Iterator.Consumers.{fold_from_yields_List}
use Rattle.pkops.proofs.ContentsRules.EachByte.{fold_all}
use Rattle.pkops.proofs.contents.escapes.spells_itself.Goals as goal

pub returns : goal.returns
returns c =
    fold_from_yields_List _ (λ good byte. good && plain byte) _ c.fold.result c.fold.ensures.ran
    (YieldsList-from_slice c.args.line.now cc) (λ a x b q k. search (rules, tests))
    ∙ fold_all plain true c.args.line.now
