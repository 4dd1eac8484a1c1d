-- A fold over every byte finds out whether all are ASCII.
use Rattle.std.proofs.Common.{rules, tests, true, ◌&&◌, ◌∙◌}
use Rattle.std.specs.Char.{is_ascii}
use Rattle.std.proofs.lemmas.Iterator.{YieldsList-from_slice}
use Rattle.std.proofs.lemmas.Iterator.Consumers.{fold_from_yields_List}
use Rattle.pkops.proofs.ContentsRules.EachByte.{fold_all}
use Rattle.pkops.proofs.contents.name.are_ascii.Goals as goal

pub returns : goal.returns
returns c =
    fold_from_yields_List _ (λ good byte. good && is_ascii byte) _ c.fold.result c.fold.ensures.ran
    (YieldsList-from_slice c.args.bytes.now cc) (λ a x b q k. search (rules, tests))
    ∙ fold_all is_ascii true c.args.bytes.now
