-- A number that the memo doesn't have is what a fetch lacks.
use Rattle.std.proofs.Common.{sym, ap, ◌∙◌}
use Rattle.pkstack.specs.Shape.{NoMemo, fetched}
use Rattle.pkjson.specs.Private.Seen.{shape_seen}
use Rattle.pkjson.proofs.moves.fetch.Goals as goal

pub returns-in-None-clause-err : goal.returns-in-None-clause-err
returns-in-None-clause-err c = (
  NoMemo c.args.number,
  ap (λ o. fetched o c.args.number (shape_seen c.args.stack.now.items c.args.memo.now))
      (sym c.get.ensures ∙ c.in-None.is),
)
