-- A line for each instruction heard and the last line together are the listing.
use Rattle.std.proofs.Common.{rules}
use Rattle.pkprint.specs.Private.Lists.{lists_all}
use Rattle.pkprint.proofs.listing.dis_to.Goals as goal

pub returns-in-Ok : goal.returns-in-Ok
returns-in-Ok g c =
    let heard = c.in_ok-answer.ensures.answer in
    let all = lists_all _ _ _ _ heard.0 _ heard.2.1 c.in_ok-write_last.ensures in (
      c.in_ok-answer.answer,
      heard.0,
      heard.1,
      c.in_ok-answer.ensures.count,
      search rules,
      search rules,
    )

pub returns : goal.returns
returns g c =
    let heard = c.in_ok-answer.ensures.answer in
    let all = lists_all _ _ _ _ heard.0 _ heard.2.1 c.in_ok-write_last.ensures in
    search rules
