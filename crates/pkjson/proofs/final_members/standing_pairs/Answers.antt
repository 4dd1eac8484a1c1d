-- A pair put into the map replaces the value of its key, as a later member replaces an earlier.
use Rattle.std.proofs.Common.{arith, sym, ◌∙◌, ap, drop, ◌+◌, get_or, ◌<◌, length}
use Rattle.std.proofs.lemmas.List.Elements.{All-get_or}
use Rattle.std.specs.Ordering.{nat_cmp}
use Rattle.std.specs.Cmp.Lexicographic.{slice_cmp}
use Rattle.std.specs.BTreeMap.{insert_entry}
use Rattle.pkjson.specs.Private.Arena.{kind_at}
use Rattle.pkjson.specs.Contents.{paired, standing}
use Rattle.pkjson.specs.Private.Nodes.{named_members}
use Rattle.pkjson.specs.Private.Seen.{kept_all}
use Rattle.pkjson.proofs.DictKeys.SettledMembers.{insert_named, insert_below, two_more, none_left}
use Rattle.pkjson.proofs.DictKeys.SettledMembers.{ascending_found}
use Rattle.pkjson.proofs.final_members.standing_pairs.Goals as goal

pub loop-index-preserved : goal.loop-index-preserved
loop-index-preserved c = (
  omega arith,
  c.loop-index.invariant.1 ∙ ap
      (standing (named_members c.loop-index.pairs.entries)) (two_more
      (kind_at (kept_all c.args.objects.now)) c.args.given.now c.loop-index.index
      c.loop-index-test.true)
      ∙ ap (λ es. standing es (paired (kind_at (kept_all c.args.objects.now))
      (drop (c.loop-index.index + 2) c.args.given.now)))
      (sym (ap named_members c.in_ok-insert.ensures.entries
      ∙ insert_named c.loop-index.pairs.entries
      c.text_at.result (get_or c.args.given.now (c.loop-index.index + 1) 0) ∙ ap
      (λ k. insert_entry (slice_cmp nat_cmp) (named_members c.loop-index.pairs.entries) k
      (get_or c.args.given.now (c.loop-index.index + 1) 0)) c.text_at.ensures)),
  ascending_found
      c.insert.new.self.entries c.in_ok-insert.ensures.ordered,
  rw c.in_ok-insert.ensures.entries
      (insert_below _ c.loop-index.pairs.entries c.text_at.result _
      (All-get_or (λ x. x < length c.args.objects.now) c.args.given.now (c.loop-index.index + 1) 0
      c.loop-index-test.true c.requires) c.loop-index.invariant.3),
)

pub returns : goal.returns
returns c = record {
  ascending = c.loop-index.invariant.2;
  below = c.loop-index.invariant.3;
  pairs = sym
      (c.loop-index.invariant.1 ∙ ap (standing (named_members c.loop-index.pairs.entries))
      (none_left (kind_at (kept_all c.args.objects.now)) c.args.given.now c.loop-index.index
      c.loop-index-test.false));
}
