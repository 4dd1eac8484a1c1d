-- An object weighs what its items or members weigh, and one more, or is too deep for its levels.
use Rattle.std.proofs.Common.{arith, refl, rules, ◌∙◌, ◌-◌}
use Rattle.pkjson.proofs.Parts.Weights.{no_items_weigh, item_weighed, items_deeper}
use Rattle.pkjson.proofs.Parts.Weights.{no_members_weigh, member_weighed, members_deeper}
use Rattle.pkjson.proofs.Parts.Weights.{scalar_weighs, sequence_weighs, pairs_weigh}
use Rattle.pkjson.proofs.Parts.Weights.{sequence_deeper, pairs_deeper, sequence_not_flat}
use Rattle.pkjson.proofs.Parts.Weights.{pairs_not_flat, weighs_more, weighs_at_most, by_table}
use Rattle.pkjson.proofs.Parts.NodesHeld.{held, below, trusted_set, no_member}
use Rattle.pkjson.proofs.judge.+judging.Goals as goal

pub weigh_node-returns-then-levels-eq0-clause-weight
    : goal.weigh_node-returns-then-levels-eq0-clause-weight
weigh_node-returns-then-levels-eq0-clause-weight t c =
    sequence_not_flat _ (omega arith) (held c.node.ensures c.in-List.is)

pub weigh_node-returns-then-levels-eq0-2-clause-weight
    : goal.weigh_node-returns-then-levels-eq0-2-clause-weight
weigh_node-returns-then-levels-eq0-2-clause-weight t c =
    pairs_not_flat _ (omega arith) (held c.node.ensures c.in-Dict.is)

pub weigh_node-returns-in-Null-clause-weight : goal.weigh_node-returns-in-Null-clause-weight
weigh_node-returns-in-Null-clause-weight t c =
    let e = held c.node.ensures c.in-Null.is in
    scalar_weighs _ _ _ c.requires.room.some e e.is refl refl c.scalar.ensures.depth
    c.scalar.ensures.count

pub weigh_node-returns-in-Bool-clause-weight : goal.weigh_node-returns-in-Bool-clause-weight
weigh_node-returns-in-Bool-clause-weight t c =
    let e = held c.node.ensures c.in-Bool.is in
    scalar_weighs _ _ _ c.requires.room.some e e.is refl refl c.scalar-in-Bool.ensures.depth
    c.scalar-in-Bool.ensures.count

pub weigh_node-returns-in-Int-clause-weight : goal.weigh_node-returns-in-Int-clause-weight
weigh_node-returns-in-Int-clause-weight t c =
    let e = held c.node.ensures c.in-Int.is in
    scalar_weighs _ _ _ c.requires.room.some e e.is refl refl c.scalar-in-Int.ensures.depth
    c.scalar-in-Int.ensures.count

pub weigh_node-returns-in-Text-clause-weight : goal.weigh_node-returns-in-Text-clause-weight
weigh_node-returns-in-Text-clause-weight t c =
    let e = held c.node.ensures c.in-Text.is in
    scalar_weighs _ _ _ c.requires.room.some e e.is refl refl c.scalar-in-Text.ensures.depth
    c.scalar-in-Text.ensures.count

pub weigh_node-weigh_items-requires : goal.weigh_node-weigh_items-requires
weigh_node-weigh_items-requires t c = let b =
    below c.node.ensures c.in-List.is c.requires.closed in search (rules, b)

pub weigh_node-weigh_members-requires : goal.weigh_node-weigh_members-requires
weigh_node-weigh_members-requires t c = let b =
    below c.node.ensures c.in-Dict.is c.requires.closed in search (rules, b)

pub weigh_node-returns-in-Some-clause-weight : goal.weigh_node-returns-in-Some-clause-weight
weigh_node-returns-in-Some-clause-weight t c = sequence_weighs _ _ _ _
    (held c.node.ensures c.in-List.is) c.in-Some.ensures.weight c.raised.ensures.depth
    c.raised.ensures.count

pub weigh_node-returns-in-None-clause-weight : goal.weigh_node-returns-in-None-clause-weight
weigh_node-returns-in-None-clause-weight t c = sequence_deeper _
    (c.args.levels - 1) (omega arith) (held c.node.ensures c.in-List.is) c.in-None.ensures.weight

pub weigh_node-returns-in-Some-weigh_members-clause-weight
    : goal.weigh_node-returns-in-Some-weigh_members-clause-weight
weigh_node-returns-in-Some-weigh_members-clause-weight t c =
    pairs_weigh _ _ _ _ (held c.node.ensures c.in-Dict.is)
    c.in-Some-weigh_members.ensures.weight c.raised-in-Some-weigh_members.ensures.depth
    c.raised-in-Some-weigh_members.ensures.count

pub weigh_node-returns-in-None-weigh_members-clause-weight
    : goal.weigh_node-returns-in-None-weigh_members-clause-weight
weigh_node-returns-in-None-weigh_members-clause-weight t c = pairs_deeper _
    (c.args.levels - 1) (omega arith) (held c.node.ensures c.in-Dict.is)
    c.in-None-weigh_members.ensures.weight

pub weigh-returns-then-known-levels-clause-weight
    : goal.weigh-returns-then-known-levels-clause-weight
weigh-returns-then-known-levels-clause-weight t c = by_table _ _ c.args.done.now _
    c.requires.trusted (omega (arith, c.requires.same, c.requires.place))
    (omega (arith, c.if-known-eq0.false))

pub weigh-returns-then-known-levels-clause-bounds
    : goal.weigh-returns-then-known-levels-clause-bounds
weigh-returns-then-known-levels-clause-bounds t c =
    record {
      depth = c.if-known-levels.true;
      count = weighs_at_most _ _ _ _
          (by_table _ _ c.args.done.now _ c.requires.trusted
          (omega (arith, c.requires.same, c.requires.place)) (omega (arith, c.if-known-eq0.false)));
    }

pub weigh-returns-else-known-levels-clause-weight
    : goal.weigh-returns-else-known-levels-clause-weight
weigh-returns-else-known-levels-clause-weight t c = weighs_more _ c.args.cap _ _ _
    (by_table _ _ c.args.done.now _ c.requires.trusted
    (omega (arith, c.requires.same, c.requires.place)) (omega (arith, c.if-known-eq0.false)))
    c.if-known-levels.false

pub weigh-returns-in-Some-clause-trusted : goal.weigh-returns-in-Some-clause-trusted
weigh-returns-in-Some-clause-trusted t c = trusted_set _ _ _ c.args.place _
    (omega (arith, c.weigh_node.auto.done, c.requires.same)) c.in-Some.ensures.trusted
    c.in-Some.ensures.weight

pub weigh_items-loop-item-init : goal.weigh_items-loop-item-init
weigh_items-loop-item-init t c = record {
  same = c.requires.same;
  trusted = c.requires.trusted;
  depth = omega arith;
  count = omega arith;
  sum = no_items_weigh _ _ _ refl refl;
}

pub weigh_members-loop-key-init : goal.weigh_members-loop-key-init
weigh_members-loop-key-init t c = record {
  same = c.requires.same;
  trusted = c.requires.trusted;
  depth = omega arith;
  count = omega arith;
  sum = no_members_weigh _ _ _ refl refl;
}

pub weigh_items-returns-in-None-clause-weight : goal.weigh_items-returns-in-None-clause-weight
weigh_items-returns-in-None-clause-weight t c = items_deeper _ _ c.args.items.now
    c.loop-item.item-index c.loop-item-test.true c.in-None.ensures.weight

pub weigh_items-loop-item-preserved : goal.weigh_items-loop-item-preserved
weigh_items-loop-item-preserved t c = record {
  same = c.weigh.auto.done ∙ c.loop-item.invariant.same;
  trusted = c.in-Some.ensures.trusted;
  depth = omega (
    arith,
    c.joined-sum.ensures.depth,
    c.in-Some.ensures.bounds.depth,
    c.loop-item.invariant.depth,
  );
  count = omega (arith, c.joined-sum.ensures.count);
  sum = item_weighed _ _ c.args.items.now c.loop-item.item-index _ _ _ c.loop-item-test.true
      c.joined-sum.ensures.depth c.joined-sum.ensures.count c.loop-item.invariant.sum
      c.in-Some.ensures.weight;
}

pub weigh_members-returns-in-None-clause-weight : goal.weigh_members-returns-in-None-clause-weight
weigh_members-returns-in-None-clause-weight t c = members_deeper _ _ c.args.members.now
    c.loop-key.key-index no_member c.loop-key-test.true c.in-None.ensures.weight

pub weigh_members-loop-key-preserved : goal.weigh_members-loop-key-preserved
weigh_members-loop-key-preserved t c = record {
  same = c.weigh.auto.done ∙ c.loop-key.invariant.same;
  trusted = c.in-Some.ensures.trusted;
  depth = omega (
    arith,
    c.joined-sum.ensures.depth,
    c.keyed.ensures.depth,
    c.in-Some.ensures.bounds.depth,
    c.loop-key.invariant.depth,
  );
  count = omega (arith, c.joined-sum.ensures.count);
  sum = member_weighed _ _ c.args.members.now c.loop-key.key-index no_member _ _ _
      c.loop-key-test.true (omega (arith, c.joined-sum.ensures.depth, c.keyed.ensures.depth))
      (omega (arith, c.joined-sum.ensures.count, c.keyed.ensures.count))
      c.loop-key.invariant.sum c.in-Some.ensures.weight;
}
