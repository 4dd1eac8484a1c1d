-- Each turn replays one plain instruction of an accepted pickle, up to its STOP.
use Rattle.std.proofs.Common.{◌≡◌, arith, sym, ap, subst, ◌∙◌, ◌+◌, ◌-◌, length, drop, length-drop}
use Rattle.pkjson.specs.Plain.{OtherKey, LargeNumber, is_plain_data}
use Rattle.pkjson.specs.Private.Replayed.{Replays}
use Rattle.pkjson.specs.Private.Seen.{kept_all}
use Rattle.pkjson.proofs.Entries.{all_after}
use Rattle.pkjson.proofs.Runs.NextInstruction.{Replaying, a_front, entries_there, no_front, within}
use Rattle.pkjson.proofs.Runs.NextInstruction.{some, other, faults, never_lacks, never_empty, ends}
use Rattle.pkjson.proofs.Runs.NextInstruction.{on}
use Rattle.pkjson.proofs.Runs.RunToStop.{stands_first}
use Rattle.pkjson.proofs.replay.replay.Goals as goal

pub instructions-init : goal.instructions-init
instructions-init c =
    let e : length c.args.bytes.now - length c.args.bytes.now ≡ 0 = omega arith in (
      omega arith,
      record {
        stands = λ p w. rw (e, c.new-arena.ensures)
            (stands_first c.args.limits.now c.args.bytes.now p w);
      },
    )

pub whole_at_front-requires : goal.whole_at_front-requires
whole_at_front-requires c = a_front c.requires c.instructions.invariant.1

pub unreachable-requires : goal.unreachable-requires
unreachable-requires c = no_front c.requires c.instructions.invariant.1 c.whole_at_front.ensures
    c.in_default.is

pub returns-in_default-plain_action-clause-err : goal.returns-in_default-plain_action-clause-err
returns-in_default-plain_action-clause-err c =
    let o = c.op-in_default-plain_action.ensures.op in
    other c.requires c.instructions.invariant.1 c.whole_at_front.ensures c.in-Some.is o
    (ap is_plain_data (o ∙ sym c.op.ensures.op) ∙ sym c.in_default-plain_action.ensures.plain)

pub unreachable-requires-in_default-top : goal.unreachable-requires-in_default-top
unreachable-requires-in_default-top c = never_empty c.requires c.instructions.invariant.1
    c.whole_at_front.ensures c.in-Some.is c.op.ensures.op
    (sym c.in-Some-plain_action.ensures.plain)
    (rw c.in-Stops.is at c.in-Some-plain_action.ensures.acts) c.in_default-top.ensures

pub returns-in-Stops-clause-ok : goal.returns-in-Stops-clause-ok
returns-in-Stops-clause-ok c =
    subst (λ v. Replays c.args.limits.now c.args.bytes.now (kept_all v.items)
    c.in-Some-top.place) (sym c.into_objects.ensures)
    (ends c.requires c.instructions.invariant.1 c.whole_at_front.ensures c.in-Some.is
    c.op.ensures.op (sym c.in-Some-plain_action.ensures.plain)
    (rw c.in-Stops.is at c.in-Some-plain_action.ensures.acts) c.in-Some-top.place _
    c.in-Some-top.ensures)

pub act-requires : goal.act-requires
act-requires c = entries_there c.requires c.instructions.invariant.1

pub returns-in-Err-OtherKey : goal.returns-in-Err-OtherKey
returns-in-Err-OtherKey c = record {
  ok = tt;
  err = faults c.requires c.instructions.invariant.1 c.whole_at_front.ensures c.in-Some.is
      c.op.ensures.op c.in-Some-plain_action.action (sym c.in-Some-plain_action.ensures.plain)
      c.in-Some-plain_action.ensures.acts OtherKey
      (rw c.in-Err-OtherKey.field-0-is at c.in-Err-OtherKey.ensures.err);
}

pub returns-in-Err-LargeNumber : goal.returns-in-Err-LargeNumber
returns-in-Err-LargeNumber c = record {
  ok = tt;
  err = faults c.requires c.instructions.invariant.1 c.whole_at_front.ensures c.in-Some.is
      c.op.ensures.op c.in-Some-plain_action.action (sym c.in-Some-plain_action.ensures.plain)
      c.in-Some-plain_action.ensures.acts LargeNumber
      (rw c.in-Err-LargeNumber.field-0-is at c.in-Err-LargeNumber.ensures.err);
}

pub unreachable-requires-in-Err-Lacks : goal.unreachable-requires-in-Err-Lacks
unreachable-requires-in-Err-Lacks c = never_lacks c.requires c.instructions.invariant.1
    c.whole_at_front.ensures c.in-Some.is c.op.ensures.op c.in-Some-plain_action.action
    (sym c.in-Some-plain_action.ensures.plain) c.in-Some-plain_action.ensures.acts
    c.in-Some-plain_action.ensures.kinds c.in_default-action.not-Stops
    (rw c.in-Err-Lacks.field-0-is at c.in-Err-Lacks.ensures.err)

pub slice_bounds-rest-count : goal.slice_bounds-rest-count
slice_bounds-rest-count c =
    within c.requires c.instructions.invariant.1 c.whole_at_front.ensures c.in-Some.is

pub slice_bounds-rest-start : goal.slice_bounds-rest-start
slice_bounds-rest-start c =
    let l = within c.requires c.instructions.invariant.1 c.whole_at_front.ensures c.in-Some.is in
    omega (arith, l)

pub instructions-smaller : goal.instructions-smaller
instructions-smaller c =
    let l = within c.requires c.instructions.invariant.1 c.whole_at_front.ensures c.in-Some.is in
    let m = some c.requires c.instructions.invariant.1 c.whole_at_front.ensures c.in-Some.is in
    let e = ap length (all_after c.instructions.rest.now c.in-Some.length) in
    omega (arith, l, m, e, length-drop c.in-Some.length c.instructions.rest.now)

pub instructions-preserved : goal.instructions-preserved
instructions-preserved c =
    let l = within c.requires c.instructions.invariant.1 c.whole_at_front.ensures c.in-Some.is in
    let e = all_after c.instructions.rest.now c.in-Some.length in
    let i = c.instructions.invariant.0 in
    let d = length-drop c.in-Some.length c.instructions.rest.now in
    let s : length c.args.bytes.now - length c.instructions.rest.now + c.in-Some.length
    ≡ length c.args.bytes.now - length (drop c.in-Some.length c.instructions.rest.now) =
    omega (arith, l, i, d) in
    let f = ap length e in (
      omega (arith, l, i, d, f),
      subst (λ r. Replaying c.args.limits.now c.args.bytes.now r
          (length c.args.bytes.now - length r) c.act.new.self) (sym e)
          (subst (λ k. Replaying c.args.limits.now c.args.bytes.now
          (drop c.in-Some.length c.instructions.rest.now) k c.act.new.self) s
          (on c.requires c.instructions.invariant.1 c.whole_at_front.ensures c.in-Some.is
          c.op.ensures.op c.in-Some-plain_action.action
          (sym c.in-Some-plain_action.ensures.plain) c.in-Some-plain_action.ensures.acts
          c.in-Some-plain_action.ensures.kinds c.in_default-action.not-Stops c.act.new.self
          c.in-Ok.ensures.ok.0 c.in-Ok.ensures.ok.1)),
    )
