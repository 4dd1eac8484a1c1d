-- Each turn settles one object, whose operands are all among the objects there are.
use Rattle.std.proofs.Common.{◌≡◌, rules, length}
use Rattle.pkjson.specs.Private.Seen.{kept_all}
use Rattle.pkjson.proofs.DictKeys.SettledMembers.{given_there}
use Rattle.pkjson.proofs.DictKeys.DictsAdded.{all_settled, none_settled, settled_next}
use Rattle.pkjson.proofs.settle.settle.Goals as goal

pub settle_one-requires-clause-given : goal.settle_one-requires-clause-given
settle_one-requires-clause-given c =
    rw c.in_ok-ranks.ensures.objects (given_there (length c.args.objects.now) c.args.objects.now
    c.loop-object.object-index c.object-item.result c.requires c.loop-object-test.true
    c.object-item.is)

pub loop-object-init : goal.loop-object-init
loop-object-init c = rw (c.new-dicts.ensures.items, c.in_ok-places.ensures.items)
    (none_settled (kept_all c.args.objects.now))

pub loop-object-preserved : goal.loop-object-preserved
loop-object-preserved c =
    let place : c.in-Ok.place ≡ length c.loop-object.dicts.items =
    search (rules, c.in-Ok.ensures, c.len.ensures) in
    settled_next c.args.objects.now c.in_ok-ranks.ranks.objects.now c.loop-object.object-index
    c.object-item.result c.loop-object.dicts.items c.settle_one.new.dicts.items
    c.loop-object.places.items c.push.new.self.items c.in-Ok.place c.in_ok-ranks.ensures.objects
    c.loop-object-test.true c.object-item.is c.requires c.loop-object.invariant
    c.in_ok-settle_one.ensures place c.in_ok-push.ensures.items

pub returns : goal.returns
returns c = all_settled (kept_all c.args.objects.now) c.args.objects.now c.loop-object.object-index
    c.loop-object.dicts.items c.loop-object.places.items c.loop-object-test.false
    c.loop-object.invariant
