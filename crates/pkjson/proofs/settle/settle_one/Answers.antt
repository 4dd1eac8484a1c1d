-- Settling a dict is appending the members of what it was given.
use Rattle.std.proofs.Common.{◌≡◌, false, subst, sym, length, rules}
use Rattle.std.specs.Bool.{◌==◌}
use Rattle.pkjson.specs.Private.Seen.{kept_all}
use Rattle.pkjson.specs.Private.Ranks.{AreMembers}
use Rattle.pkjson.specs.Private.Settled.{Adds}
use Rattle.pkjson.proofs.DictKeys.DictsAdded.{adds_some}
use Rattle.pkjson.proofs.settle.settle_one.Goals as goal

pub returns : goal.returns
returns c =
    let all = kept_all c.args.ranks.now.objects.now in
    let n = length c.args.ranks.now.objects.now in
    let old = c.args.dicts.now.items in
    let new = c.push.new.self.items in
    let members = c.in_ok-members.members in
    let some : (length c.in-Pairs.given.items == 0) ≡ false =
    search (rules, c.is_empty.ensures, c.if-is_empty.false) in
    subst (λ o. Adds all n o old new) (sym c.in-Pairs.is)
    (adds_some all n c.in-Pairs.given.items old new members
    some c.in_ok-push.ensures.items
    (subst (λ xs. AreMembers all n xs members.items) c.deref.ensures.value
    c.in_ok-members.ensures))
