-- The map so far and the pairs left leave the same members standing as all pairs do.
use Rattle.std.proofs.Common.{◌≡◌, ◌≤◌, ◌<◌, ◌-◌, All, [], length, drop}
use Rattle.pkjson.specs.Private.Arena.{kind_at}
use Rattle.pkjson.specs.Contents.{paired, standing}
use Rattle.pkjson.specs.Private.Nodes.{named_members, Ascending}
use Rattle.pkjson.specs.Private.Seen.{kept_all}
use Rattle.pkjson.proofs.final_members.standing_pairs.Given as goal

abbrev pub invariant-loop-index : goal.invariant-loop-index
invariant-loop-index l = (l.index ≤ length l.given) × (standing []
    (paired (kind_at (kept_all l.objects)) l.given) ≡ standing (named_members l.pairs.entries)
    (paired (kind_at (kept_all l.objects)) (drop l.index l.given))) × Ascending
    (named_members l.pairs.entries) × All (λ p. p.1 < length l.objects) l.pairs.entries

abbrev pub decreases-loop-index : goal.decreases-loop-index
decreases-loop-index l = length l.given - l.index
