-- The bytes still to be pulled are at hand, those pulled are gone, and no read has failed.
use Rattle.std.proofs.Common.{◌≡◌, ◌≤◌, ◌-◌, drop, option_map}
use Rattle.pkread.proofs.source.Source.advance.Given as goal

abbrev pub invariant-bytes : goal.invariant-bytes
invariant-bytes g l = record {
  few : l.left ≤ l.count;
  near : l.left ≤ g.Self.Source.at_hand l.self;
  took : g.Self.Source.left l.self
      ≡ option_map (drop (l.count - l.left)) (g.Self.Source.left l.initial.self);
  same : g.Self.Source.failures l.self ≡ g.Self.Source.failures l.initial.self;
}

abbrev pub decreases-bytes : goal.decreases-bytes
decreases-bytes g l = l.left
