-- Each place so far has a missing weight.
use Rattle.std.proofs.Common.{◌≡◌, replicate}
use Rattle.pkjson.specs.Private.Weighs.{no_weight}
use Rattle.pkjson.proofs.exporting.no_weights.Given as goal

abbrev pub invariant-loop-place : goal.invariant-loop-place
invariant-loop-place l = l.weights.items ≡ replicate l._place no_weight
