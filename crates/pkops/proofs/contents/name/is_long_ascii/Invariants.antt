-- All bytes are ASCII exactly if those are that are left.
use Rattle.std.proofs.Common.{◌≡◌, length}
use Rattle.std.specs.List.{list_all}
use Rattle.std.specs.Char.{is_ascii}
use Rattle.pkops.proofs.contents.name.is_long_ascii.Given as goal

abbrev pub invariant-blocks-2 : goal.invariant-blocks-2
invariant-blocks-2 l = list_all is_ascii l.bytes ≡ list_all is_ascii l.rest

abbrev pub decreases-blocks-2 : goal.decreases-blocks-2
decreases-blocks-2 l = length l.rest
