-- From the place reached, the bytes left are items exactly where all of them are.
use Rattle.std.proofs.Common.{◌≡◌, drop, is_some}
use Rattle.pkops.specs.RuleTests.{are_items}
use Rattle.pkops.specs.Private.Places.{HoldsDigit}
use Rattle.pkops.proofs.ContentsRules.OldStrings.{spelled}
use Rattle.pkops.proofs.contents.old_string.are_items.Given as goal

-- what is left spells bytes from the place on exactly where the whole does from the beginning
abbrev pub invariant-bytes : goal.invariant-bytes
invariant-bytes l = record {
  kept : is_some (spelled l.quote l.place (drop l.byte-index l.inside))
      ≡ are_items l.quote l.inside;
  small : HoldsDigit l.place;
}
