-- The bytes read, followed by what the rest spells, are those that the quotes enclose.
use Rattle.std.proofs.Common.{◌≡◌, drop}
use Rattle.pkops.specs.OldBytes.{bytes_between}
use Rattle.pkops.specs.Private.Places.{HoldsDigit}
use Rattle.pkops.proofs.ContentsRules.Loop.{joined}
use Rattle.pkops.proofs.ContentsRules.OldStrings.{old_items, spelled}
use Rattle.pkops.proofs.contents.old_string.read_items.Given as goal

-- the bytes so far and what is left give what the whole spells
abbrev pub invariant-bytes : goal.invariant-bytes
invariant-bytes l = record {
  kept : joined (old_items l.quote) l.bytes.items
      (spelled l.quote l.place (drop l.byte-index l.inside))
      ≡ bytes_between l.quote l.inside;
  small : HoldsDigit l.place;
}
