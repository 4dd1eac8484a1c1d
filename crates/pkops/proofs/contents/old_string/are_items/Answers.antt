-- A byte that no step allows, or an end inside an escape, shows that these are no items.
use Rattle.std.proofs.Common.{sym, ap, ◌∙◌, arith, is_some}
use Rattle.pkops.proofs.ContentsRules.OldStrings.{not_ended, old_items, some_is}
use Rattle.pkops.proofs.ContentsRules.Loop.{stops, some_at_end, some_goes_on}
use Rattle.pkops.proofs.contents.old_string.are_items.Goals as goal

pub bytes-init : goal.bytes-init
bytes-init c = record { kept = some_is c.args.quote c.args.inside.now; small = tt }

pub returns-in_default : goal.returns-in_default
returns-in_default c =
    sym (ap is_some
    (stops (old_items c.args.quote) c.bytes.place c.args.inside.now c.bytes.byte-index
    (omega arith) c.in_default.ensures.step)) ∙ c.bytes.invariant.kept

pub bytes-preserved : goal.bytes-preserved
bytes-preserved c = record {
  kept = some_goes_on (old_items c.args.quote) c.bytes.place c.in-Some.next c.in-Some.field-0-1
      c.args.inside.now c.bytes.byte-index (omega arith) c.in-Some.ensures.step
      ∙ c.bytes.invariant.kept;
  small = c.in-Some.ensures.small;
}

pub returns-in-Outside : goal.returns-in-Outside
returns-in-Outside c =
    rw c.in-Outside.is at (some_at_end (old_items c.args.quote) c.bytes.place c.args.inside.now
    c.bytes.byte-index _ (omega arith) c.bytes.invariant.kept)

pub returns-in_default-matches : goal.returns-in_default-matches
returns-in_default-matches c =
    let e = some_at_end (old_items c.args.quote) c.bytes.place c.args.inside.now c.bytes.byte-index
    _ (omega arith) c.bytes.invariant.kept in
    sym (not_ended c.bytes.place c.in_default-matches.not-Outside) ∙ e
