-- Each byte is one step of reading items, and the byte that an item spells is appended.
use Rattle.std.proofs.Common.{Some, sym, ap, ◌∙◌, arith, append-nil}
use Rattle.pkops.proofs.ContentsRules.OldStrings.{joined_is, not_ended, old_items}
use Rattle.pkops.proofs.ContentsRules.Loop.{joined, stops, kept_on, kept_last}
use Rattle.pkops.proofs.contents.old_string.read_items.Goals as goal
use Rattle.pkops.proofs.contents.old_string.read_items.Goals.{in-Some-ended+in_ok-push}
use Rattle.pkops.proofs.contents.old_string.read_items.Goals.{in_default-ended}

pub bytes-init : goal.bytes-init
bytes-init c =
    record {
      kept = joined_is c.new-bytes.result.items c.args.quote c.args.inside.now
          c.new-bytes.ensures.items;
      small = tt;
    }

pub returns-in_default : goal.returns-in_default
returns-in_default c = ap (joined (old_items c.args.quote) c.bytes.bytes.items)
    (sym (stops (old_items c.args.quote) c.bytes.place c.args.inside.now c.bytes.byte-index
    (omega arith) c.in_default.ensures.step)) ∙ c.bytes.invariant.kept

pub bytes-preserved : goal.bytes-preserved
bytes-preserved c =
    let on = kept_on (old_items c.args.quote) c.bytes.bytes.items c.bytes.place c.in-Some.next
    c.in-Some.ended c.args.inside.now c.bytes.byte-index _ (omega arith) c.in-Some.ensures.step
    c.bytes.invariant.kept in
    elim c.match-ended.branch [
      | in-Some-ended+in_ok-push w ↦
          record {
            kept = rw (w.bytes-is, w.in_ok-push.ensures.items) (rw w.in-Some-ended.is at on);
            small = c.in-Some.ensures.small;
          }
      | in_default-ended w ↦
          record {
            kept = rw w.bytes-is (rw append-nil at (rw w.in_default-ended.is at on));
            small = c.in-Some.ensures.small;
          }
    ]

pub returns-in-Outside : goal.returns-in-Outside
returns-in-Outside c =
    let e =
    rw c.in-Outside.is at (kept_last (old_items c.args.quote) c.bytes.bytes.items c.bytes.place
    c.args.inside.now c.bytes.byte-index _ (omega arith) c.bytes.invariant.kept) in
    ap Some (sym (append-nil c.bytes.bytes.items)) ∙ e

pub returns-in_default-place : goal.returns-in_default-place
returns-in_default-place c =
    let e = kept_last (old_items c.args.quote) c.bytes.bytes.items c.bytes.place c.args.inside.now
    c.bytes.byte-index _ (omega arith) c.bytes.invariant.kept in
    rw (not_ended c.bytes.place c.in_default-place.not-Outside) at e
