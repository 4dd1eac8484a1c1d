-- A byte that no step allows, or an end inside an escape, shows that the line names no text.
use Rattle.std.proofs.Common.{sym, ap, ◌∙◌, arith, is_some}
use Rattle.pkops.proofs.ContentsRules.EscapesRead.{escapes, named_is, not_ended}
use Rattle.pkops.proofs.ContentsRules.Loop.{stops, some_at_end, some_goes_on}
use Rattle.pkops.proofs.contents.escapes.spells_escaped.Goals as goal

pub bytes-init : goal.bytes-init
bytes-init c = record { kept = ap is_some (named_is c.args.line.now); small = tt }

pub returns-in_default : goal.returns-in_default
returns-in_default c =
    sym (ap is_some
    (stops escapes c.bytes.state c.args.line.now c.bytes.byte-index
    (omega arith) c.in_default.ensures.step)) ∙ c.bytes.invariant.kept

pub bytes-preserved : goal.bytes-preserved
bytes-preserved c = record {
  kept = some_goes_on escapes c.bytes.state c.in-Some.next c.in-Some.field-0-1 c.args.line.now
      c.bytes.byte-index (omega arith) c.in-Some.ensures.step ∙ c.bytes.invariant.kept;
  small = c.in-Some.ensures.small;
}

pub returns-in-Outside : goal.returns-in-Outside
returns-in-Outside c =
    rw c.in-Outside.is at (some_at_end escapes c.bytes.state c.args.line.now c.bytes.byte-index _
    (omega arith) c.bytes.invariant.kept)

pub returns-in_default-matches : goal.returns-in_default-matches
returns-in_default-matches c =
    let e = some_at_end escapes c.bytes.state c.args.line.now c.bytes.byte-index _ (omega arith)
    c.bytes.invariant.kept in
    sym (not_ended c.bytes.state c.in_default-matches.not-Outside) ∙ e
