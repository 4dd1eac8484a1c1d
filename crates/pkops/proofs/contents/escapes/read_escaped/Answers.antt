-- Each byte is one step of reading escapes, and a character that it ends goes to the text.
use Rattle.std.proofs.Common.{Some, sym, ap, ◌∙◌, arith, string_bytes, append-nil}
use Rattle.pkops.proofs.ContentsRules.EscapesRead.{escapes, joined_is, not_ended}
use Rattle.pkops.proofs.ContentsRules.Loop.{joined, stops, kept_on, kept_last}
use Rattle.pkops.proofs.contents.escapes.read_escaped.Goals as goal
use Rattle.pkops.proofs.contents.escapes.read_escaped.Goals.{in-Some-character+in_ok-push}
use Rattle.pkops.proofs.contents.escapes.read_escaped.Goals.{in_default-character}

pub bytes-init : goal.bytes-init
bytes-init c =
    record {
      kept = joined_is (string_bytes c.new-text.result) c.args.line.now c.new-text.ensures.bytes;
      small = tt;
    }

pub returns-in_default : goal.returns-in_default
returns-in_default c = ap (joined escapes (string_bytes c.bytes.text))
    (sym (stops escapes c.bytes.state c.args.line.now c.bytes.byte-index
    (omega arith) c.in_default.ensures.step)) ∙ c.bytes.invariant.kept

pub bytes-preserved : goal.bytes-preserved
bytes-preserved c =
    let on = kept_on escapes (string_bytes c.bytes.text) c.bytes.state c.in-Some.next
    c.in-Some.character c.args.line.now c.bytes.byte-index _ (omega arith) c.in-Some.ensures.step
    c.bytes.invariant.kept in
    elim c.match-character.branch [
      | in-Some-character+in_ok-push w ↦
          record {
            kept = rw (w.text-is, w.in_ok-push.ensures.bytes) (rw w.in-Some-character.is at on);
            small = c.in-Some.ensures.small;
          }
      | in_default-character w ↦
          record {
            kept = rw w.text-is (rw append-nil at (rw w.in_default-character.is at on));
            small = c.in-Some.ensures.small;
          }
    ]

pub returns-in-Outside : goal.returns-in-Outside
returns-in-Outside c = let e =
    rw c.in-Outside.is at (kept_last escapes (string_bytes c.bytes.text) c.bytes.state
    c.args.line.now c.bytes.byte-index _ (omega arith) c.bytes.invariant.kept) in
    ap Some (sym (append-nil (string_bytes c.bytes.text))) ∙ e

pub returns-in_default-state : goal.returns-in_default-state
returns-in_default-state c = let e = kept_last escapes (string_bytes c.bytes.text) c.bytes.state
    c.args.line.now c.bytes.byte-index _ (omega arith) c.bytes.invariant.kept in
    rw (not_ended c.bytes.state c.in_default-state.not-Outside) at e
