-- A byte that isn't a line feed makes the line longer, and too long once none is left.
use Rattle.std.proofs.Common.{◌≢◌, ◌++◌, ◌∷◌, [], inr, ◌∙◌, arith, length-append}
use Rattle.pkread.proofs.Bytes.Taken.{endless_more, took_both}
use Rattle.pkread.proofs.gathering.Gathering.take_line.Goals as goal

pub returns-then-left-eq0-clause-takes : goal.returns-then-left-eq0-clause-takes
returns-then-left-eq0-clause-takes g c =
    let k = c.bytes.invariant.took in
    let byte = c.in_ok-byte.byte in
    let ne : byte ≢ 10 = c.if-byte-eq10.false in
    let all = took_both k.0 (byte ∷ []) _ _ _ k.1 c.in_ok-byte.ensures.takes in
    let len = k.2 in
    record {
      bytes = k.0 ++ byte ∷ [];
      fit = all.fit;
      held = all.held;
      count_is = all.count;
      endless = endless_more k.0 byte k.3 ne;
      row = (all.source, inr (omega (arith, len, length-append k.0 (byte ∷ []))));
    }

pub bytes-preserved : goal.bytes-preserved
bytes-preserved g c =
    let k = c.bytes.invariant.took in
    let byte = c.in_ok-byte.byte in
    let ne : byte ≢ 10 = c.if-byte-eq10.false in
    let all = took_both k.0 (byte ∷ []) _ _ _ k.1 c.in_ok-byte.ensures.takes in
    let len = k.2 in
    let before = c.bytes.invariant.keeps in
    let now = c.take_byte.ensures.keeps in
    record {
      took = (
        k.0 ++ byte ∷ [],
        all,
        omega (arith, len, length-append k.0 (byte ∷ [])),
        endless_more k.0 byte k.3 ne,
      );
      keeps = (now.0 ∙ before.0, now.1 ∙ before.1);
    }
