-- A payload of the counted length ends the instruction, which is good if it is plain or UTF-8.
use Rattle.std.proofs.Common.{sym, ◌∙◌, arith}
use Rattle.std.proofs.lemmas.Result.{err_from_is_err_and}
use Rattle.pkread.proofs.Bytes.Behind.{payload_grows, payload_stops}
use Rattle.pkread.proofs.Bytes.Judged.{plain_finds}
use Rattle.pkread.proofs.Bytes.Plain.{takes_any, takes_utf8}
use Rattle.pkread.proofs.Bytes.Texts.{payload_in, text_finds, text_stops}
use Rattle.pkread.proofs.gathering.Gathering.counted.Goals as goal

pub returns-in_err-take_payload-clause-takes : goal.returns-in_err-take_payload-clause-takes
returns-in_err-take_payload-clause-takes g c =
    let p = err_from_is_err_and c.from_residual-in_err-take_payload.result
    c.from_residual-in_err-take_payload.ensures.1 in
    let laws = c.growth.ensures in
    rw (p.1, p.2) (payload_stops c.args.count c.in_ok-length.length c.args.op _ _ _ c.requires.code
    c.requires.lay c.in_ok-length.ensures.takes laws.begun laws.count _
    c.in_err-take_payload.ensures.takes)

pub returns-then-is_plain-clause-takes : goal.returns-then-is_plain-clause-takes
returns-then-is_plain-clause-takes g c =
    let plain = takes_any c.args.op (sym c.is_plain.ensures ∙ c.if-is_plain.true) in
    plain_finds c.args.count.limit c.args.op 0 _ _ plain
    (payload_grows c.args.count c.in_ok-length.length c.args.op _ _ _ c.requires.code
    c.requires.lay c.in_ok-length.ensures.takes c.growth.ensures.count
    c.in_ok-take_payload.ensures.takes)

pub returns-then-not-is_utf8-clause-takes : goal.returns-then-not-is_utf8-clause-takes
returns-then-not-is_utf8-clause-takes g c =
    let text = takes_utf8 c.args.op _ _ c.requires.lay
    (let e = c.is_plain.ensures in let f = c.if-is_plain.false in grind (arith)) in
    let laws = c.growth.ensures in
    let k = c.in_ok-length.ensures.takes in
    let s = c.in_ok-take_payload.ensures.takes in
    let is = payload_in c.args.count c.in_ok-length.length c.args.op _ _ _ c.requires.code
    c.requires.lay k laws.count text s c.bytes-head.result.now c.bytes.result.now
    c.bytes-head.ensures c.bytes.ensures in
    let bad = rw (c.if-not-is_utf8.true, is) at c.is_utf8.ensures in
    text_stops c.args.count c.in_ok-length.length c.args.op _ _ _ c.requires.code c.requires.lay k
    laws.count text s laws.begun bad

pub returns-clause-takes : goal.returns-clause-takes
returns-clause-takes g c =
    let text = takes_utf8 c.args.op _ _ c.requires.lay
    (let e = c.is_plain.ensures in let f = c.if-is_plain.false in grind (arith)) in
    let laws = c.growth.ensures in
    let k = c.in_ok-length.ensures.takes in
    let s = c.in_ok-take_payload.ensures.takes in
    let is = payload_in c.args.count c.in_ok-length.length c.args.op _ _ _ c.requires.code
    c.requires.lay k laws.count text s c.bytes-head.result.now c.bytes.result.now
    c.bytes-head.ensures c.bytes.ensures in
    let good = rw (c.if-not-is_utf8.false, is) at c.is_utf8.ensures in
    text_finds c.args.count c.in_ok-length.length c.args.op _ _ _ c.requires.code c.requires.lay k
    laws.count text s good
