-- The count is its little-endian field; a negative one or one above the limit is refused there.
use Rattle.std.proofs.Common.{◌<◌, ◌≤◌, refl, arith}
use Rattle.std.proofs.lemmas.Result.{err_from_is_err_and}
use Rattle.std.proofs.lemmas.Bool.Decides.{nat_tests}
use Rattle.pkops.specs.Spelling.{count_limit, size_of}
use Rattle.pkread.proofs.Bytes.Behind.{count_is, field_stops, stops_large, stops_negative}
use Rattle.pkread.proofs.gathering.Gathering.take_count.Goals as goal

pub returns-in_err-take_width-clause-takes : goal.returns-in_err-take_width-clause-takes
returns-in_err-take_width-clause-takes g c =
    let p = err_from_is_err_and c.from_residual.result c.from_residual.ensures.1 in
    let laws = c.growth.ensures in
    let count = c.args.count in
    rw (p.1, p.2) (field_stops laws.begun laws.field count.limit (size_of count.width) c.args.op _
    _ _
    c.requires.code (rw c.requires.lay refl) c.in_err-take_width.ensures.takes)

pub returns-then-not-is_count-clause-takes : goal.returns-then-not-is_count-clause-takes
returns-then-not-is_count-clause-takes g c =
    let s = c.in_ok-take_width.ensures.takes in
    let laws = c.growth.ensures in
    let count = c.args.count in
    let n = c.count_behind-n.result in
    let is = count_is count c.args.op _ _ c.requires.code c.requires.lay s c.bytes.result.now _
    c.bytes.ensures c.count_behind-n.ensures in
    let e = c.is_count.ensures in
    let f = c.if-not-is_count.true in
    let over : count_limit count.width count.signed ≤ n = grind (arith, nat_tests) in
    stops_negative count c.args.op _ _ c.requires.code c.requires.lay s laws.begun laws.field
    laws.count n is over

pub returns-then-n-count-clause-takes : goal.returns-then-n-count-clause-takes
returns-then-n-count-clause-takes g c =
    let s = c.in_ok-take_width.ensures.takes in
    let laws = c.growth.ensures in
    let count = c.args.count in
    let n = c.count_behind-n.result in
    let is = count_is count c.args.op _ _ c.requires.code c.requires.lay s c.bytes.result.now _
    c.bytes.ensures c.count_behind-n.ensures in
    let e = c.is_count.ensures in
    let f = c.if-not-is_count.false in
    let under : n < count_limit count.width count.signed = grind (arith, nat_tests) in
    let over : count.limit < n = c.if-n-count.true in
    stops_large count c.args.op _ _ c.requires.code c.requires.lay s laws.begun laws.field
    laws.count n is under over
