-- A line that ended in time is the argument, and its content rule says whether it is good.
use Rattle.std.proofs.lemmas.Result.{err_from_is_err_and}
use Rattle.pkread.proofs.Bytes.LinesBehind.{one_stops}
use Rattle.pkread.proofs.Bytes.Texts.{line_finds, line_in, line_stops, line_suits}
use Rattle.pkread.proofs.gathering.Gathering.one_line.Goals as goal

pub returns-in_err-take_line-clause-takes : goal.returns-in_err-take_line-clause-takes
returns-in_err-take_line-clause-takes g c =
    let p = err_from_is_err_and c.from_residual.result c.from_residual.ensures.1 in
    let why = c.in_err-take_line.ensures.takes in
    rw (p.1, p.2) (λ limit. one_stops c.growth.ensures.begun limit c.args.most c.args.op _ _ _
    c.requires.code c.requires.lay why)

pub is_good-requires : goal.is_good-requires
is_good-requires g c =
    let s = c.in_ok-take_line.ensures.takes in
    let is = line_in c.args.most c.args.op _ _ c.requires.code c.requires.lay s
    c.bytes-bytes.result.now c.bytes-bytes.ensures in
    rw is (line_suits c.args.most c.args.op _ _ c.requires.code c.requires.lay s)

pub returns-then-not-is_good-clause-takes : goal.returns-then-not-is_good-clause-takes
returns-then-not-is_good-clause-takes g c =
    let s = c.in_ok-take_line.ensures.takes in
    let is = line_in c.args.most c.args.op _ _ c.requires.code c.requires.lay s
    c.bytes-bytes.result.now c.bytes-bytes.ensures in
    let bad = rw (c.if-not-is_good.true, is) at c.is_good.ensures in
    line_stops c.args.most c.args.op _ _ c.requires.code c.requires.lay s c.growth.ensures.begun bad

pub returns-clause-takes : goal.returns-clause-takes
returns-clause-takes g c =
    let s = c.in_ok-take_line.ensures.takes in
    let is = line_in c.args.most c.args.op _ _ c.requires.code c.requires.lay s
    c.bytes-bytes.result.now c.bytes-bytes.ensures in
    let good = rw (c.if-not-is_good.false, is) at c.is_good.ensures in
    line_finds c.args.most c.args.op _ _ c.requires.code c.requires.lay s good
