-- The second line begins behind the first one's feed, and either may be what is refused.
use Rattle.std.proofs.Common.{refl}
use Rattle.std.proofs.lemmas.Result.{err_from_is_err_and}
use Rattle.pkread.proofs.Bytes.Judged.{all_find, all_stop}
use Rattle.pkread.proofs.Bytes.LinesBehind.{both_grow, first_stops, second_stops}
use Rattle.pkread.proofs.gathering.Gathering.two_lines.Goals as goal

pub returns-in_err-take_line-clause-takes : goal.returns-in_err-take_line-clause-takes
returns-in_err-take_line-clause-takes g c =
    let p = err_from_is_err_and c.from_residual.result c.from_residual.ensures.1 in
    let why = c.in_err-take_line.ensures.takes in
    rw (p.1, p.2) (λ limit. first_stops c.growth.ensures.begun limit c.args.most c.args.op _ _ _
    c.requires.code c.requires.lay why)

pub returns-in_err-take_line-2-clause-takes : goal.returns-in_err-take_line-2-clause-takes
returns-in_err-take_line-2-clause-takes g c =
    let p = err_from_is_err_and c.from_residual-in_err-take_line-2.result
    c.from_residual-in_err-take_line-2.ensures.1 in
    let first = c.in_ok-take_line.ensures.takes in
    let why = c.in_err-take_line-2.ensures.takes in
    rw (p.1, p.2) (λ limit. second_stops limit c.args.most c.args.op _ _ _ c.requires.code
    c.requires.lay first c.growth.ensures.begun _ why)

pub judged-requires : goal.judged-requires
judged-requires g c =
    let k = both_grow 0 c.args.most c.args.op _ _ _ c.requires.code c.requires.lay
    c.in_ok-take_line.ensures.takes _ c.bytes.result.now c.bytes.ensures refl
    c.in_ok-take_line-2.ensures.takes in
    (0, k.arg, rw c.bytes-2.ensures k.lies)

pub returns-in_err-judged-clause-takes : goal.returns-in_err-judged-clause-takes
returns-in_err-judged-clause-takes g c =
    let p = err_from_is_err_and c.from_residual-in_err-judged.result
    c.from_residual-in_err-judged.ensures.1 in
    rw (p.1, p.2) (λ limit.
    let k = both_grow limit c.args.most c.args.op _ _ _ c.requires.code c.requires.lay
    c.in_ok-take_line.ensures.takes _ c.bytes.result.now c.bytes.ensures refl
    c.in_ok-take_line-2.ensures.takes in
    all_stop c.args.op _ _ _ _ c.bytes-2.ensures c.growth.ensures.begun limit _ k
    c.in_err-judged.ensures.err)

pub returns-clause-takes : goal.returns-clause-takes
returns-clause-takes g c = λ limit.
    let k = both_grow limit c.args.most c.args.op _ _ _ c.requires.code c.requires.lay
    c.in_ok-take_line.ensures.takes _ c.bytes.result.now c.bytes.ensures refl
    c.in_ok-take_line-2.ensures.takes in
    all_find c.args.op _ _ _ _ c.bytes-2.ensures limit k c.in_ok-judged.ensures.ok
