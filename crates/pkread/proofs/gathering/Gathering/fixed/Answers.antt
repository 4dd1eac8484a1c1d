-- A field of N bytes behind its code is the whole argument, which is then judged.
use Rattle.std.proofs.lemmas.Result.{err_from_is_err_and}
use Rattle.pkread.proofs.Bytes.Behind.{field_grows, field_stops}
use Rattle.pkread.proofs.Bytes.Judged.{all_judged}
use Rattle.pkread.proofs.gathering.Gathering.fixed.Goals as goal

pub returns-in_err-take_field-clause-takes : goal.returns-in_err-take_field-clause-takes
returns-in_err-take_field-clause-takes g c =
    let p = err_from_is_err_and c.from_residual.result c.from_residual.ensures.1 in
    let n = g.row.N in
    let laws = c.growth.ensures in
    let why = c.in_err-take_field.ensures.takes in
    rw (p.1, p.2) (λ limit. field_stops laws.begun laws.field limit n c.args.op _ _ _
    c.requires.code
    c.requires.width why)

pub judged-requires : goal.judged-requires
judged-requires g c =
    let k = field_grows c.growth.ensures.field 0 g.row.N c.args.op _ _ c.requires.code
    c.requires.fixed c.requires.width c.in_ok-take_field.ensures.takes in
    (0, k.arg, rw c.bytes.ensures k.lies)

pub returns-clause-takes : goal.returns-clause-takes
returns-clause-takes g c = λ limit.
    let laws = c.growth.ensures in
    let judged = c.judged.ensures in
    let k = field_grows laws.field limit g.row.N c.args.op _ _ c.requires.code c.requires.fixed
    c.requires.width c.in_ok-take_field.ensures.takes in
    all_judged c.args.op 0 _ _ _ c.bytes.ensures laws.begun limit c.judged.result k judged.ok
    judged.err
