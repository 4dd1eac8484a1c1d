-- One byte behind its code is a field of one, and the whole argument.
use Rattle.std.proofs.Common.{◌≡◌, refl}
use Rattle.std.proofs.lemmas.Result.{err_from_is_err_and}
use Rattle.pkops.specs.KnownLayout.{field_len, IsFixed}
use Rattle.pkops.specs.Spelling.{layout_at}
use Rattle.pkread.proofs.Bytes.Behind.{field_grows, field_stops}
use Rattle.pkread.proofs.Bytes.Judged.{all_judged}
use Rattle.pkread.proofs.Bytes.Taken.{took_one}
use Rattle.pkread.proofs.gathering.Gathering.one_byte.Goals as goal

pub returns-in_err-take_byte-clause-takes : goal.returns-in_err-take_byte-clause-takes
returns-in_err-take_byte-clause-takes g c =
    let p = err_from_is_err_and c.from_residual.result c.from_residual.ensures.1 in
    let w : 1 ≡ field_len (layout_at c.args.op) = rw c.requires.lay refl in
    let laws = c.growth.ensures in
    let why = c.in_err-take_byte.ensures.takes in
    rw (p.1, p.2) (λ limit. field_stops laws.begun laws.field limit 1 c.args.op _ _ _
    c.requires.code
    w why)

pub judged-requires : goal.judged-requires
judged-requires g c =
    let w : 1 ≡ field_len (layout_at c.args.op) = rw c.requires.lay refl in
    let f : IsFixed (layout_at c.args.op) = rw c.requires.lay tt in
    let one = took_one _ _ _ c.in_ok-take_byte.ensures.takes in
    let k = field_grows c.growth.ensures.field 0 1 c.args.op _ _ c.requires.code f w one in
    (0, k.arg, rw c.bytes.ensures k.lies)

pub returns-clause-takes : goal.returns-clause-takes
returns-clause-takes g c = λ limit.
    let w : 1 ≡ field_len (layout_at c.args.op) = rw c.requires.lay refl in
    let f : IsFixed (layout_at c.args.op) = rw c.requires.lay tt in
    let one = took_one _ _ _ c.in_ok-take_byte.ensures.takes in
    let laws = c.growth.ensures in
    let judged = c.judged.ensures in
    let k = field_grows laws.field limit 1 c.args.op _ _ c.requires.code f w one in
    all_judged c.args.op 0 _ _ _ c.bytes.ensures laws.begun limit c.judged.result k judged.ok
    judged.err
