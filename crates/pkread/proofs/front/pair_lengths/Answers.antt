-- Two line feeds end two lines, which with their code are the instruction in front.
use Rattle.std.proofs.Common.{◌-◌, ◌+◌, ◌≤◌, arith, drop, refl, sym, length-take}
use Rattle.pkread.proofs.Bytes.FrontLines.{both, pair_front, pair_suits}
use Rattle.pkread.proofs.front.pair_lengths.Goals as goal

pub is_good-requires : goal.is_good-requires
is_good-requires g =
    pair_suits g.args.op g.args.most g.in-Some.first g.in-Some-end_of_line.second _ _
    g.requires.lay (sym g.in-Some.ensures) g.if-first-most.false _ refl
    (sym g.in-Some-end_of_line.ensures) g.if-second-most.false

few : (g : goal.Else-not-is_good) → g.in-Some.first + g.in-Some-end_of_line.second + 2 ≤ 256
few g =
    let most = g.min.ensures in
    let inside = both g.args.op g.args.most g.in-Some.first g.in-Some-end_of_line.second _ _
    g.requires.lay (sym g.in-Some.ensures) g.if-first-most.false _ refl
    (sym g.in-Some-end_of_line.ensures) g.if-second-most.false in
    omega (arith, most, inside, length-take (g.min.result - 1) (drop 1 g.args.bytes.now))

pub both_lengths-requires-clause-first : goal.both_lengths-requires-clause-first
both_lengths-requires-clause-first g = omega (arith, few g)

pub both_lengths-requires-clause-length : goal.both_lengths-requires-clause-length
both_lengths-requires-clause-length g = omega (arith, few g)

pub returns : goal.returns
returns g limits some =
    let count = g.min.result - 1 in
    rw (g.both_lengths.ensures.first, g.both_lengths.ensures.length)
    (pair_front g.args.op g.args.most g.in-Some.first g.in-Some-end_of_line.second _ _
    g.requires.lay (sym g.in-Some.ensures) g.if-first-most.false _ refl
    (sym g.in-Some-end_of_line.ensures) g.if-second-most.false count g.args.bytes.now
    g.requires.some g.requires.code refl (g.if-not-is_good.ensures) limits)
