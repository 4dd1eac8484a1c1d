-- The bytes up to the first line feed, if they are few enough and good, are the line in front.
use Rattle.std.proofs.Common.{◌-◌, drop, refl, sym, take}
use Rattle.pkread.proofs.Bytes.FrontLines.{front_suits, line_front}
use Rattle.pkread.proofs.front.line_length.Goals as goal

pub is_good-requires : goal.is_good-requires
is_good-requires g =
    front_suits g.args.op g.args.most g.in-Some.end _ g.requires.lay (sym g.in-Some.ensures)
    g.if-end-most.false

pub returns : goal.returns
returns g limit some =
    let count = g.min.result - 1 in
    let line = take count (drop 1 g.args.bytes.now) in
    line_front g.args.op g.args.most g.in-Some.end line g.requires.lay (sym g.in-Some.ensures)
    g.if-end-most.false count g.args.bytes.now g.requires.some g.requires.code refl
    (g.if-not-is_good.ensures) limit
