-- A quick way that declines has changed nothing, so the next one starts from the same stack.
use Rattle.pkmachine.proofs.StepParts.Replaced.{has_operated}
use Rattle.pkmachine.proofs.operate.nameless.operate_unnamed.Goals as goal

pub returns-then-make_quickly : goal.returns-then-make_quickly
returns-then-make_quickly g c = has_operated c.args.limits.now c.requires.within
    (c.make_quickly.ensures.done c.if-make_quickly.true)

pub returns-then-fill_quickly : goal.returns-then-fill_quickly
returns-then-fill_quickly g c =
    let kept = c.make_quickly.ensures.kept c.if-make_quickly.false in
    let still = c.make_quickly.ensures.still c.if-make_quickly.false in
    rw (← kept, ← still)
    (has_operated c.args.limits.now (rw kept c.requires.within)
    (c.fill_quickly.ensures.done c.if-fill_quickly.true))

pub returns : goal.returns
returns g c = rw (
  ← (c.make_quickly.ensures.kept c.if-make_quickly.false),
  ← (c.fill_quickly.ensures.kept c.if-fill_quickly.false),
  ← (c.make_quickly.ensures.still c.if-make_quickly.false),
  ← (c.fill_quickly.ensures.still c.if-fill_quickly.false),
) c.operate_any.ensures
