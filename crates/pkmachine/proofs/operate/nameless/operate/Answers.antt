-- An effect that imports nothing is given by what it takes and what it leaves.
use Rattle.pkmachine.specs.Effects.{effect_of}
use Rattle.pkmachine.proofs.StepParts.Operations.{unnamed_is}
use Rattle.pkmachine.proofs.operate.nameless.operate.Goals as goal

pub returns : goal.returns
returns g c =
    let is = unnamed_is (effect_of c.args.op) c.operation_of.result c.requires.unnamed
    c.operation_of.ensures in
    record {
      ok = rw is c.replace.ensures.ok;
      followed = rw is c.replace.ensures.follows;
      sees = c.replace.ensures.sees;
      room = c.replace.ensures.room;
      kept = c.replace.ensures.kept;
      err = rw is c.replace.ensures.err;
    }
