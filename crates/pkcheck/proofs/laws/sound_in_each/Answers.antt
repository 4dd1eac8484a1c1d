-- Runs that end well under Unknown end well under Ascii and Bytes, whose runs are among them.
use Rattle.pkcheck.proofs.Wholes.EachSetting.{sound_in_each}
use Rattle.pkcheck.proofs.laws.sound_in_each.Goals as goal

pub returns : goal.returns
returns c = sound_in_each
