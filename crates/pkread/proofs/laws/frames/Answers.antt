-- Frames go on with what counting accepts, hold over all of it, and break at what it refuses.
use Rattle.pkread.proofs.Framing.SoFar.{frames_break, frames_go_on, frames_hold}
use Rattle.pkread.proofs.laws.frames.Goals as goal

pub returns-clause-more : goal.returns-clause-more
returns-clause-more c = frames_go_on

pub returns-clause-all : goal.returns-clause-all
returns-clause-all c = frames_hold

pub returns-clause-refused : goal.returns-clause-refused
returns-clause-refused c = frames_break
