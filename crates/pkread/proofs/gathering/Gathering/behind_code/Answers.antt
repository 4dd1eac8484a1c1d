-- A code without an argument is a whole instruction, which nothing has to judge.
use Rattle.std.proofs.Common.{sym, ◌∙◌}
use Rattle.pkread.proofs.Bytes.Behind.{nothing_grows}
use Rattle.pkread.proofs.Bytes.Judged.{plain_finds}
use Rattle.pkread.proofs.Bytes.Plain.{plain_nothing, takes_any}
use Rattle.pkread.proofs.gathering.Gathering.behind_code.Goals as goal

pub returns-in-Nothing-clause-takes : goal.returns-in-Nothing-clause-takes
returns-in-Nothing-clause-takes g c =
    let lay = sym c.requires.lay ∙ c.in-Nothing.is in
    let limit = c.args.self.now.limits.counted in
    let grows = nothing_grows c.growth.ensures.field limit c.args.op _ c.requires.code lay in
    plain_finds limit c.args.op 0 _ _ (takes_any c.args.op (plain_nothing c.args.op lay)) grows
