-- The buffer has one end for each text.
use Rattle.std.proofs.Common.{ap, arith, length}
use Rattle.pkimport.proofs.JoinedTexts.{how_many}
use Rattle.pkimport.proofs.texts.Texts.len.Goals as goal

pub returns : goal.returns
returns c =
    let many = how_many _ c.self.inside.ends c.self.inside.bytes c.self.invariant in
    let same = ap length c.self.view_is in
    omega (arith, c.len.ensures.value, many, same)
