-- Bytes at the back and one more end make one more text; the earlier ones keep their ends.
use Rattle.std.proofs.Common.{◌∷◌, [], ◌++◌, ◌∙◌, ap, arith, length-append}
use Rattle.std.specs.Prelude.{length}
use Rattle.pkimport.specs.Private.Joined.{AreJoined, cut}
use Rattle.pkimport.proofs.JoinedTexts.{cut_joined, joined_cut, joined_more}
use Rattle.pkimport.proofs.texts.Texts.push.Goals as goal

more : (c : goal.In-Ok)
    → AreJoined (cut 0 c.self.inside.ends c.self.inside.bytes ++ c.args.text.now ∷ [])
    c.push-2.new.self c.push.new.self
more c = rw (c.in-Ok.ensures.ok, c.in_ok-push.ensures.ok)
    (joined_more _ c.self.inside.ends c.self.inside.bytes c.args.text.now _ c.self.invariant
    c.requires (omega (
      arith,
      c.len.ensures.value,
      ap length c.in_ok-push.ensures.ok,
      length-append c.self.inside.bytes c.args.text.now,
    )))

pub invariant_of-self-in-Ok : goal.invariant_of-self-in-Ok
invariant_of-self-in-Ok c = joined_cut _ c.push-2.new.self c.push.new.self (more c)

pub returns-clause-ok : goal.returns-clause-ok
returns-clause-ok c = cut_joined _ c.push-2.new.self c.push.new.self (more c)
    ∙ ap (λ ts. ts ++ c.args.text.now ∷ []) c.self.view_is
