-- Bytes at the back and one more end make one more text; the earlier ones keep their ends.
use Rattle.std.proofs.Common.{◌∷◌, [], ◌++◌, ◌∙◌, ap, arith, length-append}
use Rattle.std.specs.Prelude.{length}
use Rattle.pkimport.specs.Private.Joined.{AreJoined, cut}
use Rattle.pkimport.proofs.JoinedTexts.{cut_joined, joined_cut, joined_more}
use Rattle.pkimport.proofs.texts.Texts.push_within_capacity.Goals as goal

more : (c : goal.Else-not-push_within_capacity-2)
    → AreJoined (cut 0 c.self.inside.ends c.self.inside.bytes ++ c.args.text.now ∷ [])
    c.push_within_capacity-2.new.self c.push_within_capacity.new.self
more c =
    let bytes = c.push_within_capacity.ensures.pushed c.if-not-push_within_capacity.false in
    let ends = c.push_within_capacity-2.ensures.pushed c.if-not-push_within_capacity-2.false in
    rw (bytes, ends)
    (joined_more _ c.self.inside.ends c.self.inside.bytes c.args.text.now _ c.self.invariant
    c.requires (omega (
      arith,
      c.len.ensures.value,
      ap length bytes,
      length-append c.self.inside.bytes c.args.text.now,
    )))

pub invariant_of-self-else-not-push_within_capacity-2
    : goal.invariant_of-self-else-not-push_within_capacity-2
invariant_of-self-else-not-push_within_capacity-2 c =
    joined_cut _ c.push_within_capacity-2.new.self c.push_within_capacity.new.self (more c)

pub returns-clause-pushed : goal.returns-clause-pushed
returns-clause-pushed c = λ h.
    cut_joined _ c.push_within_capacity-2.new.self c.push_within_capacity.new.self (more c)
    ∙ ap (λ ts. ts ++ c.args.text.now ∷ []) c.self.view_is
