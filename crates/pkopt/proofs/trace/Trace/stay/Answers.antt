-- A part of bytes that stay adds no place, and no FRAME.
use Rattle.std.proofs.Math.Bool.{or-false}
use Rattle.std.proofs.Common.{◌≡◌, ◌+◌, ◌++◌, ◌∷◌, [], ap, sym, ◌∙◌, refl, rules}
use Rattle.pkops.specs.declared.Op.TheVariants.{Stop}
use Rattle.pkopt.specs.declared.place.Part.{Part}
use Rattle.pkopt.specs.Private.Packing.{part_with}
use Rattle.pkopt.specs.Private.Places.{has_frames}
use Rattle.pkopt.proofs.MemoWrites.Parts.{frames_more, stayed}
use Rattle.pkopt.proofs.trace.Trace.stay.Goals as goal

pub returns-clause-skips : goal.returns-clause-skips
returns-clause-skips c = λ h.
    let moved : c.in-Some.end ≡ c.args.self.now.end + c.args.size = search rules in
    let grown = c.in_ok-push.ensures.items
    ∙ ap (λ (x : Part). c.args.self.now.parts.items ++ x ∷ []) c.in-Some-new.ensures in
    let part = part_with 0 c.args.size Stop in
    let s = stayed part _ _ _ _ refl refl grown moved h.0 in
    let before = has_frames c.args.self.now.parts.items in
    ((s.0, h.1 ∙ sym (frames_more _ _ part grown ∙ or-false before)), s.1)
