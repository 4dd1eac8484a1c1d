-- A part with the gap before it marks the instruction at its offset, and notes a FRAME.
use Rattle.std.proofs.Common.{◌≡◌, ◌+◌, ◌++◌, ◌∷◌, [], ◌||◌, List, ap, sym, ◌∙◌, rules}
use Rattle.pkopt.specs.declared.place.Part.{Part}
use Rattle.pkopt.specs.declared.place.Place.{Place}
use Rattle.pkopt.specs.Private.Packing.{part_with}
use Rattle.pkopt.specs.Private.Places.{place}
use Rattle.pkopt.specs.Slim.{is_frame}
use Rattle.pkopt.proofs.MemoWrites.Parts.{frames_more, marked_at}
use Rattle.pkopt.proofs.trace.Trace.place.Goals as goal

pub returns-clause-places : goal.returns-clause-places
returns-clause-places c = λ h.
    let s = c.in_ok-gap.ensures.skips h in
    let moved : c.in-Some.end ≡ c.args.at + c.args.size = search rules in
    let grown = c.in_ok-push.ensures.items
    ∙ ap (λ (x : Part). c.pass_to.new.self.parts.items ++ x ∷ []) c.in-Some-new.ensures in
    let part = part_with c.in_ok-gap.gap c.args.size c.args.op in
    let m = marked_at part c.args.at _ _ _ _ c.requires grown c.in_ok-gap.ensures.gap moved
    s.0.0 in
    let framed = c.with_frame-self.ensures ∙ ap (λ b. b || is_frame c.args.op) s.0.1
    ∙ sym (frames_more _ _ part grown) in (
      (m.0, framed),
      m.1 ∙ ap (λ (l : List Place). l ++ place c.args.at c.args.size c.args.op ∷ []) s.1,
    )
