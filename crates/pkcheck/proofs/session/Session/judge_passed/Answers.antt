-- Frame rules and machine look at opcode and length alone, so any such instruction goes alike.
use Rattle.std.proofs.Common.{◌≡◌, ◌∙◌, Some, ap, inr, subst, sym}
use Rattle.std.proofs.lemmas.Result.{err_from_is_err_and}
use Rattle.pkread.specs.Framing.{counted}
use Rattle.pkcheck.proofs.Wholes.Payloads.{piece_passed}
use Rattle.pkcheck.proofs.session.Session.judge_passed.Goals as goal

pub returns-clause-ok : goal.returns-clause-ok
returns-clause-ok g c i l =
    let before = c.self.inside in
    let piece = piece_passed i c.args.op c.args.length c.requires.passed l in
    let framed = subst (λ x. counted before.frames x ≡ Some c.take.new.self) (sym piece)
    c.in_ok-take.ensures in
    let goes_on = (c.in_ok-step_passed_by.ensures.step i l.op_is).goes_on in
    rw (← c.self.view_is) (framed, (c.in_ok-step_passed_by.field-0, goes_on))

pub returns-in_err-step_passed_by-clause-err : goal.returns-in_err-step_passed_by-clause-err
returns-in_err-step_passed_by-clause-err g c =
    let p = err_from_is_err_and c.from_residual-in_err-step_passed_by.result
    c.from_residual-in_err-step_passed_by.ensures.1 in
    let before = c.self.inside in
    let well = ap (λ v. v.machine.refused) c.self.view_is ∙ c.requires.well in
    rw (p.1, p.2, ← c.self.view_is) (λ i l.
    let piece = piece_passed i c.args.op c.args.length c.requires.passed l in
    let framed = subst (λ x. counted before.frames x ≡ Some c.take.new.self) (sym piece)
    c.in_ok-take.ensures in
    inr ((c.take.new.self, framed), (c.in_err-step_passed_by.ensures.step i l.op_is).fails well))
